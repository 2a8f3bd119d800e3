-- What is spelled is well formed, where its block predicates have their places; and what is well formed and closed is a
-- statement.
use Rattle.std.proofs.Common.{◌≡◌, ℕ, List, [], ◌∷◌, length, map, refl, ap, ap₂, sym, ◌∙◌, subst, Bool, true, false, IsTrue, rules, arith}
use Rattle.std.proofs.lemmas.Bool.{and_parts, le-leb}
use Rattle.std.proofs.lemmas.List.{length-map}
use Rattle.std.specs.Prelude.{◌&&◌, nat_le}
use Rattle.std.specs.List.{list_all}
use Rattle.fol_core.specs.declared.sent.Term.{Term, roll-Term}
use Rattle.fol_core.specs.declared.sent.Term.{the_lemmas as term_lemmas}
use Rattle.fol_core.specs.declared.sent.Term.TheVariants.{Var, Name, App}
use Rattle.fol_core.specs.declared.sent.Term.TheOpen.{Term-F}
use Rattle.fol_core.specs.declared.sent.Term.TheOpen as t
use Rattle.fol_core.specs.declared.sent.Term.TheFolds.{ind-Term, fold-roll-Term, map-Term}
use Rattle.fol_core.specs.declared.sent.Sent.{Sent, roll-Sent, the_lemmas}
use Rattle.fol_core.specs.declared.sent.Sent.TheVariants.{Atom, Eq, Bottom, Not, And, Or, If, Iff, All, Ex}
use Rattle.fol_core.specs.declared.sent.Sent.TheOpen.{Sent-F}
use Rattle.fol_core.specs.declared.sent.Sent.TheOpen as f
use Rattle.fol_core.specs.declared.sent.Sent.TheFolds.{ind-Sent, fold-roll-Sent, map-Sent}
use Rattle.fol_core.specs.Word.{Word, is_ident, is_predicate, is_variable, is_name}
use Rattle.fol_core.specs.Subst.{itself}
use Rattle.fol_core.specs.Blocks.{has_places, fits}
use Rattle.fol_core.specs.Closed.{is_among, is_bound, bound_step, closed_under, closed_step, closed}
use Rattle.fol_core.specs.Formed.{formed, formed_step, is_formed_term, formed_term_step}
use Rattle.fol_core.specs.Statements.{grounded, grounded_step, stated_under, stated_step, statement}
use Rattle.fol_core.proofs.Parts.{all_itself}
use Rattle.fol_core.proofs.Forms.{places_and, places_or, places_atom}
use Rattle.fol_text.specs.declared.token.Token.{Token}
use Rattle.fol_text.specs.Grammar.{SpellsTerm, variable, name, function, SpellsTerms, last_term, more_terms, Spells, one_part, conjunction, disjunction, conditional, biconditional, SpellsParts, last_part, more_parts, SpellsPart, letter, atom, equation, inequation, falsum, negation, universal, existential, group}
use Rattle.fol_text.specs.Readable.{IsReadable}
use Rattle.fol_text.proofs.WordKinds.{variable_ident, name_ident, predicate_ident}

both : (a b : Bool) → a ≡ true → b ≡ true → (a && b) ≡ true
both a b e g = ap₂ ◌&&◌ e g

-- what it says of each form that it is well formed

formed_var : (x : Word) → is_formed_term (Var x) ≡ is_variable x
formed_var x = search (rules, term_lemmas)

formed_name : (n : Word) → is_formed_term (Name n) ≡ is_name n
formed_name n = search (rules, term_lemmas)

formed_app : (g : Word) (ts : List Term) → is_formed_term (App g ts) ≡ (is_name g && nat_le 1 (length ts) && list_all is_formed_term ts)
formed_app g ts =
    let e : is_formed_term (App g ts) ≡ (is_name g && nat_le 1 (length (map is_formed_term ts)) && list_all itself (map is_formed_term ts)) = search (rules, term_lemmas) in
    e ∙ ap₂ (λ n a. is_name g && nat_le 1 n && a) (length-map ts is_formed_term) (all_itself is_formed_term ts)

formed_atom : (p : Word) (ts : List Term) → formed (Atom p ts) ≡ (is_predicate p && fits p (length ts) && list_all is_formed_term ts)
formed_atom p ts = search (rules, the_lemmas)

formed_eq : (a b : Term) → formed (Eq a b) ≡ (is_formed_term a && is_formed_term b)
formed_eq a b = search (rules, the_lemmas)

formed_bottom : formed Bottom ≡ true
formed_bottom = search (rules, the_lemmas)

formed_not : (s : Sent) → formed (Not s) ≡ formed s
formed_not s = search (rules, the_lemmas)

formed_and : (ss : List Sent) → formed (And ss) ≡ (nat_le 2 (length ss) && list_all formed ss)
formed_and ss =
    let e : formed (And ss) ≡ (nat_le 2 (length (map formed ss)) && list_all itself (map formed ss)) = search (rules, the_lemmas) in
    e ∙ ap₂ (λ n a. nat_le 2 n && a) (length-map ss formed) (all_itself formed ss)

formed_or : (ss : List Sent) → formed (Or ss) ≡ (nat_le 2 (length ss) && list_all formed ss)
formed_or ss =
    let e : formed (Or ss) ≡ (nat_le 2 (length (map formed ss)) && list_all itself (map formed ss)) = search (rules, the_lemmas) in
    e ∙ ap₂ (λ n a. nat_le 2 n && a) (length-map ss formed) (all_itself formed ss)

formed_if : (s u : Sent) → formed (If s u) ≡ (formed s && formed u)
formed_if s u = search (rules, the_lemmas)

formed_iff : (s u : Sent) → formed (Iff s u) ≡ (formed s && formed u)
formed_iff s u = search (rules, the_lemmas)

formed_all : (x : Word) (s : Sent) → formed (All x s) ≡ (is_variable x && formed s)
formed_all x s = search (rules, the_lemmas)

formed_ex : (x : Word) (s : Sent) → formed (Ex x s) ≡ (is_variable x && formed s)
formed_ex x s = search (rules, the_lemmas)

placed_eq : (a b : Term) → has_places (Eq a b) ≡ true
placed_eq a b = search (rules, the_lemmas)

placed_bottom : has_places Bottom ≡ true
placed_bottom = search (rules, the_lemmas)

placed_not : (s : Sent) → has_places (Not s) ≡ has_places s
placed_not s = search (rules, the_lemmas)

placed_if : (s u : Sent) → has_places (If s u) ≡ (has_places s && has_places u)
placed_if s u = search (rules, the_lemmas)

placed_iff : (s u : Sent) → has_places (Iff s u) ≡ (has_places s && has_places u)
placed_iff s u = search (rules, the_lemmas)

placed_all : (x : Word) (s : Sent) → has_places (All x s) ≡ has_places s
placed_all x s = search (rules, the_lemmas)

placed_ex : (x : Word) (s : Sent) → has_places (Ex x s) ≡ has_places s
placed_ex x s = search (rules, the_lemmas)

-- terms

some_terms : {n : ℕ} {ks : List Token} {ts : List Term} → SpellsTerms n ks ts → nat_le 1 (length ts) ≡ true
some_terms (last_term n ks u i) = le-leb 1 (length (u ∷ [])) (omega arith)
some_terms (more_terms n ks js u ts i q) = le-leb 1 (length (u ∷ ts)) (omega arith)

mutual
  term_formed : {n : ℕ} {ks : List Token} {u : Term} → SpellsTerm n ks u → is_formed_term u ≡ true
  term_formed (variable n x i) = formed_var x ∙ i
  term_formed (name n k i) = formed_name k ∙ i
  term_formed (function n g ks ts i q) = formed_app g ts ∙ both _ _ (both _ _ i (some_terms q)) (terms_formed q)

  terms_formed : {n : ℕ} {ks : List Token} {ts : List Term} → SpellsTerms n ks ts → list_all is_formed_term ts ≡ true
  terms_formed (last_term n ks u i) = both _ _ (term_formed i) refl
  terms_formed (more_terms n ks js u ts i q) = both _ _ (term_formed i) (terms_formed q)

-- sentences

atom_formed : (p : Word) (ts : List Term) → is_predicate p ≡ true → list_all is_formed_term ts ≡ true → formed (Atom p ts) ≡ has_places (Atom p ts)
atom_formed p ts i h = formed_atom p ts ∙ ap₂ (λ a b. a && fits p (length ts) && b) i h ∙ and_true (fits p (length ts)) ∙ sym (places_atom p ts)
  where
    and_true : (a : Bool) → (a && true) ≡ a
    and_true true = refl
    and_true false = refl

equation_formed : (a b : Term) → is_formed_term a ≡ true → is_formed_term b ≡ true → formed (Eq a b) ≡ has_places (Eq a b)
equation_formed a b h k = formed_eq a b ∙ both _ _ h k ∙ sym (placed_eq a b)

under_variable : (x : Word) (a b : Bool) → is_variable x ≡ true → a ≡ b → (is_variable x && a) ≡ b
under_variable x a b i e = ap₂ ◌&&◌ i e

more_parts_than_one : {k : Token} {n : ℕ} {ks : List Token} {ss : List Sent} → SpellsParts k n ks ss → (s : Sent) → nat_le 2 (length (s ∷ ss)) ≡ true
more_parts_than_one (last_part k n ks u q) s = le-leb 2 (length (s ∷ u ∷ [])) (omega arith)
more_parts_than_one (more_parts k n ks js u ss q r) s = le-leb 2 (length (s ∷ u ∷ ss)) (omega arith)

mutual
  sentence_formed : {n : ℕ} {ks : List Token} {s : Sent} → Spells n ks s → formed s ≡ has_places s
  sentence_formed (one_part n ks s q) = part_formed q
  sentence_formed (conjunction n ks js s ss q r) = formed_and (s ∷ ss) ∙ ap₂ ◌&&◌ (more_parts_than_one r s) (ap₂ ◌&&◌ (part_formed q) (parts_formed r)) ∙ sym (places_and (s ∷ ss))
  sentence_formed (disjunction n ks js s ss q r) = formed_or (s ∷ ss) ∙ ap₂ ◌&&◌ (more_parts_than_one r s) (ap₂ ◌&&◌ (part_formed q) (parts_formed r)) ∙ sym (places_or (s ∷ ss))
  sentence_formed (conditional n ks js s u q r) = formed_if s u ∙ ap₂ ◌&&◌ (part_formed q) (part_formed r) ∙ sym (placed_if s u)
  sentence_formed (biconditional n ks js s u q r) = formed_iff s u ∙ ap₂ ◌&&◌ (part_formed q) (part_formed r) ∙ sym (placed_iff s u)

  parts_formed : {k : Token} {n : ℕ} {ks : List Token} {ss : List Sent} → SpellsParts k n ks ss → list_all formed ss ≡ list_all has_places ss
  parts_formed (last_part k n ks s q) = ap₂ ◌&&◌ (part_formed q) refl
  parts_formed (more_parts k n ks js s ss q r) = ap₂ ◌&&◌ (part_formed q) (parts_formed r)

  part_formed : {n : ℕ} {ks : List Token} {s : Sent} → SpellsPart n ks s → formed s ≡ has_places s
  part_formed (letter n p i) = atom_formed p [] i refl
  part_formed (atom n p ks ts i q) = atom_formed p ts i (terms_formed q)
  part_formed (equation n ks js a b i q) = equation_formed a b (term_formed i) (term_formed q)
  part_formed (inequation n ks js a b i q) = formed_not (Eq a b) ∙ equation_formed a b (term_formed i) (term_formed q) ∙ sym (placed_not (Eq a b))
  part_formed (falsum n) = formed_bottom ∙ sym placed_bottom
  part_formed (negation n ks s q) = formed_not s ∙ part_formed q ∙ sym (placed_not s)
  part_formed (universal n x ks s i q) = formed_all x s ∙ under_variable x (formed s) (has_places s) i (part_formed q) ∙ sym (placed_all x s)
  part_formed (existential n x ks s i q) = formed_ex x s ∙ under_variable x (formed s) (has_places s) i (part_formed q) ∙ sym (placed_ex x s)
  part_formed (group n ks s q) = sentence_formed q

-- What is readable is well formed.
pub readable_formed : (text : List ℕ) (s : Sent) → IsReadable text s → formed s ≡ true
readable_formed text s r = sentence_formed r.spells ∙ r.fit.places

-- well-formed terms that are bound

abbrev IsGroundedToo : List Word → Term → Type 0
IsGroundedToo B u = is_formed_term u ≡ true → is_bound B u ≡ true → grounded B u ≡ true

abbrev Grounded : List Word → Type 0
Grounded B = (u : Term) × IsGroundedToo B u

abbrev bare_term : (B : List Word) → Term-F (Grounded B) → Term-F Term
bare_term B = map-Term (Grounded B) Term (λ e. e.0)

args_grounded : (B : List Word) (es : List (Grounded B)) → list_all itself (map is_formed_term (map (λ (e : Grounded B). e.0) es)) ≡ true →
    list_all itself (map (is_bound B) (map (λ (e : Grounded B). e.0) es)) ≡ true → list_all itself (map (grounded B) (map (λ (e : Grounded B). e.0) es)) ≡ true
args_grounded B [] h k = refl
args_grounded B (e ∷ es) h k =
    let v = and_parts (is_formed_term e.0) _ h in
    let w = and_parts (is_bound B e.0) _ k in
    both _ _ (e.1 v.0 w.0) (args_grounded B es v.1 w.1)

as_many : {X Y Z : Type 0} (k : ℕ) (a : X → Y) (b : X → Z) (xs : List X) → nat_le k (length (map a xs)) ≡ true → nat_le k (length (map b xs)) ≡ true
as_many k a b xs h = ap (nat_le k) (length-map xs b ∙ sym (length-map xs a)) ∙ h

term_step : (B : List Word) (y : Term-F (Grounded B)) → formed_term_step (map-Term Term Bool is_formed_term (bare_term B y)) ≡ true →
    bound_step B (map-Term Term Bool (is_bound B) (bare_term B y)) ≡ true → grounded_step B (map-Term Term Bool (grounded B) (bare_term B y)) ≡ true
term_step B (t.Var x) h k = both _ _ (variable_ident x h) k
term_step B (t.Name n) h k = name_ident n h
term_step B (t.App g es) h k =
    let us = map (λ (e : Grounded B). e.0) es in
    let v = and_parts (is_name g && nat_le 1 (length (map is_formed_term us))) _ h in
    let w = and_parts (is_name g) _ v.0 in
    both _ _ (name_ident g w.0) (both _ _ (as_many 1 is_formed_term (grounded B) us w.1) (args_grounded B es v.1 k))

term_grounded : (B : List Word) (u : Term) → IsGroundedToo B u
term_grounded B = ind-Term (IsGroundedToo B) (λ l y is.
    subst (λ (w : Term-F Term). IsGroundedToo B (roll-Term w)) is (λ h k.
    fold-roll-Term Bool (grounded_step B) (bare_term B y)
    ∙ term_step B y (sym (fold-roll-Term Bool formed_term_step (bare_term B y)) ∙ h) (sym (fold-roll-Term Bool (bound_step B) (bare_term B y)) ∙ k)))

terms_grounded : (B : List Word) (us : List Term) → list_all is_formed_term us ≡ true → list_all (is_bound B) us ≡ true → list_all (grounded B) us ≡ true
terms_grounded B [] h k = refl
terms_grounded B (u ∷ us) h k =
    let v = and_parts (is_formed_term u) _ h in
    let w = and_parts (is_bound B u) _ k in
    both _ _ (term_grounded B u v.0 w.0) (terms_grounded B us v.1 w.1)

-- well-formed sentences that are closed

abbrev IsStatedToo : Sent → Type 0
IsStatedToo p = (B : List Word) → formed p ≡ true → closed_under p B ≡ true → stated_under p B ≡ true

abbrev Held : Type 0
Held = (p : Sent) × IsStatedToo p

abbrev bare : Sent-F Held → Sent-F Sent
bare = map-Sent Held Sent (λ e. e.0)

parts_stated : (es : List Held) (B : List Word) → list_all itself (map formed (map (λ (e : Held). e.0) es)) ≡ true →
    list_all (λ (g : List Word → Bool). g B) (map closed_under (map (λ (e : Held). e.0) es)) ≡ true →
    list_all (λ (g : List Word → Bool). g B) (map stated_under (map (λ (e : Held). e.0) es)) ≡ true
parts_stated [] B h k = refl
parts_stated (e ∷ es) B h k =
    let v = and_parts (formed e.0) _ h in
    let w = and_parts (closed_under e.0 B) _ k in
    both _ _ (e.1 B v.0 w.0) (parts_stated es B v.1 w.1)

chain_stated : (es : List Held) (B : List Word) →
    (nat_le 2 (length (map formed (map (λ (e : Held). e.0) es))) && list_all itself (map formed (map (λ (e : Held). e.0) es))) ≡ true →
    list_all (λ (g : List Word → Bool). g B) (map closed_under (map (λ (e : Held). e.0) es)) ≡ true →
    (nat_le 2 (length (map stated_under (map (λ (e : Held). e.0) es))) && list_all (λ (g : List Word → Bool). g B) (map stated_under (map (λ (e : Held). e.0) es))) ≡ true
chain_stated es B h k =
    let ps = map (λ (e : Held). e.0) es in
    let v = and_parts (nat_le 2 (length (map formed ps))) _ h in
    both _ _ (as_many 2 formed stated_under ps v.0) (parts_stated es B v.1 k)

two_stated : (d e : Held) (B : List Word) → (formed d.0 && formed e.0) ≡ true → (closed_under d.0 B && closed_under e.0 B) ≡ true → (stated_under d.0 B && stated_under e.0 B) ≡ true
two_stated d e B h k =
    let v = and_parts (formed d.0) (formed e.0) h in
    let w = and_parts (closed_under d.0 B) (closed_under e.0 B) k in
    both _ _ (d.1 B v.0 w.0) (e.1 B v.1 w.1)

quantifier_stated : (x : Word) (e : Held) (B : List Word) → (is_variable x && formed e.0) ≡ true → closed_under e.0 (x ∷ B) ≡ true → (is_ident x && stated_under e.0 (x ∷ B)) ≡ true
quantifier_stated x e B h k = let v = and_parts (is_variable x) (formed e.0) h in both _ _ (variable_ident x v.0) (e.1 (x ∷ B) v.1 k)

step_stated : (y : Sent-F Held) (B : List Word) → formed_step (map-Sent Sent Bool formed (bare y)) ≡ true →
    closed_step (map-Sent Sent (List Word → Bool) closed_under (bare y)) B ≡ true → stated_step (map-Sent Sent (List Word → Bool) stated_under (bare y)) B ≡ true
step_stated (f.Atom p ts) B h k =
    let v = and_parts (is_predicate p && fits p (length ts)) (list_all is_formed_term ts) h in
    both _ _ (predicate_ident p ((and_parts (is_predicate p) (fits p (length ts)) v.0).0)) (terms_grounded B ts v.1 k)
step_stated (f.Eq a b) B h k =
    let v = and_parts (is_formed_term a) (is_formed_term b) h in
    let w = and_parts (is_bound B a) (is_bound B b) k in
    both _ _ (term_grounded B a v.0 w.0) (term_grounded B b v.1 w.1)
step_stated f.Bottom B h k = refl
step_stated (f.Not e) B h k = e.1 B h k
step_stated (f.And es) B h k = chain_stated es B h k
step_stated (f.Or es) B h k = chain_stated es B h k
step_stated (f.If d e) B h k = two_stated d e B h k
step_stated (f.Iff d e) B h k = two_stated d e B h k
step_stated (f.All x e) B h k = quantifier_stated x e B h k
step_stated (f.Ex x e) B h k = quantifier_stated x e B h k

formed_stated : (p : Sent) → IsStatedToo p
formed_stated = ind-Sent IsStatedToo (λ l y is.
    subst (λ (m : Sent-F Sent). IsStatedToo (roll-Sent m)) is (λ B h k.
    ap (λ (g : List Word → Bool). g B) (fold-roll-Sent (List Word → Bool) stated_step (bare y))
    ∙ step_stated y B (sym (fold-roll-Sent Bool formed_step (bare y)) ∙ h) (sym (ap (λ (g : List Word → Bool). g B) (fold-roll-Sent (List Word → Bool) closed_step (bare y))) ∙ k)))

-- What is readable is a statement.
pub readable_stated : (text : List ℕ) (s : Sent) → IsReadable text s → IsTrue (statement s)
readable_stated text s r = formed_stated s [] (readable_formed text s r) r.fit.closed
