-- The printed text of a well-formed sentence begins and ends with a visible byte and has no semicolon.
use Rattle.std.proofs.Common.{◌≡◌, ℕ, Bool, true, true≢false, List, [], ◌∷◌, ◌++◌, length, map, refl, sym, ap, ap₂, subst, ◌∙◌, arith}
use Rattle.std.specs.Prelude.{◌&&◌, nat_le}
use Rattle.std.specs.List.{list_all}
use Rattle.std.proofs.lemmas.Bool.{and_parts}
use Rattle.std.proofs.lemmas.Bool.Decides.{nat_tests}
use Rattle.fol_core.specs.Word.{Word, is_letter, goes_on, is_ident, is_predicate, is_variable, is_name}
use Rattle.fol_core.specs.Subst.{itself}
use Rattle.fol_core.specs.Blocks.{fits}
use Rattle.fol_core.specs.Formed.{formed, formed_step, is_formed_term, formed_term_step}
use Rattle.fol_core.specs.declared.sent.Term.{Term, roll-Term}
use Rattle.fol_core.specs.declared.sent.Term.TheOpen.{Term-F}
use Rattle.fol_core.specs.declared.sent.Term.TheOpen as term
use Rattle.fol_core.specs.declared.sent.Term.TheFolds.{ind-Term, fold-roll-Term, map-Term}
use Rattle.fol_core.specs.declared.sent.Sent.{Sent, roll-Sent}
use Rattle.fol_core.specs.declared.sent.Sent.TheOpen.{Sent-F}
use Rattle.fol_core.specs.declared.sent.Sent.TheOpen as f
use Rattle.fol_core.specs.declared.sent.Sent.TheFolds.{ind-Sent, fold-roll-Sent, map-Sent}
use Rattle.fol_core.proofs.Parts.{all_itself}
use Rattle.fol_text.specs.Printed.{Texts, shown, printed, printed_step, plain, with_connective, separated, term_text, term_step, atom_text, in_parentheses}
use Rattle.fol_text.proofs.WordKinds.{variable_ident, name_ident, predicate_ident}
use Rattle.fitch_file.proofs.PrintingInk.{is_ink, may_stand, may_begin, ends_after, begins_append, ends_append, holds_append, Inked}

-- texts that are put together

pub prefixed : (b : ℕ) (t : List ℕ) → may_begin b ≡ true → may_stand b ≡ true → Inked t → Inked (b ∷ t)
prefixed b t e i h = record { begins = e; holds = ap₂ ◌&&◌ i h.holds; ends = ends_append (b ∷ []) t h.ends }

pub joined : (t m u : List ℕ) → Inked t → list_all may_stand m ≡ true → Inked u → Inked (t ++ (m ++ u))
joined t m u h i k = record {
  begins = begins_append t (m ++ u) h.begins;
  holds = holds_append t (m ++ u) h.holds (holds_append m u i k.holds);
  ends = ends_append t (m ++ u) (ends_append m u k.ends);
}

joined_left : (t m u : List ℕ) → Inked t → list_all may_stand m ≡ true → Inked u → Inked ((t ++ m) ++ u)
joined_left t m u h i k = record {
  begins = begins_append (t ++ m) u (begins_append t m h.begins);
  holds = holds_append (t ++ m) u (holds_append t m h.holds i) k.holds;
  ends = ends_append (t ++ m) u k.ends;
}

grouped : (t : List ℕ) → Inked t → Inked (in_parentheses t)
grouped t h = record {
  begins = refl;
  holds = holds_append (40 ∷ t) (41 ∷ []) h.holds refl;
  ends = ends_append (40 ∷ t) (41 ∷ []) refl;
}

-- words and terms

letter_ink : (b : ℕ) → is_letter b ≡ true → is_ink b ≡ true
letter_ink b h = grind (arith, nat_tests)

letter_stands : (b : ℕ) → is_letter b ≡ true → may_stand b ≡ true
letter_stands b h = grind (arith, nat_tests)

letter_begins : (b : ℕ) → is_letter b ≡ true → may_begin b ≡ true
letter_begins b h = grind (arith, nat_tests)

goes_on_ink : (b : ℕ) → goes_on b ≡ true → is_ink b ≡ true
goes_on_ink b h = grind (arith, nat_tests)

goes_on_stands : (b : ℕ) → goes_on b ≡ true → may_stand b ≡ true
goes_on_stands b h = grind (arith, nat_tests)

word_stands : (bs : List ℕ) → list_all goes_on bs ≡ true → list_all may_stand bs ≡ true
word_stands [] h = refl
word_stands (b ∷ bs) h = let d = and_parts (goes_on b) (list_all goes_on bs) h in ap₂ ◌&&◌ (goes_on_stands b d.0) (word_stands bs d.1)

word_ends : (b : ℕ) (bs : List ℕ) → is_ink b ≡ true → list_all goes_on bs ≡ true → ends_after b bs ≡ true
word_ends b [] i h = i
word_ends b (c ∷ cs) i h = let d = and_parts (goes_on c) (list_all goes_on cs) h in word_ends c cs (goes_on_ink c d.0) d.1

pub ident_ink : (w : Word) → is_ident w ≡ true → Inked w
ident_ink [] h = absurd (cc)
ident_ink (b ∷ bs) h =
    let d = and_parts (is_letter b) (list_all goes_on bs) h in
    record { begins = letter_begins b d.0; holds = ap₂ ◌&&◌ (letter_stands b d.0) (word_stands bs d.1); ends = word_ends b bs (letter_ink b d.0) d.1 }

abbrev IsInkedTerm : Term → Type 0
IsInkedTerm u = is_formed_term u ≡ true → Inked (term_text u)

-- each of the terms
abbrev AreInkedTerms : List Term → Type 0
AreInkedTerms [] = Unit {0}
AreInkedTerms (u ∷ us) = IsInkedTerm u × AreInkedTerms us

listed_ink : (u : Term) (us : List Term) → IsInkedTerm u → AreInkedTerms us → (is_formed_term u && list_all is_formed_term us) ≡ true → Inked (separated (44 ∷ []) (map term_text (u ∷ us)))
listed_ink u [] f h i = f ((and_parts (is_formed_term u) true i).0)
listed_ink u (v ∷ us) f h i =
    let d = and_parts (is_formed_term u) (is_formed_term v && list_all is_formed_term us) i in
    joined_left (term_text u) (44 ∷ []) (separated (44 ∷ []) (map term_text (v ∷ us))) (f d.0) refl (listed_ink v us h.0 h.1 d.1)

called_ink : (g arguments : List ℕ) → Inked g → Inked arguments → Inked (g ++ in_parentheses arguments)
called_ink g arguments h i = joined g [] (in_parentheses arguments) h refl (grouped arguments i)

-- the induction over the term

abbrev HeldTerm : Type 0
HeldTerm = (u : Term) × IsInkedTerm u

abbrev bare_term : Term-F HeldTerm → Term-F Term
bare_term = map-Term HeldTerm Term (λ e. e.0)

abbrev terms_of : List HeldTerm → List Term
terms_of es = map (λ (e : HeldTerm). e.0) es

all_held : (es : List HeldTerm) → AreInkedTerms (terms_of es)
all_held [] = tt
all_held (e ∷ es) = (e.1, all_held es)

function_ink : (g : Word) (es : List HeldTerm) → ((is_name g && nat_le 1 (length (map is_formed_term (terms_of es)))) && list_all itself (map is_formed_term (terms_of es))) ≡ true →
    Inked (g ++ in_parentheses (separated (44 ∷ []) (map term_text (terms_of es))))
function_ink g [] i = absurd (true≢false (sym ((and_parts (is_name g) (nat_le 1 0) ((and_parts (is_name g && nat_le 1 0) true i).0)).1)))
function_ink g (e ∷ es) i =
    let (front, all) = and_parts (is_name g && nat_le 1 (length (map is_formed_term (terms_of (e ∷ es))))) (list_all itself (map is_formed_term (terms_of (e ∷ es)))) i in
    let symbol = and_parts (is_name g) (nat_le 1 (length (map is_formed_term (terms_of (e ∷ es))))) front in
    called_ink g (separated (44 ∷ []) (map term_text (terms_of (e ∷ es)))) (ident_ink g (name_ident g symbol.0))
    (listed_ink e.0 (terms_of es) e.1 (all_held es) (sym (all_itself is_formed_term (terms_of (e ∷ es))) ∙ all))

term_step_ink : (y : Term-F HeldTerm) → formed_term_step (map-Term Term Bool is_formed_term (bare_term y)) ≡ true → Inked (term_step (map-Term Term (List ℕ) term_text (bare_term y)))
term_step_ink (term.Var x) i = ident_ink x (variable_ident x i)
term_step_ink (term.Name n) i = ident_ink n (name_ident n i)
term_step_ink (term.App g es) i = function_ink g es i

term_ink : (u : Term) → is_formed_term u ≡ true → Inked (term_text u)
term_ink = ind-Term IsInkedTerm (λ l y is.
    subst (λ (m : Term-F Term). IsInkedTerm (roll-Term m)) is (λ i.
    subst Inked (sym (fold-roll-Term (List ℕ) term_step (bare_term y))) (term_step_ink y (sym (fold-roll-Term Bool formed_term_step (bare_term y)) ∙ i))))

all_inked : (us : List Term) → AreInkedTerms us
all_inked [] = tt
all_inked (u ∷ us) = (term_ink u, all_inked us)

terms_ink : (u : Term) (us : List Term) → (is_formed_term u && list_all is_formed_term us) ≡ true → Inked (separated (44 ∷ []) (map term_text (u ∷ us)))
terms_ink u us i = listed_ink u us (term_ink u) (all_inked us) i

-- The three texts of a sentence.
pub record ShowsInk (t : Texts) : Type 0 where
  pub alone : Inked t.alone
  pub part : Inked t.part
  pub denied : Inked t.denied

plain_ink : (t : List ℕ) → Inked t → ShowsInk (plain t)
plain_ink t h = record { alone = h; part = h; denied = prefixed 126 t refl refl h }

connected_ink : (t : List ℕ) → Inked t → ShowsInk (with_connective t)
connected_ink t h = record { alone = h; part = grouped t h; denied = prefixed 126 (in_parentheses t) refl refl (grouped t h) }

atom_ink : (p : Word) (ts : List Term) → is_predicate p ≡ true → list_all is_formed_term ts ≡ true → Inked (atom_text p ts)
atom_ink p [] i e = ident_ink p (predicate_ident p i)
atom_ink p (t ∷ ts) i e = joined p [] (in_parentheses (separated (44 ∷ []) (map term_text (t ∷ ts)))) (ident_ink p (predicate_ident p i)) refl (grouped (separated (44 ∷ []) (map term_text (t ∷ ts))) (terms_ink t ts e))

equation_ink : (a b : Term) → Inked (term_text a) → Inked (term_text b) → ShowsInk (printed_step (f.Eq a b))
equation_ink a b h i = record {
  alone = joined (term_text a) (32 ∷ 61 ∷ 32 ∷ []) (term_text b) h refl i;
  part = joined (term_text a) (32 ∷ 61 ∷ 32 ∷ []) (term_text b) h refl i;
  denied = joined (term_text a) (32 ∷ 35 ∷ 32 ∷ []) (term_text b) h refl i;
}

quantified_ink : (b : ℕ) (x : Word) (t : List ℕ) → may_begin b ≡ true → may_stand b ≡ true → is_variable x ≡ true → Inked t → Inked (b ∷ x ++ 32 ∷ t)
quantified_ink b x t e i v h = prefixed b (x ++ 32 ∷ t) e i (joined x (32 ∷ []) t (ident_ink x (variable_ident x v)) refl h)

-- the parts of a chain

abbrev IsInked : Sent → Type 0
IsInked p = formed p ≡ true → ShowsInk (shown p)

abbrev Held : Type 0
Held = (p : Sent) × IsInked p

abbrev sentences : List Held → List Sent
sentences es = map (λ (e : Held). e.0) es

abbrev part_texts : List Held → List (List ℕ)
part_texts es = map (λ (d : Texts). d.part) (map shown (sentences es))

parts_ink : (b : ℕ) → may_stand b ≡ true → (e : Held) (es : List Held) → (formed e.0 && list_all itself (map formed (sentences es))) ≡ true → Inked (separated (32 ∷ b ∷ 32 ∷ []) (part_texts (e ∷ es)))
parts_ink b t e [] i = (e.1 ((and_parts (formed e.0) true i).0)).part
parts_ink b t e (g ∷ es) i =
    let d = and_parts (formed e.0) (formed g.0 && list_all itself (map formed (sentences es))) i in
    let m : list_all may_stand (32 ∷ b ∷ 32 ∷ []) ≡ true = ap (λ c. true && (c && true)) t in
    joined_left (shown e.0).part (32 ∷ b ∷ 32 ∷ []) (separated (32 ∷ b ∷ 32 ∷ []) (part_texts (g ∷ es))) (e.1 d.0).part m (parts_ink b t g es d.1)

chain_ink : (b : ℕ) → may_stand b ≡ true → (es : List Held) → (nat_le 2 (length (map formed (sentences es))) && list_all itself (map formed (sentences es))) ≡ true → Inked (separated (32 ∷ b ∷ 32 ∷ []) (part_texts es))
chain_ink b t [] i = absurd (cc)
chain_ink b t (e ∷ es) i = parts_ink b t e es ((and_parts (nat_le 2 (length (map formed (sentences (e ∷ es))))) (formed e.0 && list_all itself (map formed (sentences es))) i).1)

-- the induction over the sentence

abbrev bare : Sent-F Held → Sent-F Sent
bare = map-Sent Held Sent (λ e. e.0)

step_ink : (y : Sent-F Held) → formed_step (map-Sent Sent Bool formed (bare y)) ≡ true → ShowsInk (printed_step (map-Sent Sent Texts shown (bare y)))
step_ink (f.Atom p ts) i =
    let d = and_parts (is_predicate p && fits p (length ts)) (list_all is_formed_term ts) i in
    plain_ink (atom_text p ts) (atom_ink p ts ((and_parts (is_predicate p) (fits p (length ts)) d.0).0) d.1)
step_ink (f.Eq a b) i = let d = and_parts (is_formed_term a) (is_formed_term b) i in equation_ink a b (term_ink a d.0) (term_ink b d.1)
step_ink f.Bottom i = plain_ink (94 ∷ []) (record { begins = refl; holds = refl; ends = refl })
step_ink (f.Not e) i = plain_ink (shown e.0).denied (e.1 i).denied
step_ink (f.And es) i = connected_ink (separated (32 ∷ 38 ∷ 32 ∷ []) (part_texts es)) (chain_ink 38 refl es i)
step_ink (f.Or es) i = connected_ink (separated (32 ∷ 124 ∷ 32 ∷ []) (part_texts es)) (chain_ink 124 refl es i)
step_ink (f.If d e) i =
    let p = and_parts (formed d.0) (formed e.0) i in
    connected_ink ((shown d.0).part ++ 32 ∷ 36 ∷ 32 ∷ (shown e.0).part) (joined (shown d.0).part (32 ∷ 36 ∷ 32 ∷ []) (shown e.0).part (d.1 p.0).part refl (e.1 p.1).part)
step_ink (f.Iff d e) i =
    let p = and_parts (formed d.0) (formed e.0) i in
    connected_ink ((shown d.0).part ++ 32 ∷ 37 ∷ 32 ∷ (shown e.0).part) (joined (shown d.0).part (32 ∷ 37 ∷ 32 ∷ []) (shown e.0).part (d.1 p.0).part refl (e.1 p.1).part)
step_ink (f.All x e) i = let p = and_parts (is_variable x) (formed e.0) i in plain_ink (64 ∷ x ++ 32 ∷ (shown e.0).part) (quantified_ink 64 x (shown e.0).part refl refl p.0 (e.1 p.1).part)
step_ink (f.Ex x e) i = let p = and_parts (is_variable x) (formed e.0) i in plain_ink (47 ∷ x ++ 32 ∷ (shown e.0).part) (quantified_ink 47 x (shown e.0).part refl refl p.0 (e.1 p.1).part)

shown_ink : (s : Sent) → formed s ≡ true → ShowsInk (shown s)
shown_ink = ind-Sent IsInked (λ l y is.
    subst (λ (m : Sent-F Sent). IsInked (roll-Sent m)) is (λ i.
    subst ShowsInk (sym (fold-roll-Sent Texts printed_step (bare y))) (step_ink y (sym (fold-roll-Sent Bool formed_step (bare y)) ∙ i))))

-- The printed text of a well-formed sentence begins and ends with a visible byte, has no semicolon and no line feed, and
-- begins with no bar and no bracket.
pub printed_ink : (s : Sent) → formed s ≡ true → Inked (printed s)
printed_ink s i = (shown_ink s i).alone
