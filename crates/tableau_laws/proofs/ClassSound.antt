-- The classes, each on a branch of statements; what closes a branch.
use Rattle.std.proofs.Common.{◌≡◌, List, [], ◌∷◌, ◌++◌, map, filter, refl, ap, sym, ◌∙◌, subst, Bool, true, false, IsTrue, inl, inr, true≢false, Some, suc, length}
use Rattle.std.specs.Prelude.{if◌then◌else◌, not, ◌&&◌, ◌||◌}
use Rattle.std.specs.List.{AllByRecursion, list_any, flat_map, range_with_len}
use Rattle.std.proofs.lemmas.Bool.{and_parts}
use Rattle.fol_core.specs.declared.sent.Term.{Term}
use Rattle.fol_core.specs.declared.sent.Term.TheVariants.{Name}
use Rattle.fol_core.specs.declared.sent.Sent.{Sent, out-Sent, roll-Sent}
use Rattle.fol_core.specs.declared.sent.Sent.TheVariants.{Eq, Bottom, Not}
use Rattle.fol_core.specs.declared.sent.Sent.TheVariants as v
use Rattle.fol_core.specs.declared.sent.Sent.TheOpen.{Sent-F}
use Rattle.fol_core.specs.declared.sent.Sent.TheOpen as f
use Rattle.fol_core.specs.Word.{Word, is_ident}
use Rattle.fol_core.specs.Statements.{statement, ground, AreStatements}
use Rattle.fol_core.proofs.TermEquality.{same_only}
use Rattle.fol_core.proofs.Stating.{stated_bottom}
use Rattle.fol_core.proofs.Instances.{name_ground}
use Rattle.deriv_laws.specs.Eigen.{AreWithout}
use Rattle.deriv_laws.specs.Derivable.{Der}
use Rattle.deriv_laws.proofs.Laws.{weaken_by}
use Rattle.deriv_laws.proofs.Connectives.{cut, or_elim, bot_intro}
use Rattle.tableau_laws.specs.declared.literal.Literal.{Literal as Signed}
use Rattle.tableau_laws.specs.Branch.{denied, opposite, said, said_as, stands, terms_on, is_one_of}
use Rattle.tableau_laws.specs.Choice.{Choice}
use Rattle.tableau_laws.specs.Classes.{of_single, of_equation, of_witness, of_several, of_universal, fresh, is_fresh, numbered, or_first}
use Rattle.tableau_laws.specs.Clauses.{Clause, either_of, instances, not_denied, unit, split}
use Rattle.tableau_laws.specs.Choices.{choices, is_closed, is_contrary, is_none}
use Rattle.tableau_laws.specs.Refuted.{given_on, Refuted}
use Rattle.tableau_laws.proofs.Choosing.{or_cases}
use Rattle.tableau_laws.proofs.Lists.{Elem, all_at, all_both, elem_left}
use Rattle.tableau_laws.proofs.Finding.{found}
use Rattle.tableau_laws.proofs.TermsOn.{without_names, terms_ground}
use Rattle.tableau_laws.proofs.Numbered.{numbered_ident, fresh_ident}
use Rattle.tableau_laws.proofs.Standing.{stands_said}
use Rattle.tableau_laws.proofs.Refuting as c
use Rattle.tableau_laws.proofs.Refuting.{given, assume}
use Rattle.tableau_laws.proofs.Sound.{Branches, Sound, AllSound, single_sound, equation_sound, witness_sound, several_sound, universal_sound, opened, all_flat, said_in}

-- a disjunction of literals, some of which are denied

opposed : (gs : List Sent) (h : Bool) (s : Sent) → AreStatements gs → Elem gs (said_as (not h) s) → IsTrue (statement (said_as h s)) → Der (said_as h s ∷ gs) Bottom
opposed gs true s k m i = bot_intro (s ∷ gs) s (assume (s ∷ gs) s (inl refl) i) (weaken_by gs s (Not s) (given gs (Not s) k m))
opposed gs false s k m i = bot_intro (Not s ∷ gs) s (weaken_by gs (Not s) s (given gs s k m)) (assume (Not s ∷ gs) (Not s) (inl refl) i)

literal_step : (gs : List Sent) (l : Signed) (nd : List Signed) (X : Type 0) → (Branches gs (map (λ m. m ∷ []) nd) → X) → (t : Bool) → (t ≡ true → Der (said l ∷ gs) Bottom) →
    Branches gs (map (λ m. m ∷ []) (if not t then l ∷ nd else nd)) → Der (said l ∷ gs) Bottom × X
literal_step gs l nd X rest true g d = (g refl, rest d)
literal_step gs l nd X rest false g d = (d.0, rest d.1)

each_literal : (ax : List Sent) (b ls : List Signed) → AreStatements (map said b ++ ax) → AreStatements (map said ls) → Branches (map said b ++ ax) (map (λ m. m ∷ []) (not_denied b ls)) → AllByRecursion (λ l. Der (said l ∷ map said b ++ ax) Bottom) ls
each_literal ax b [] k i d = tt
each_literal ax b (l ∷ ls) k i d =
    let gs : List Sent = map said b ++ ax in
    literal_step gs l (not_denied b ls) (AllByRecursion (λ m. Der (said m ∷ gs) Bottom) ls) (each_literal ax b ls k i.1) (stands b (opposite l))
    (λ e. opposed gs l.holds l.sentence k (elem_left (map said b) ax (said (opposite l)) (stands_said b (opposite l) e)) i.0) d

said_each : (gs : List Sent) (ls : List Signed) → AllByRecursion (λ l. Der (said l ∷ gs) Bottom) ls → AllByRecursion (λ p. Der (p ∷ gs) Bottom) (map said ls)
said_each gs [] h = tt
said_each gs (l ∷ ls) h = (h.0, said_each gs ls h.1)

either_elim : (gs : List Sent) (ls : List Signed) → Der gs (either_of ls) → AllByRecursion (λ l. Der (said l ∷ gs) Bottom) ls → Der gs Bottom
either_elim gs [] d h = or_elim gs [] Bottom d tt (stated_bottom [])
either_elim gs (l ∷ []) d h = cut gs (said l) Bottom d h.0
either_elim gs (l ∷ m ∷ ls) d h = or_elim gs (map said (l ∷ m ∷ ls)) Bottom d (said_each gs (l ∷ m ∷ ls) h) (stated_bottom [])

-- the clauses' instances are derived, and closed
abbrev pub HasInstances : List Sent → List Clause → List Signed → Type 0
HasInstances gs cs b = AllByRecursion (λ ls. Der gs (either_of ls) × AreStatements (map said ls)) (instances cs b)

clause_refutes : (ax : List Sent) (b ls : List Signed) → AreStatements (map said b ++ ax) → Der (map said b ++ ax) (either_of ls) → AreStatements (map said ls) → Branches (map said b ++ ax) (map (λ m. m ∷ []) (not_denied b ls)) → Der (map said b ++ ax) Bottom
clause_refutes ax b ls k d i h = either_elim (map said b ++ ax) ls d (each_literal ax b ls k i h)

some_stated : (test : Signed → Bool) (ls : List Signed) → AreStatements (map said ls) → AreStatements (map said (filter test ls))
some_stated test [] h = tt
some_stated test (l ∷ ls) h = by (test l) (some_stated test ls h.1)
  where
    by : (b : Bool) → AreStatements (map said (filter test ls)) → AreStatements (map said (if b then l ∷ filter test ls else filter test ls))
    by true r = (h.0, r)
    by false r = r

ones_stated : (ls : List Signed) → AreStatements (map said ls) → AllByRecursion (λ ms. AreStatements (map said ms)) (map (λ m. m ∷ []) ls)
ones_stated [] h = tt
ones_stated (l ∷ ls) h = ((h.0, tt), ones_stated ls h.1)

unit_sound : (gs : List Sent) (nd : List Signed) → AreStatements (map said nd) → (Branches gs (map (λ m. m ∷ []) nd) → Der gs Bottom) → AllSound gs (unit nd)
unit_sound gs (l ∷ []) i g = (record { stated = ones_stated (l ∷ []) i; refutes = g }, tt)
unit_sound gs [] i g = tt
unit_sound gs (l ∷ m ∷ ls) i g = tt

split_sound : (gs : List Sent) (nd : List Signed) → AreStatements (map said nd) → (Branches gs (map (λ m. m ∷ []) nd) → Der gs Bottom) → AllSound gs (split nd)
split_sound gs (l ∷ m ∷ ls) i g = (record { stated = ones_stated (l ∷ m ∷ ls) i; refutes = g }, tt)
split_sound gs [] i g = tt
split_sound gs (l ∷ []) i g = tt

fresh_without : (b : List Signed) (n : Word) → fresh (terms_on b) ≡ Some n → AreWithout n (map said b)
fresh_without b n e = without_names n (fresh_ident (terms_on b) n e) b (not_true (is_one_of (Name n) (terms_on b)) (found (is_fresh (terms_on b)) (map numbered (range_with_len 1 (suc (length (terms_on b))))) n e))
  where
    not_true : (b : Bool) → not b ≡ true → b ≡ false
    not_true true h = sym h
    not_true false h = refl

or_first_ground : (ts : List Term) → AllByRecursion (λ t. IsTrue (ground t)) ts → AllByRecursion (λ t. IsTrue (ground t)) (or_first ts)
or_first_ground [] h = (name_ground (numbered 1) (numbered_ident 1), tt)
or_first_ground (t ∷ ts) h = h

-- the classes, each on a branch

on : (ax : List Sent) (b : List Signed) (l : Signed) → Elem b l → Elem (given_on ax b) (said l)
on ax b l h = elem_left (map said b) ax (said l) (said_in b l h)

pub singles_sound : (ax : List Sent) (b : List Signed) → AreStatements (given_on ax b) → AllSound (given_on ax b) (flat_map of_single b)
singles_sound ax b k = all_flat (Sound (given_on ax b)) of_single b (λ l h. single_sound (given_on ax b) k l.holds l.sentence (on ax b l h) (out-Sent l.sentence) (opened l.sentence))

pub equations_sound : (ax : List Sent) (b : List Signed) → AreStatements (given_on ax b) → AllSound (given_on ax b) (flat_map (of_equation b) b)
equations_sound ax b k = all_flat (Sound (given_on ax b)) (of_equation b) b (λ l h. equation_sound ax b l k l.holds l.sentence (on ax b l h) (out-Sent l.sentence) (opened l.sentence))

pub witnesses_sound : (ax : List Sent) → ((n : Word) → AreWithout n ax) → (b : List Signed) → AreStatements (given_on ax b) → AllSound (given_on ax b) (flat_map (of_witness (terms_on b)) b)
witnesses_sound ax w b k =
    let new : (n : Word) → fresh (terms_on b) ≡ Some n → IsTrue (is_ident n) × AreWithout n (given_on ax b) = λ n e. (fresh_ident (terms_on b) n e, all_both (λ s. _) (map said b) ax (fresh_without b n e) (w n)) in
    all_flat (Sound (given_on ax b)) (of_witness (terms_on b)) b (λ l h. witness_sound (given_on ax b) (terms_on b) k new l.holds l.sentence (on ax b l h) (out-Sent l.sentence) (opened l.sentence))

pub severals_sound : (ax : List Sent) (b : List Signed) → AreStatements (given_on ax b) → AllSound (given_on ax b) (flat_map of_several b)
severals_sound ax b k = all_flat (Sound (given_on ax b)) of_several b (λ l h. several_sound (given_on ax b) k l.holds l.sentence (on ax b l h) (out-Sent l.sentence) (opened l.sentence))

pub universals_sound : (ax : List Sent) (b : List Signed) → AreStatements (given_on ax b) → (t : Term) → IsTrue (ground t) → AllSound (given_on ax b) (flat_map (of_universal t) b)
universals_sound ax b k t g = all_flat (Sound (given_on ax b)) (of_universal t) b (λ l h. universal_sound (given_on ax b) t g k l.holds l.sentence (on ax b l h) (out-Sent l.sentence) (opened l.sentence))

instance_at : (gs : List Sent) (cs : List Clause) (b ls : List Signed) → HasInstances gs cs b → Elem (instances cs b) ls → Der gs (either_of ls) × AreStatements (map said ls)
instance_at gs cs b ls i h = all_at (λ ms. Der gs (either_of ms) × AreStatements (map said ms)) (instances cs b) ls i h

pub units_sound : (cs : List Clause) (ax : List Sent) (b : List Signed) → AreStatements (given_on ax b) → HasInstances (given_on ax b) cs b → AllSound (given_on ax b) (flat_map (λ ls. unit (not_denied b ls)) (instances cs b))
units_sound cs ax b k i = all_flat (Sound (given_on ax b)) (λ ls. unit (not_denied b ls)) (instances cs b) (λ ls h.
    let w = instance_at (given_on ax b) cs b ls i h in unit_sound (given_on ax b) (not_denied b ls) (some_stated _ ls w.1) (clause_refutes ax b ls k w.0 w.1))

pub splits_sound : (cs : List Clause) (ax : List Sent) (b : List Signed) → AreStatements (given_on ax b) → HasInstances (given_on ax b) cs b → AllSound (given_on ax b) (flat_map (λ ls. split (not_denied b ls)) (instances cs b))
splits_sound cs ax b k i = all_flat (Sound (given_on ax b)) (λ ls. split (not_denied b ls)) (instances cs b) (λ ls h.
    let w = instance_at (given_on ax b) cs b ls i h in split_sound (given_on ax b) (not_denied b ls) (some_stated _ ls w.1) (clause_refutes ax b ls k w.0 w.1))

pub choices_sound : (cs : List Clause) (ax : List Sent) (b : List Signed) → AreStatements (given_on ax b) → ((n : Word) → AreWithout n ax) → HasInstances (given_on ax b) cs b → AllSound (given_on ax b) (choices cs b)
choices_sound cs ax b k w i =
    let p : (Choice → Type 0) = Sound (given_on ax b) in
    let ts : List Term = or_first (terms_on b) in
    let each : AllByRecursion (λ t. IsTrue (ground t)) ts = or_first_ground (terms_on b) (terms_ground b) in
    all_both p _ _ (all_both p _ _ (all_both p _ _ (all_both p _ _ (all_both p _ _ (all_both p _ _ (singles_sound ax b k) (equations_sound ax b k)) (units_sound cs ax b k i)) (witnesses_sound ax w b k)) (severals_sound ax b k))
    (all_flat p (λ t. flat_map (of_universal t) b) ts (λ t h. universals_sound ax b k t (all_at (λ u. IsTrue (ground u)) ts t each h))))
    (splits_sound cs ax b k i)

-- what closes a branch

contrary_refutes : (gs : List Sent) → AreStatements gs → (h : Bool) (s : Sent) → Elem gs (said_as h s) → (w : Sent-F Sent) → s ≡ roll-Sent w → is_contrary h w ≡ true → Der gs Bottom
contrary_refutes gs k true s m f.Bottom e t = c.closes_bottom gs k (subst (λ z. Elem gs z) (e ∙ v.rolls-Bottom) m)
contrary_refutes gs k false s m (f.Eq t u) e q =
    c.closes_identity gs t k (subst (λ z. Elem gs (Not z)) (e ∙ v.rolls-Eq t u ∙ ap (λ z. Eq t z) (sym (same_only t u q))) m)
contrary_refutes gs k h s m _ e t = absurd (true≢false (sym t))

pub some_one : {X : Type 0} (test : X → Bool) (xs : List X) → list_any test xs ≡ true → (x : X) × Elem xs x × (test x ≡ true)
some_one test [] h = absurd (true≢false (sym h))
some_one test (x ∷ xs) h = elim (or_cases (test x) (list_any test xs) h) [
  | inl e ↦ (x, inl refl, e)
  | inr e ↦ (let w = some_one test xs e in (w.0, inr w.1, w.2))
]

pair_refutes : (gs : List Sent) (h : Bool) (s : Sent) → AreStatements gs → h ≡ true → Elem gs (said_as h s) → Elem gs (Not s) → Der gs Bottom
pair_refutes gs true s k e m n = c.closes_pair gs s k m n
pair_refutes gs false s k e m n = absurd (true≢false (sym e))

none_left : (gs : List Sent) (nd : List Signed) → is_none nd ≡ true → Branches gs (map (λ m. m ∷ []) nd)
none_left gs [] e = tt
none_left gs (l ∷ ls) e = absurd (true≢false (sym e))

pub closed_refuted : (cs : List Clause) (ax : List Sent) (b : List Signed) → AreStatements (map said b ++ ax) → HasInstances (map said b ++ ax) cs b → is_closed cs b ≡ true → Refuted ax b
unfolding is_closed
closed_refuted cs ax b k i h =
    let gs : List Sent = map said b ++ ax in
    elim (or_cases (list_any (λ l. l.holds && stands b (denied l.sentence)) b || list_any (λ l. is_contrary l.holds (out-Sent l.sentence)) b) (list_any (λ ls. is_none (not_denied b ls)) (instances cs b)) h) [
      | inl e ↦ elim (or_cases (list_any (λ l. l.holds && stands b (denied l.sentence)) b) (list_any (λ l. is_contrary l.holds (out-Sent l.sentence)) b) e) [
        | inl p ↦ (let w = some_one (λ l. l.holds && stands b (denied l.sentence)) b p in
            let q = and_parts (w.0.holds) (stands b (denied w.0.sentence)) w.2 in
            pair_refutes gs w.0.holds w.0.sentence k q.0 (on ax b w.0 w.1) (elem_left (map said b) ax (Not w.0.sentence) (stands_said b (denied w.0.sentence) q.1)))
        | inr p ↦ (let w = some_one (λ l. is_contrary l.holds (out-Sent l.sentence)) b p in
            contrary_refutes gs k w.0.holds w.0.sentence (on ax b w.0 w.1) (out-Sent w.0.sentence) (opened w.0.sentence) w.2)
      ]
      | inr e ↦ (let w = some_one (λ ls. is_none (not_denied b ls)) (instances cs b) e in
          let d = all_at (λ ms. Der gs (either_of ms) × AreStatements (map said ms)) (instances cs b) w.0 i w.1 in
          clause_refutes ax b w.0 k d.0 d.1 (none_left gs (not_denied b w.0) w.2))
    ]
