-- Whether a question is answered, and whether letters differ.
use Rattle.std.proofs.Common.{◌≡◌, ◌≢◌, ℕ, zero, suc, ◌+◌, ◌<◌, eqb, eq-eqb, Bool, true, false, List, [], ◌∷◌, ◌++◌, length, take, get_or, refl, sym, ap, subst, ◌∙◌, arith, IsTrue, length-take}
use Rattle.std.specs.Prelude.{◌||◌, Contains, slice_index_or}
use Rattle.std.specs.List.{list_any}
use Rattle.std.proofs.lemmas.Bool.Decides.{nat_tests}
use Rattle.std.proofs.lemmas.List.{take_more, get_or_default, get_or-take}
use Rattle.std.proofs.lemmas.List.Quantifiers.{all_pairs_push}
use Rattle.fol_core.specs.declared.sent.Sent.{Sent}
use Rattle.boole_table.specs.declared.table.TableAnswer.{TableAnswer}
use Rattle.boole_table.specs.Asked.{Differ}
use Rattle.boole_table.specs.Readers.{questions_of}

-- One of the answers is to the question.
abbrev pub asks : List TableAnswer → ℕ → Bool
asks answers q = list_any (λ (a : TableAnswer). eqb a.question q) answers

or_true : (b : Bool) → (b || true) ≡ true
or_true true = refl
or_true false = refl

same_number : (n q : ℕ) → eqb n q ≡ true → n ≡ q
same_number n q e = grind (arith, nat_tests)

asks_step : (a : TableAnswer) (more : List TableAnswer) (q : ℕ) → (asks more q ≡ true → Contains (questions_of more) q) → (c : Bool) → c ≡ eqb a.question q → (c || asks more q) ≡ true → Contains (questions_of (a ∷ more)) q
asks_step a more q h true e k = (0, omega arith, same_number a.question q (sym e))
asks_step a more q h false e k = let d : Contains (questions_of more) q = h k in (suc d.0, omega (arith, d.1), d.2)

asked_there : (answers : List TableAnswer) (q : ℕ) → asks answers q ≡ true → Contains (questions_of answers) q
asked_there [] q h = absurd (cc)
asked_there (a ∷ more) q h = asks_step a more q (asked_there more q) (eqb a.question q) refl h

there_asked : (answers : List TableAnswer) (q k : ℕ) → k < length (questions_of answers) → slice_index_or (questions_of answers) k q ≡ q → asks answers q ≡ true
there_asked [] q k h e = absurd (omega (arith, h))
there_asked (a ∷ more) q zero h e = ap (λ b. b || asks more q) (eq-eqb a.question q e)
there_asked (a ∷ more) q (suc k) h e = ap (λ b. eqb a.question q || b) (there_asked more q k (omega (arith, h)) e) ∙ or_true (eqb a.question q)

pub answered : (answers : List TableAnswer) (q : ℕ) (b : Bool) → b ≡ asks answers q → (IsTrue b → Contains (questions_of answers) q) × (Contains (questions_of answers) q → IsTrue b)
answered answers q b e = (λ h. asked_there answers q (sym e ∙ h), λ c. e ∙ there_asked answers q c.0 c.1 c.2)

-- letters that differ

pub differ_more : (ss : List Sent) (i : ℕ) (s : Sent) → i < length ss → s ≡ get_or ss i s → (Contains (take i ss) s → ⊥) → Differ (take i ss) → Differ (take (i + 1) ss)
differ_more ss i s h e none d =
    let f : take (i + 1) ss ≡ take i ss ++ s ∷ [] = take_more ss i s h ∙ ap (λ x. take i ss ++ x ∷ []) (sym e) in
    subst Differ (sym f) (all_pairs_push (λ (x y : Sent). x ≢ y) (take i ss) s d (λ k w l x. none (k, l, get_or_default (take i ss) k s w l ∙ x)))

pub differ_not : (ss : List Sent) (i : ℕ) (s : Sent) → i < length ss → s ≡ get_or ss i s → Contains (take i ss) s → Differ ss → ⊥
differ_not ss i s h e c d =
    let l : c.0 < i = omega (arith, c.1, length-take i ss) in
    d c.0 i s l h (sym (get_or-take i ss c.0 s l) ∙ c.2 ∙ e)
