-- What the parts of the reader and of the grader come to.
use Rattle.std.proofs.Common.{◌≡◌, ℕ, List, [], ◌++◌, length, sym, ap, ap₂, ◌∙◌, Result, Ok, Err, inl, inr, IfOk, IfErr}
use Rattle.std.specs.Prelude.{◌⊎◌, IsErrAnd}
use Rattle.fol_core.specs.declared.sent.Sent.{Sent}
use Rattle.taut_con.specs.Letters.{letters}
use Rattle.boole_table.specs.declared.fault.TableTextFault.{TableTextFault}
use Rattle.boole_table.specs.declared.fault.TableTextFault.TheVariants.{Memory}
use Rattle.boole_table.specs.declared.table.TableText.{TableText}
use Rattle.boole_table.specs.declared.table.Question.{Question}
use Rattle.boole_table.specs.declared.table.TableVerdict.{TableVerdict}
use Rattle.boole_table.specs.declared.table.TableVerdict.TheVariants.{Correct, Unreadable}
use Rattle.boole_table.specs.Asked.{Asked, exercise}
use Rattle.boole_table.specs.TableLines.{SpellsTable}
use Rattle.boole_table.specs.TableFaults.{IsFirstTableFault}
use Rattle.boole_table.specs.Verdict.{first_of, faults_of, IsVerdict}
use Rattle.boole_table.specs.Judges.{IsFirst}
use Rattle.boole_table.proofs.TableOnce.{IsSameFault, table_once, table_not_failing, fault_once}

-- What is read is what the text spells, and what it spells is read.
pub exactly : (asked : Asked) (text : List ℕ) (r : Result TableText (ℕ × TableTextFault)) → IfOk r (SpellsTable asked text) → IfErr r (λ e. (e.1 ≡ Memory) ⊎ IsFirstTableFault asked text e.0 e.1) →
    (t : TableText) → SpellsTable asked text t → (r ≡ Ok t) ⊎ IsErrAnd r (λ e. e.1 ≡ Memory)
exactly asked text (Ok s) h k t i = inl (ap (λ (x : TableText). let y : Result TableText (ℕ × TableTextFault) = Ok x in y) (table_once asked text s t h i))
exactly asked text (Err e) h (inl m) t i = inr m
exactly asked text (Err e) h (inr f) t i = absurd (table_not_failing asked text t e.0 e.1 i f)

-- A text has one verdict at most.
pub verdict_once : (ss : List Sent) (qs : List Question) (text : List ℕ) (v w : TableVerdict) → IsVerdict ss qs text v → IsVerdict ss qs text w → v ≡ w
verdict_once ss qs text v w (inl h) (inl k) =
    let s : IsSameFault h.0 k.0 h.1.0 k.1.0 = fault_once (exercise (letters ss) ss (length qs)) text h.0 k.0 h.1.0 k.1.0 h.1.1 k.1.1 in
    h.1.2 ∙ ap₂ Unreadable s.number s.is ∙ sym k.1.2
verdict_once ss qs text v w (inl h) (inr k) = absurd (table_not_failing (exercise (letters ss) ss (length qs)) text k.0 h.0 h.1.0 k.1.0 h.1.1)
verdict_once ss qs text v w (inr h) (inl k) = absurd (table_not_failing (exercise (letters ss) ss (length qs)) text h.0 k.0 k.1.0 h.1.0 k.1.1)
verdict_once ss qs text v w (inr h) (inr k) = h.1.1 ∙ ap (λ (t : TableText). first_of (faults_of ss qs t)) (table_once (exercise (letters ss) ss (length qs)) text h.0 k.0 h.1.0 k.1.0) ∙ sym k.1.1

-- the first of three lists

pub in_first : (a b d : List TableVerdict) (v : TableVerdict) → IsFirst v a → v ≡ first_of (a ++ b ++ d)
in_first a b d v h = sym (ap (λ xs. first_of (xs ++ b ++ d)) h.1)

pub in_second : (a b d : List TableVerdict) (v : TableVerdict) → a ≡ [] → IsFirst v b → v ≡ first_of (a ++ b ++ d)
in_second a b d v e h = sym (ap₂ (λ xs ys. first_of (xs ++ ys ++ d)) e h.1)

pub in_third : (a b d : List TableVerdict) (v : TableVerdict) → a ≡ [] → b ≡ [] → IsFirst v d → v ≡ first_of (a ++ b ++ d)
in_third a b d v e f h = sym (ap₂ (λ xs ys. first_of (xs ++ ys ++ d)) e f ∙ ap first_of h.1)

pub in_none : (a b d : List TableVerdict) → a ≡ [] → b ≡ [] → d ≡ [] → Correct ≡ first_of (a ++ b ++ d)
in_none a b d e f h = sym (ap₂ (λ xs ys. first_of (xs ++ ys ++ d)) e f ∙ ap first_of h)
