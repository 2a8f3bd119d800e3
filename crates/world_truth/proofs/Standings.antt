-- What the definition of the standing of terms says of each form of bound variable.
use Rattle.std.proofs.Common.{◌≡◌, ℕ, ◌+◌, ◌*◌, ◌<◌, min, true, false, List, length, ap, sym, ◌∙◌, arith, rules, inl, inr, Bor}
use Rattle.std.specs.Prelude.{◌/◌, ◌%◌, if◌then◌else◌}
use Rattle.std.specs.Str.{bytes_eq}
use Rattle.std.proofs.lemmas.Bool.{cases_lt}
use native.Mathlib.Nat.{div-div-eq-div-mul, div-eq_of_lt}
use Rattle.fol_core.specs.Word.{Word}
use Rattle.world_truth.specs.declared.answer.Place.{Place}
use Rattle.worlds.specs.declared.block.Block.{Block}
use Rattle.world_truth.specs.declared.bound.Bound.{Bound, the_lemmas}
use Rattle.world_truth.specs.declared.bound.Bound.TheVariants as b
use Rattle.worlds.specs.Assignments.{put, variable_at, name_at, own_names}
use Rattle.world_truth.specs.inside.Bound.{standing}
use Rattle.world_truth.specs.Places.{given}

pub standing_given : (places : Bor (List Place)) (w : List Block) (r k : ℕ) → standing (b.Given places) w r k ≡ given places.now (own_names w)
standing_given places w r k = search (rules, the_lemmas)

pub standing_one : (x : Bor Word) (m : ℕ) (rest : Bor Bound) (w : List Block) (r k : ℕ) → standing (b.One x m rest) w r k ≡ put x.now m (standing rest.now w r k)
standing_one x m rest w r k = search (rules, the_lemmas)

pub standing_by_row : (x : Bor Word) (rest : Bor Bound) (w : List Block) (r k : ℕ) → standing (b.ByRow x rest) w r k ≡ put x.now (r % length w + 1) (standing rest.now w (r / length w) k)
standing_by_row x rest w r k = search (rules, the_lemmas)

pub standing_by_column : (x : Bor Word) (rest : Bor Bound) (w : List Block) (r k : ℕ) → standing (b.ByColumn x rest) w r k ≡ put x.now (k % length w + 1) (standing rest.now w r (k / length w))
standing_by_column x rest w r k = search (rules, the_lemmas)

-- the number of a name, which no bound variable stands for
pub name_past_one : (w : List Block) (bound : Bound) (rest : Bor Bound) (x : Bor Word) (m : ℕ) (n : Word) (r k : ℕ) → bound ≡ b.One x m rest → name_at (standing rest.now w r k) n ≡ name_at (standing bound w r k) n
name_past_one w bound rest x m n r k e = sym (ap (λ o. name_at (standing o w r k) n) e ∙ ap (λ a. name_at a n) (standing_one x m rest w r k))

pub name_past_column : (w : List Block) (bound : Bound) (rest : Bor Bound) (x : Bor Word) (n : Word) (r k : ℕ) → bound ≡ b.ByColumn x rest → name_at (standing rest.now w r (k / length w)) n ≡ name_at (standing bound w r k) n
name_past_column w bound rest x n r k e = sym (ap (λ o. name_at (standing o w r k) n) e ∙ ap (λ a. name_at a n) (standing_by_column x rest w r k))

pub name_past_row : (w : List Block) (bound : Bound) (rest : Bor Bound) (x : Bor Word) (n : Word) (r k : ℕ) → bound ≡ b.ByRow x rest → name_at (standing rest.now w (r / length w) k) n ≡ name_at (standing bound w r k) n
name_past_row w bound rest x n r k e = sym (ap (λ o. name_at (standing o w r k) n) e ∙ ap (λ a. name_at a n) (standing_by_row x rest w r k))

-- what stands for a variable that is the innermost one, or for which no quantifier stands
pub at_given : (w : List Block) (bound : Bound) (places : Bor (List Place)) (x : Word) (r k : ℕ) → bound ≡ b.Given places → variable_at (given places.now (own_names w)) x ≡ variable_at (standing bound w r k) x
at_given w bound places x r k e = sym (ap (λ o. variable_at (standing o w r k) x) e ∙ ap (λ a. variable_at a x) (standing_given places w r k))

pub at_one : (w : List Block) (bound : Bound) (rest : Bor Bound) (y : Bor Word) (m : ℕ) (x : Word) (r k : ℕ) → bound ≡ b.One y m rest → bytes_eq y.now x ≡ true → m ≡ variable_at (standing bound w r k) x
at_one w bound rest y m x r k e same =
    sym (ap (λ o. variable_at (standing o w r k) x) e ∙ ap (λ a. variable_at a x) (standing_one y m rest w r k) ∙ ap (λ c. if c then m else variable_at (standing rest.now w r k) x) same)

pub at_row : (w : List Block) (bound : Bound) (rest : Bor Bound) (y : Bor Word) (x : Word) (r k : ℕ) → bound ≡ b.ByRow y rest → bytes_eq y.now x ≡ true → r % length w + 1 ≡ variable_at (standing bound w r k) x
at_row w bound rest y x r k e same =
    sym (ap (λ o. variable_at (standing o w r k) x) e ∙ ap (λ a. variable_at a x) (standing_by_row y rest w r k)
    ∙ ap (λ c. if c then r % length w + 1 else variable_at (standing rest.now w (r / length w) k) x) same)

pub at_column : (w : List Block) (bound : Bound) (rest : Bor Bound) (y : Bor Word) (x : Word) (r k : ℕ) → bound ≡ b.ByColumn y rest → bytes_eq y.now x ≡ true → k % length w + 1 ≡ variable_at (standing bound w r k) x
at_column w bound rest y x r k e same =
    sym (ap (λ o. variable_at (standing o w r k) x) e ∙ ap (λ a. variable_at a x) (standing_by_column y rest w r k)
    ∙ ap (λ c. if c then k % length w + 1 else variable_at (standing rest.now w r (k / length w)) x) same)

-- A row or a column without its last digits, and without one more. A place value that is too great for its type leaves nothing
-- of them.
saturated : (r s n m : ℕ) → r < 512 → m ≡ min (s * n) 4294967295 → r / s / n ≡ r / m
saturated r s n m low e = elim (cases_lt (s * n) 4294967296) [
  | inl less ↦ div-div-eq-div-mul r s n ∙ ap (λ o. r / o) (omega (arith, e, less))
  | inr more ↦ div-div-eq-div-mul r s n ∙ div-eq_of_lt (omega (arith, low, more)) ∙ sym (div-eq_of_lt (omega (arith, low, e, more)))
]

pub past_row : (w : List Block) (bound : Bound) (rest : Bor Bound) (y : Bor Word) (x : Word) (r s m k : ℕ) → r < 512 → bound ≡ b.ByRow y rest → m ≡ min (s * length w) 4294967295 → bytes_eq y.now x ≡ false →
    variable_at (standing rest.now w (r / m) k) x ≡ variable_at (standing bound w (r / s) k) x
past_row w bound rest y x r s m k low e i apart =
    sym (ap (λ o. variable_at (standing o w (r / s) k) x) e ∙ ap (λ a. variable_at a x) (standing_by_row y rest w (r / s) k)
    ∙ ap (λ c. if c then (r / s) % length w + 1 else variable_at (standing rest.now w (r / s / length w) k) x) apart
    ∙ ap (λ q. variable_at (standing rest.now w q k) x) (saturated r s (length w) m low i))

pub past_column : (w : List Block) (bound : Bound) (rest : Bor Bound) (y : Bor Word) (x : Word) (r k s m : ℕ) → k < 64 → bound ≡ b.ByColumn y rest → m ≡ min (s * length w) 4294967295 → bytes_eq y.now x ≡ false →
    variable_at (standing rest.now w r (k / m)) x ≡ variable_at (standing bound w r (k / s)) x
past_column w bound rest y x r k s m low e i apart =
    sym (ap (λ o. variable_at (standing o w r (k / s)) x) e ∙ ap (λ a. variable_at a x) (standing_by_column y rest w r (k / s))
    ∙ ap (λ c. if c then (k / s) % length w + 1 else variable_at (standing rest.now w r (k / s / length w)) x) apart
    ∙ ap (λ q. variable_at (standing rest.now w r q) x) (saturated k s (length w) m (omega (arith, low)) i))
