-- The digits of rows: of a case, which is a numeral of two digits, and the last one.
use Rattle.std.proofs.Common.{◌≡◌, ℕ, ◌+◌, ◌*◌, ◌<◌, Bool, List, length, ap, ap₂, sym, ◌∙◌, div-one, mod-eq_of_lt}
use Rattle.std.specs.Prelude.{◌%◌, ◌/◌}
use Rattle.std.proofs.lemmas.Nat.{div-mul-add, mod-mul-add, mod_below}
use Rattle.worlds.specs.declared.block.Block.{Block}
use Rattle.world_truth.specs.declared.digits.Digits.{Digits}
use Rattle.world_truth.specs.declared.digits.Referent.TheVariants.{ByColumn, ByRow}
use Rattle.world_truth.specs.inside.Digits.{case_of, digit_of, number_by}

pub low_of_case : (n : ℕ) (d : Digits) (r : ℕ) → 0 < n → digit_of n 1 (case_of n d r) ≡ digit_of n d.low r
low_of_case n d r some = ap (λ c. c % n) (div-one (case_of n d r)) ∙ mod-mul-add (digit_of n d.high r) n (digit_of n d.low r) (mod_below (r / d.low) n some)

pub high_of_case : (n : ℕ) (d : Digits) (r : ℕ) → 0 < n → digit_of n n (case_of n d r) ≡ digit_of n d.high r
high_of_case n d r some = ap (λ q. q % n) (div-mul-add (digit_of n d.high r) n (digit_of n d.low r) (mod_below (r / d.low) n some)) ∙ mod-eq_of_lt (mod_below (r / d.high) n some)

pub last_of_group : (n group r : ℕ) → r < n → digit_of n 1 (group * n + r) ≡ r
last_of_group n group r l = ap (λ c. c % n) (div-one (group * n + r)) ∙ mod-mul-add group n r l

pub group_of : (n group r : ℕ) → group < n → r < n → digit_of n n (group * n + r) ≡ group
group_of n group r within l = ap (λ q. q % n) (div-mul-add group n r l) ∙ mod-eq_of_lt within

pub last_of_few : (n r : ℕ) → r < n → digit_of n 1 r ≡ r
last_of_few n r l = ap (λ c. c % n) (div-one r) ∙ mod-eq_of_lt l

-- what is said of the blocks of a column's digit, of a row in its group, and of the group
pub in_group_said : (w : List Block) (f : ℕ → ℕ → ℕ → Bool) (x high low count group r c : ℕ) → count ≡ length w → high ≡ count → low ≡ 1 → group < count → r < count →
    f (digit_of count x c + 1) (r + 1) (group + 1) ≡ f (number_by (length w) (ByColumn x) (group * count + r) c) (number_by (length w) (ByRow low) (group * count + r) c) (number_by (length w) (ByRow high) (group * count + r) c)
in_group_said w f x high low count group r c e is_high is_low within l =
    let row = group * count + r in
    ap₂ (λ d q. f (digit_of count x c + 1) (d + 1) (q + 1)) (sym (last_of_group count group r l)) (sym (group_of count group r within l))
    ∙ ap₂ (λ d q. f (digit_of count x c + 1) (digit_of count d row + 1) (digit_of count q row + 1)) (sym is_low) (sym is_high)
    ∙ ap (λ n. f (digit_of n x c + 1) (digit_of n low row + 1) (digit_of n high row + 1)) e
