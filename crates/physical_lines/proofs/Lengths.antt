-- A text without blanks at its ends is no longer than it.
use Rattle.std.proofs.Common.{◌≡◌, ℕ, ◌≤◌, Bool, true, false, List, [], ◌∷◌, ◌++◌, length, arith, ap, length-append}
use Rattle.std.specs.Prelude.{if◌then◌else◌}
use Rattle.texts.specs.Blanks.{is_blank, after_blanks, before_blanks, trimmed}
use Rattle.texts.proofs.Trimming.{front_before_blanks}

pub either_fits : (c : Bool) (xs ys : List ℕ) (n : ℕ) → length xs ≤ n → length ys ≤ n → length (if c then xs else ys) ≤ n
either_fits true xs ys n h k = h
either_fits false xs ys n h k = k

pub after_blanks_fits : (bs : List ℕ) → length (after_blanks bs) ≤ length bs
after_blanks_fits [] = omega arith
after_blanks_fits (b ∷ bs) =
    let more : length (after_blanks bs) ≤ length bs = after_blanks_fits bs in
    either_fits (is_blank b) (after_blanks bs) (b ∷ bs) (length (b ∷ bs)) (omega arith) (omega arith)

before_blanks_fits : (bs : List ℕ) → length (before_blanks bs) ≤ length bs
before_blanks_fits bs =
    let front : (tail : List ℕ) × (bs ≡ before_blanks bs ++ tail) = front_before_blanks bs in
    omega (arith, ap length front.1, length-append (before_blanks bs) front.0)

pub trimmed_fits : (bs : List ℕ) → length (trimmed bs) ≤ length bs
trimmed_fits bs = omega (arith, before_blanks_fits (after_blanks bs), after_blanks_fits bs)
