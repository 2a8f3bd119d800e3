-- Truth values that are joined by "or".
use Rattle.std.proofs.Common.{◌≡◌, refl, sym, Bool, true, false, ◌||◌, inl, inr, ◌⊎◌, true≢false}

pub or_cases : (a b : Bool) → (a || b) ≡ true → a ≡ true ⊎ b ≡ true
or_cases true b h = inl refl
or_cases false b h = inr h

pub or_left : (a b : Bool) → a ≡ true → (a || b) ≡ true
or_left true b e = refl
or_left false b e = absurd (true≢false (sym e))

pub or_right : (a b : Bool) → b ≡ true → (a || b) ≡ true
or_right true b e = refl
or_right false b e = e
