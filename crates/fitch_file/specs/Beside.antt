-- Two lists whose items belong together, place by place.
use Rattle.std.specs.Prelude.{List, [], ◌∷◌}

-- There are as many of both, and P holds of each two items that stand at one place.
abbrev pub Beside : {X Y : Type 0} → (X → Y → Type 0) → List X → List Y → Type 0
Beside P [] [] = Unit {0}
Beside P (x ∷ xs) (y ∷ ys) = P x y × Beside P xs ys
Beside P _ _ = ⊥
