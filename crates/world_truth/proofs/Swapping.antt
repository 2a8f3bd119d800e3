-- The ends of a line may change places.
use Rattle.std.proofs.Common.{◌≡◌, Bool, true, false, refl, ap₂}
use Rattle.std.specs.Prelude.{◌&&◌, ◌||◌, ◌==◌, nat_lt, [], ◌∷◌, Option, Some, None}
use Rattle.worlds.specs.declared.block.Block.{Block}
use Rattle.worlds.specs.declared.predicate.Predicate.{Predicate}
use Rattle.worlds.specs.declared.predicate.Predicate.TheVariants as p
use Rattle.worlds.specs.Geometry.{is_between, on_rising, on_falling}
use Rattle.worlds.specs.Predicates.{says, says_of_three}

swapped : (a b c d : Bool) → c ≡ d → (a && b && c) ≡ (b && a && d)
swapped true true c d h = h
swapped true false c d h = refl
swapped false true c d h = refl
swapped false false c d h = refl

or_swapped : (a b : Bool) → (a || b) ≡ (b || a)
or_swapped true true = refl
or_swapped true false = refl
or_swapped false true = refl
or_swapped false false = refl

ends_swapped : (b c d : Block) → is_between b c d ≡ is_between b d c
ends_swapped b c d =
    let columns = or_swapped (nat_lt c.column b.column && nat_lt b.column d.column) (nat_lt d.column b.column && nat_lt b.column c.column) in
    let rows = or_swapped (nat_lt c.row b.row && nat_lt b.row d.row) (nat_lt d.row b.row && nat_lt b.row c.row) in
    ap₂ (λ x y. x || y)
    (ap₂ (λ x y. x || y)
    (ap₂ (λ x y. x || y) (swapped (b.row == c.row) (b.row == d.row) _ _ columns) (swapped (b.column == c.column) (b.column == d.column) _ _ rows))
    (swapped (on_rising b c) (on_rising b d) _ _ columns))
    (swapped (on_falling b c) (on_falling b d) _ _ columns)

three_swapped : (q : Predicate) (b c d : Block) → says_of_three q b c d ≡ says_of_three q b d c
three_swapped p.Between b c d = ends_swapped b c d
three_swapped p.Tet b c d = refl
three_swapped p.Cube b c d = refl
three_swapped p.Dodec b c d = refl
three_swapped p.Small b c d = refl
three_swapped p.Medium b c d = refl
three_swapped p.Large b c d = refl
three_swapped p.SameSize b c d = refl
three_swapped p.SameShape b c d = refl
three_swapped p.SameRow b c d = refl
three_swapped p.SameCol b c d = refl
three_swapped p.Larger b c d = refl
three_swapped p.Smaller b c d = refl
three_swapped p.LeftOf b c d = refl
three_swapped p.RightOf b c d = refl
three_swapped p.FrontOf b c d = refl
three_swapped p.BackOf b c d = refl
three_swapped p.Adjoins b c d = refl

pub says_swapped : (q : Predicate) (o p r : Option Block) → says q (o ∷ p ∷ r ∷ []) ≡ says q (o ∷ r ∷ p ∷ [])
says_swapped q None p r = refl
says_swapped q (Some b) None None = refl
says_swapped q (Some b) None (Some d) = refl
says_swapped q (Some b) (Some c) None = refl
says_swapped q (Some b) (Some c) (Some d) = three_swapped q b c d
