-- Blocks and how they lie: shapes, sizes, squares, and the names that a block has.
use Rattle.std.specs.Prelude.{ℕ, ◌+◌, ◌*◌, ◌-◌, Bool, false, ◌&&◌, ◌||◌, ◌==◌, nat_lt, nat_le, List, [], ◌∷◌}
use Rattle.fol_core.specs.Word.{Word}
use Rattle.worlds.specs.declared.block.Block.{Block}
use Rattle.worlds.specs.declared.block.Names.{Names}
use Rattle.worlds.specs.declared.block.Shape.{Shape}
use Rattle.worlds.specs.declared.block.Shape.TheVariants.{Tet, Cube, Dodec}
use Rattle.worlds.specs.declared.block.Size.{Size}
use Rattle.worlds.specs.declared.block.Size.TheVariants.{Small, Medium, Large}

-- The number of faces, by which the shapes differ.
abbrev pub faces : Shape → ℕ
faces Tet = 4
faces Cube = 6
faces Dodec = 12

-- The rank of a size: a small block is the smallest.
abbrev pub rank : Size → ℕ
rank Small = 1
rank Medium = 2
rank Large = 3

-- The letters that may be names, as bytes: a to f.
abbrev pub letters : List ℕ
letters = 97 ∷ 98 ∷ 99 ∷ 100 ∷ 101 ∷ 102 ∷ []

-- The letter is one of the names.
abbrev pub bears : Names → ℕ → Bool
bears n l = (l == 97 && n.a) || (l == 98 && n.b) || (l == 99 && n.c) || (l == 100 && n.d) || (l == 101 && n.e) || (l == 102 && n.f)

-- The block has the name: a word of one letter that is one of its names.
abbrev pub is_named : Word → Block → Bool
is_named [] b = false
is_named (l ∷ []) b = bears b.names l
is_named (l ∷ m ∷ ls) b = false

-- The number of the square of a column and a row, counted from 0 row by row from the front, and in a row from the left.
abbrev pub square_at : ℕ → ℕ → ℕ
square_at column row = (row - 1) * 8 + (column - 1)

-- The square on which the block stands.
abbrev pub square : Block → ℕ
square b = square_at b.column b.row

-- The number is that of a column and of a row: from 1 to 8.
abbrev pub is_place : ℕ → Bool
is_place n = nat_le 1 n && nat_le n 8

-- The block stands on the board.
abbrev pub is_on_board : Block → Bool
is_on_board b = is_place b.column && is_place b.row

-- How far two columns or two rows lie apart.
abbrev pub apart : ℕ → ℕ → ℕ
apart m n = (m - n) + (n - m)

-- The squares share a side: they lie next to each other in one row or in one column.
abbrev pub share_side : Block → Block → Bool
share_side b c = (b.row == c.row && apart b.column c.column == 1) || (b.column == c.column && apart b.row c.row == 1)

-- The number lies strictly between the two others.
abbrev pub is_inside : ℕ → ℕ → ℕ → Bool
is_inside k m n = (nat_lt m k && nat_lt k n) || (nat_lt n k && nat_lt k m)

-- Both stand in one diagonal that rises from the left to the right: columns and rows differ by the same number.
abbrev pub on_rising : Block → Block → Bool
on_rising b c = b.column + c.row == c.column + b.row

-- Both stand in one diagonal that falls from the left to the right: columns and rows have the same sum.
abbrev pub on_falling : Block → Block → Bool
on_falling b c = b.column + b.row == c.column + c.row

-- All three stand in one row, one column or one diagonal, and the first strictly between the two others.
abbrev pub is_between : Block → Block → Block → Bool
is_between b c d =
    (b.row == c.row && b.row == d.row && is_inside b.column c.column d.column)
    || (b.column == c.column && b.column == d.column && is_inside b.row c.row d.row)
    || (on_rising b c && on_rising b d && is_inside b.column c.column d.column)
    || (on_falling b c && on_falling b d && is_inside b.column c.column d.column)
