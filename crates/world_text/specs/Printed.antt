-- The text of a world.
use Rattle.std.specs.Prelude.{ℕ, Bool, true, false, List, [], ◌∷◌, ◌++◌, codes, if◌then◌else◌}
use Rattle.std.specs.List.{filter, flat_map}
use Rattle.std.specs.Fmt.{decimal}
use Rattle.worlds.specs.declared.block.Block.{Block}
use Rattle.worlds.specs.declared.block.Names.{Names}
use Rattle.worlds.specs.declared.block.Shape.{Shape}
use Rattle.worlds.specs.declared.block.Shape.TheVariants.{Tet, Cube, Dodec}
use Rattle.worlds.specs.declared.block.Size.{Size}
use Rattle.worlds.specs.declared.block.Size.TheVariants.{Small, Medium, Large}
use Rattle.worlds.specs.Geometry.{letters, bears}

-- The letters with commas between them.
abbrev pub with_commas : List ℕ → List ℕ
with_commas [] = []
with_commas (l ∷ ls) = l ∷ flat_map (λ m. 44 ∷ m ∷ []) ls

-- There is no letter.
abbrev pub is_nothing : List ℕ → Bool
is_nothing [] = true
is_nothing (l ∷ ls) = false

-- The letters with commas between them, and `-` for none.
abbrev pub separated : List ℕ → List ℕ
separated ls = if is_nothing ls then codes "-" else with_commas ls

-- A letter where it is a name, behind a comma where it isn't the first one.
abbrev pub letter_text : Bool → Bool → ℕ → List ℕ
letter_text false is_first l = []
letter_text true true l = l ∷ []
letter_text true false l = 44 ∷ l ∷ []

-- The names in the order of the letters.
abbrev pub names_text : Names → List ℕ
names_text n = separated (filter (bears n) letters)

-- The word of a shape.
abbrev pub shape_text : Shape → List ℕ
shape_text Tet = codes "tet"
shape_text Cube = codes "cube"
shape_text Dodec = codes "dodec"

-- The word of a size.
abbrev pub size_text : Size → List ℕ
size_text Small = codes "small"
size_text Medium = codes "medium"
size_text Large = codes "large"

-- The line of a block: its five words, with one space between them.
abbrev pub block_text : Block → List ℕ
block_text b = names_text b.names ++ (32 ∷ shape_text b.shape) ++ (32 ∷ size_text b.size) ++ (32 ∷ decimal b.column) ++ (32 ∷ decimal b.row)

-- The lines of the blocks, each with a line feed behind it.
abbrev pub blocks_text : List Block → List ℕ
blocks_text w = flat_map (λ b. block_text b ++ 10 ∷ []) w

-- The text of a world: the header, and then its blocks in the order of their squares.
abbrev pub world_text : List Block → List ℕ
world_text w = codes "world 1" ++ (10 ∷ blocks_text w)
