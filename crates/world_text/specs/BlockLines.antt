-- The line of a block: names, shape, size, column and row.
use Rattle.std.specs.Prelude.{ℕ, ◌+◌, ◌*◌, ◌-◌, Bool, false, ◌&&◌, ◌||◌, ◌==◌, nat_le, List, [], ◌∷◌, length, Option, Some, None, codes, if◌then◌else◌}
use Rattle.std.specs.List.{list_all, list_any, filter_map, fold}
use Rattle.std.specs.Str.{bytes_eq}
use Rattle.fol_core.specs.Word.{Word, is_digit}
use Rattle.worlds.specs.declared.block.Block.{Block}
use Rattle.worlds.specs.declared.block.Names.{Names}
use Rattle.worlds.specs.declared.block.Shape.{Shape}
use Rattle.worlds.specs.declared.block.Shape.TheVariants.{Tet, Cube, Dodec}
use Rattle.worlds.specs.declared.block.Size.{Size}
use Rattle.worlds.specs.declared.block.Size.TheVariants.{Small, Medium, Large}
use Rattle.worlds.specs.Geometry.{is_place}
use Rattle.world_text.specs.Lines.{words, begins_blank}

-- The byte is a letter that may be a name: a to f.
abbrev pub may_name : ℕ → Bool
may_name b = nat_le 97 b && nat_le b 102

-- The word is letters from a to f with commas between them.
abbrev pub are_letters : Word → Bool
are_letters [] = false
are_letters (l ∷ []) = may_name l
are_letters (l ∷ c ∷ w) = may_name l && c == 44 && are_letters w

-- The word says which names there are: `-` for none, or letters from a to f with commas between them.
abbrev pub says_names : Word → Bool
says_names w = bytes_eq w (codes "-") || are_letters w

-- The byte stands in the word.
abbrev pub stands_in : ℕ → Word → Bool
stands_in l w = list_any (λ b. b == l) w

-- The names that stand in the word.
abbrev pub names_in : Word → Names
names_in w = record { a = stands_in 97 w; b = stands_in 98 w; c = stands_in 99 w; d = stands_in 100 w; e = stands_in 101 w; f = stands_in 102 w }

-- The shape of the word.
abbrev pub shape_of : Word → Option Shape
shape_of w = if bytes_eq w (codes "tet") then Some Tet else (if bytes_eq w (codes "cube") then Some Cube else (if bytes_eq w (codes "dodec") then Some Dodec else None))

-- The size of the word.
abbrev pub size_of : Word → Option Size
size_of w = if bytes_eq w (codes "small") then Some Small else (if bytes_eq w (codes "medium") then Some Medium else (if bytes_eq w (codes "large") then Some Large else None))

-- The word is one to four decimal digits.
abbrev pub is_short_number : Word → Bool
is_short_number w = nat_le 1 (length w) && nat_le (length w) 4 && list_all is_digit w

-- The number that decimal digits write.
abbrev pub value_of : Word → ℕ
value_of w = fold (λ n d. n * 10 + (d - 48)) 0 w

-- The number that the word writes in one to four decimal digits, of which the first ones may be 0.
abbrev pub number_of : Word → Option ℕ
number_of w = if is_short_number w then Some (value_of w) else None

-- What a line says of a block, on the board or off it.
pub record Said : Type 0 where
  pub names : Word
  pub shape : Shape
  pub size : Size
  pub column : ℕ
  pub row : ℕ

-- What is said where each part is there.
abbrev pub said_of : Word → Option Shape → Option Size → Option ℕ → Option ℕ → Option Said
said_of n (Some s) (Some z) (Some c) (Some r) = Some (record { names = n; shape = s; size = z; column = c; row = r })
said_of n _ _ _ _ = None

-- What five words say: names, shape, size, column and row.
abbrev pub said_by : List Word → Option Said
said_by (n ∷ s ∷ z ∷ c ∷ r ∷ []) = if says_names n then said_of n (shape_of s) (size_of z) (number_of c) (number_of r) else None
said_by _ = None

-- What the line says, where it is of the form: five words with blanks between them, and none before the first.
abbrev pub said_in : List ℕ → Option Said
said_in line = if begins_blank line then None else said_by (words line)

-- The block that is said.
abbrev pub block_by : Said → Block
block_by s = record { names = names_in s.names; shape = s.shape; size = s.size; column = s.column; row = s.row }

-- The block that is said, where its square is on the board.
abbrev pub block_said : Option Said → Option Block
block_said None = None
block_said (Some s) = if is_place s.column && is_place s.row then Some (block_by s) else None

-- The blocks of the lines, in the order of the lines.
abbrev pub blocks_of : List (List ℕ) → List Block
blocks_of lines = filter_map (λ line. block_said (said_in line)) lines
