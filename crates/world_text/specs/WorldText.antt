-- World texts: the first fault, and the world.
use Rattle.std.specs.Prelude.{ℕ, ◌+◌, Bool, false, not, ◌&&◌, ◌||◌, ◌==◌, List, [], ◌∷◌, ◌++◌, Option, Some, None, if◌then◌else◌}
use Rattle.std.specs.List.{list_any, find, filter_map, range_with_len}
use Rattle.std.specs.Str.Lines.{lines}
use Rattle.fol_core.specs.Word.{Word}
use Rattle.worlds.specs.declared.block.Block.{Block}
use Rattle.world_text.specs.declared.reading.WorldFault.{WorldFault}
use Rattle.world_text.specs.declared.reading.WorldFault.TheVariants.{Header, Form, SquareTaken, NameTaken, OffBoard}
use Rattle.worlds.specs.Geometry.{bears, square, square_at, is_place}
use Rattle.world_text.specs.Lines.{is_blank_line, is_header, behind_header}
use Rattle.world_text.specs.BlockLines.{Said, may_name, stands_in, said_in, blocks_of}

-- Some block stands on the square of that number.
abbrev pub is_square_taken : List Block → ℕ → Bool
is_square_taken blocks q = list_any (λ b. square b == q) blocks

-- Some block has the name.
abbrev pub is_name_taken : List Block → ℕ → Bool
is_name_taken blocks l = list_any (λ b. bears b.names l) blocks

-- Some letter of the word is a name that is given already, or stands in the word once more.
abbrev pub repeats_name : (ℕ → Bool) → Word → Bool
repeats_name is_given [] = false
repeats_name is_given (l ∷ w) = (may_name l && (is_given l || stands_in l w)) || repeats_name is_given w

-- The fault of what a line says, where the blocks before it are these.
abbrev pub fault_said : List Block → Option Said → Option WorldFault
fault_said blocks None = Some Form
fault_said blocks (Some s) =
    if not (is_place s.column && is_place s.row) then Some OffBoard
    else (if is_square_taken blocks (square_at s.column s.row) then Some SquareTaken
    else (if repeats_name (is_name_taken blocks) s.names then Some NameTaken
    else None))

-- The physical line of that number, with its fault; where it has none, what the lines behind it give.
abbrev pub faulty_or : ℕ → Option WorldFault → Option (ℕ × WorldFault) → Option (ℕ × WorldFault)
faulty_or n (Some fault) later = Some (n, fault)
faulty_or n None later = later

-- The least faulty line with its fault, where the blocks before the lines are these, and the first line has the number n.
abbrev pub first_fault : List Block → ℕ → List (List ℕ) → Option (ℕ × WorldFault)
first_fault blocks n [] = None
first_fault blocks n (l ∷ ls) =
    if is_blank_line l then first_fault blocks (n + 1) ls
    else faulty_or n (fault_said blocks (said_in l)) (first_fault (blocks ++ blocks_of (l ∷ [])) (n + 1) ls)

-- The same from the header on, where the first line has the number n: the first line that isn't blank is the header. Where
-- each line is blank, the header is missing at line 1.
abbrev pub fault_from : ℕ → List (List ℕ) → Option (ℕ × WorldFault)
fault_from n [] = Some (1, Header)
fault_from n (l ∷ ls) =
    if is_blank_line l then fault_from (n + 1) ls
    else (if is_header l then first_fault [] (n + 1) ls else Some (n, Header))

-- The least faulty physical line of a text, counted from 1, with its fault; none where the text is that of a world.
abbrev pub world_fault : List ℕ → Option (ℕ × WorldFault)
world_fault text = fault_from 1 (lines text)

-- The blocks in the order of their squares: square by square, the block that stands on it.
abbrev pub by_squares : List Block → List Block
by_squares blocks = filter_map (λ q. find (λ b. square b == q) blocks) (range_with_len 0 64)

-- The world of a text: the blocks of the lines behind the header.
abbrev pub world_of : List ℕ → List Block
world_of text = by_squares (blocks_of (behind_header (lines text)))
