-- The predicates of the blocks language: their words, and what each of them says of blocks.
use Rattle.std.specs.Prelude.{ℕ, Bool, false, ◌==◌, nat_lt, List, [], ◌∷◌, Option, Some, None, codes}
use Rattle.std.specs.List.{find}
use Rattle.std.specs.Str.{bytes_eq}
use Rattle.fol_core.specs.Word.{Word}
use Rattle.worlds.specs.declared.block.Block.{Block}
use Rattle.worlds.specs.declared.predicate.Predicate.{Predicate}
use Rattle.worlds.specs.declared.predicate.Predicate.TheVariants as p
use Rattle.worlds.specs.Geometry.{faces, rank, share_side, is_between}

-- The word of each predicate.
abbrev pub word_of : Predicate → Word
word_of p.Tet = codes "Tet"
word_of p.Cube = codes "Cube"
word_of p.Dodec = codes "Dodec"
word_of p.Small = codes "Small"
word_of p.Medium = codes "Medium"
word_of p.Large = codes "Large"
word_of p.SameSize = codes "SameSize"
word_of p.SameShape = codes "SameShape"
word_of p.SameRow = codes "SameRow"
word_of p.SameCol = codes "SameCol"
word_of p.Larger = codes "Larger"
word_of p.Smaller = codes "Smaller"
word_of p.LeftOf = codes "LeftOf"
word_of p.RightOf = codes "RightOf"
word_of p.FrontOf = codes "FrontOf"
word_of p.BackOf = codes "BackOf"
word_of p.Adjoins = codes "Adjoins"
word_of p.Between = codes "Between"

-- All predicates of the blocks language.
abbrev pub predicates : List Predicate
predicates = p.Tet ∷ p.Cube ∷ p.Dodec ∷ p.Small ∷ p.Medium ∷ p.Large ∷ p.SameSize ∷ p.SameShape ∷ p.SameRow ∷ p.SameCol
    ∷ p.Larger ∷ p.Smaller ∷ p.LeftOf ∷ p.RightOf ∷ p.FrontOf ∷ p.BackOf ∷ p.Adjoins ∷ p.Between ∷ []

-- The predicate of the word; none where the word is none of the blocks language.
unfoldable pub predicate_of : Word → Option Predicate
predicate_of w = find (λ q. bytes_eq (word_of q) w) predicates

-- What a predicate says of one block: its shape, and its size.
abbrev pub says_of_one : Predicate → Block → Bool
says_of_one p.Tet b = faces b.shape == 4
says_of_one p.Cube b = faces b.shape == 6
says_of_one p.Dodec b = faces b.shape == 12
says_of_one p.Small b = rank b.size == 1
says_of_one p.Medium b = rank b.size == 2
says_of_one p.Large b = rank b.size == 3
says_of_one _ b = false

-- What a predicate says of two blocks: sameness of size, shape, row and column; that the first is larger or smaller; that
-- it stands to the left, to the right, in front or behind; that their squares share a side.
abbrev pub says_of_two : Predicate → Block → Block → Bool
says_of_two p.SameSize b c = rank b.size == rank c.size
says_of_two p.SameShape b c = faces b.shape == faces c.shape
says_of_two p.SameRow b c = b.row == c.row
says_of_two p.SameCol b c = b.column == c.column
says_of_two p.Larger b c = nat_lt (rank c.size) (rank b.size)
says_of_two p.Smaller b c = nat_lt (rank b.size) (rank c.size)
says_of_two p.LeftOf b c = nat_lt b.column c.column
says_of_two p.RightOf b c = nat_lt c.column b.column
says_of_two p.FrontOf b c = nat_lt b.row c.row
says_of_two p.BackOf b c = nat_lt c.row b.row
says_of_two p.Adjoins b c = share_side b c
says_of_two _ b c = false

-- What a predicate says of three blocks: the first stands between the two others.
abbrev pub says_of_three : Predicate → Block → Block → Block → Bool
says_of_three p.Between b c d = is_between b c d
says_of_three _ b c d = false

-- How many blocks the predicate speaks of.
abbrev pub places_of : Predicate → ℕ
places_of p.Tet = 1
places_of p.Cube = 1
places_of p.Dodec = 1
places_of p.Small = 1
places_of p.Medium = 1
places_of p.Large = 1
places_of p.Between = 3
places_of _ = 2

-- The predicate is one of the blocks language, with its number of places.
abbrev pub is_of_blocks : Option Predicate → ℕ → Bool
is_of_blocks None count = false
is_of_blocks (Some q) count = places_of q == count

-- What the predicate says of the blocks that stand in its places: nothing where there is no block, or another number.
abbrev pub says : Predicate → List (Option Block) → Bool
says q (Some b ∷ []) = says_of_one q b
says q (Some b ∷ Some c ∷ []) = says_of_two q b c
says q (Some b ∷ Some c ∷ Some d ∷ []) = says_of_three q b c d
says q _ = false

-- A word that is no predicate of the blocks language is true of nothing.
abbrev pub is_true_of : Option Predicate → List (Option Block) → Bool
is_true_of None bs = false
is_true_of (Some q) bs = says q bs
