-- The predicates of the blocks language, each with its number of places.
use Rattle.std.specs.Prelude.{ℕ, Bool, true, not, ◌&&◌, ◌||◌, ◌==◌, List, [], ◌∷◌, length, codes}
use Rattle.std.specs.List.{list_all, list_any}
use Rattle.std.specs.Str.{bytes_eq}
use Rattle.fol_core.specs.Word.{Word}
use Rattle.fol_core.specs.Subst.{itself}
use Rattle.fol_core.specs.declared.sent.Sent.{Sent}
use Rattle.fol_core.specs.declared.sent.Sent.TheOpen.{Sent-F}
use Rattle.fol_core.specs.declared.sent.Sent.TheOpen as f
use Rattle.fol_core.specs.declared.sent.Sent.TheFolds.{fold-Sent}

-- The predicates of one block: its shape, and its size.
abbrev pub of_one : List Word
of_one = codes "Tet" ∷ codes "Cube" ∷ codes "Dodec" ∷ codes "Small" ∷ codes "Medium" ∷ codes "Large" ∷ []

-- The predicates of two blocks: sameness of size, shape, row and column, difference of size, and place.
abbrev pub of_two : List Word
of_two = codes "SameSize" ∷ codes "SameShape" ∷ codes "SameRow" ∷ codes "SameCol" ∷ codes "Larger" ∷ codes "Smaller"
    ∷ codes "LeftOf" ∷ codes "RightOf" ∷ codes "FrontOf" ∷ codes "BackOf" ∷ codes "Adjoins" ∷ []

-- The predicate of three blocks.
abbrev pub of_three : List Word
of_three = codes "Between" ∷ []

-- A predicate that is one of the listed ones has so many places; of any other nothing is said.
abbrev pub where_listed : List Word → Word → ℕ → ℕ → Bool
where_listed listed p places count = not (list_any (bytes_eq p) listed) || count == places

-- A predicate of the blocks language has its number of places, and any other has any number.
unfoldable pub fits : Word → ℕ → Bool
fits p count = where_listed of_one p 1 count && where_listed of_two p 2 count && where_listed of_three p 3 count

-- One form of sentence: its predicate fits the number of its terms, and so do those of its parts.
abbrev pub places_step : Sent-F Bool → Bool
places_step (f.Atom p ts) = fits p (length ts)
places_step (f.Eq s t) = true
places_step f.Bottom = true
places_step (f.Not b) = b
places_step (f.And bs) = list_all itself bs
places_step (f.Or bs) = list_all itself bs
places_step (f.If b c) = b && c
places_step (f.Iff b c) = b && c
places_step (f.All x b) = b
places_step (f.Ex x b) = b

-- Each predicate of the blocks language that stands in the sentence has its number of places.
abbrev pub has_places : Sent → Bool
has_places = fold-Sent Bool places_step
