-- The variables of the quantifiers around a place.
use Rattle.std.specs.Prelude.{List, [], ◌∷◌}
use Rattle.fol_core.specs.Word.{Word}
use Rattle.fol_text.specs.declared.marks.Bound.{Bound, fold-Bound}
use Rattle.fol_text.specs.declared.marks.Bound.TheOpen.{Bound-F}
use Rattle.fol_text.specs.declared.marks.Bound.TheOpen as f

-- One quantifier's variable, before those further out.
abbrev pub words_step : Bound-F (List Word) → List Word
words_step f.None = []
words_step (f.More x rest) = x.now ∷ rest.now

-- The bound variables, the innermost first.
abbrev pub words : Bound → List Word
words = fold-Bound (List Word) words_step
