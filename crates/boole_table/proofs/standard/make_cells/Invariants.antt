use Rattle.std.proofs.Common.{◌≡◌, take}
use Rattle.boole_table.specs.TableWords.{cells_at}
use Rattle.boole_table.proofs.standard.make_cells.Given as goal

abbrev pub invariant-loop-word : goal.invariant-loop-word
invariant-loop-word l = l.cells ≡ cells_at (take l.word-index l.words) l.place
