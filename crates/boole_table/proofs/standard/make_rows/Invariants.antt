use Rattle.std.proofs.Common.{◌≡◌, ◌*◌, min, length, map}
use Rattle.std.specs.Prelude.{◌^◌}
use Rattle.std.specs.List.{range_with_len}
use Rattle.boole_table.specs.StandardTable.{standard_row}
use Rattle.boole_table.proofs.standard.make_rows.Given as goal

abbrev pub invariant-loop-word : goal.invariant-loop-word
invariant-loop-word l = l.rows ≡ map (standard_row l.letters l.sentences) (range_with_len 1 (min (64 * l.word) (2 ^ length l.letters)))
