use Rattle.std.proofs.Common.{◌*◌, ◌≤◌, map}
use Rattle.fol_core.specs.Size.{total, nodes}
use Rattle.sentence_rows.proofs.taut.read_all.Given as goal

-- the sentences of the texts so far
abbrev pub invariant-loop-text : goal.invariant-loop-text
invariant-loop-text l = total (map nodes l.sentences) ≤ 400 * l.text-index
