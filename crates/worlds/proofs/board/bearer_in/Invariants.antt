use Rattle.std.proofs.Common.{◌≡◌, ◌+◌, drop}
use Rattle.worlds.specs.Worlds.{bearer_from}
use Rattle.worlds.proofs.board.bearer_in.Given as goal

abbrev pub invariant-loop-before : goal.invariant-loop-before
invariant-loop-before l = bearer_from 1 l.blocks l.letter ≡ bearer_from (l.before + 1) (drop l.before l.blocks) l.letter
