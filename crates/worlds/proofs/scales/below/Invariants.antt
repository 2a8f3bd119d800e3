use Rattle.std.specs.Prelude.{nat_lt, ◌+◌}
use Rattle.worlds.specs.Scales.{measure_of}
use Rattle.worlds.specs.Worlds.{block_at}
use Rattle.worlds.proofs.Marking.{IsMarked}
use Rattle.worlds.proofs.Scaling.{on_block}
use Rattle.worlds.proofs.scales.below.Given as goal

abbrev pub invariant-loop-place : goal.invariant-loop-place
invariant-loop-place l = IsMarked (λ k. on_block (λ b. nat_lt (measure_of l.measure b) l.number) (block_at l.blocks (k + 1))) l.place l.set.bits
