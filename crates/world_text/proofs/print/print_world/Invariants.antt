use Rattle.std.proofs.Common.{◌≡◌, take}
use Rattle.world_text.specs.Printed.{world_text}
use Rattle.world_text.proofs.print.print_world.Given as goal

abbrev pub invariant-loop-block : goal.invariant-loop-block
invariant-loop-block l = l.text ≡ world_text (take l.block-index l.block-items)
