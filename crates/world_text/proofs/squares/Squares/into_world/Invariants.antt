use Rattle.std.proofs.Common.{◌≡◌, take}
use Rattle.std.specs.List.{filter_map}
use Rattle.world_text.proofs.squares.Squares.into_world.Given as goal

abbrev pub invariant-loop-square : goal.invariant-loop-square
invariant-loop-square l = l.blocks.items ≡ filter_map (λ o. o) (take l.square-index l.square-items)
