use Rattle.std.proofs.Common.{arith}
use Rattle.std.proofs.lemmas.List.{get_or_default}
use Rattle.world_text.proofs.Putting.{kept_step, kept_world, squares_long}
use Rattle.world_text.proofs.squares.Squares.into_world.Goals as goal

pub loop-square-preserved : goal.loop-square-preserved
loop-square-preserved c =
    kept_step c.args.self.squares c.loop-square.square-index _ c.loop-square.blocks.items c.add_square.new.blocks.items
    (omega (arith, c.loop-square-test.true, squares_long c.args.self c.requires))
    (get_or_default c.args.self.squares c.loop-square.square-index _ _ (omega (arith, c.loop-square-test.true, squares_long c.args.self c.requires)))
    c.loop-square.invariant c.in_ok-add_square.ensures.put

pub of-requires-clause-world : goal.of-requires-clause-world
of-requires-clause-world c =
    kept_world c.args.self c.loop-square.blocks.items c.loop-square.square-index c.requires c.loop-square.invariant (omega (arith, c.loop-square-test.false, squares_long c.args.self c.requires))
