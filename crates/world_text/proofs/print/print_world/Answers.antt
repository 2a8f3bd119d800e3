use Rattle.std.proofs.Common.{ap, ◌∙◌, arith, take_all}
use Rattle.world_text.specs.Printed.{world_text}
use Rattle.world_text.proofs.PrintedBack.{faultless_as, read_as}
use Rattle.world_text.proofs.print.print_world.Goals as goal

pub returns-clause-faultless : goal.returns-clause-faultless
returns-clause-faultless c =
    faultless_as c.args.w.now c.loop-block.text c.blocks-block-items.ensures.world
    (c.loop-block.invariant ∙ ap world_text (take_all c.loop-block.block-index c.blocks-block-items.result.now (omega (arith, c.loop-block-test.false)) ∙ c.blocks-block-items.ensures.value))

pub returns-clause-read_back : goal.returns-clause-read_back
returns-clause-read_back c =
    read_as c.args.w.now c.loop-block.text c.blocks-block-items.ensures.world
    (c.loop-block.invariant ∙ ap world_text (take_all c.loop-block.block-index c.blocks-block-items.result.now (omega (arith, c.loop-block-test.false)) ∙ c.blocks-block-items.ensures.value))
