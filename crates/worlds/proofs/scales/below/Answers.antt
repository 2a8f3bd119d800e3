use Rattle.std.proofs.Common.{◌+◌, ap, sym, ◌∙◌, arith}
use Rattle.std.specs.Prelude.{nat_lt}
use Rattle.worlds.specs.declared.block.Block.{Block}
use Rattle.worlds.specs.Scales.{measure_of}
use Rattle.worlds.specs.Worlds.{block_at}
use Rattle.worlds.proofs.Marking.{marked_more}
use Rattle.worlds.proofs.Scaling.{on_block, marked_set, block_read}
use Rattle.worlds.proofs.scales.below.Goals as goal

pub loop-place-preserved : goal.loop-place-preserved
loop-place-preserved c =
    let w = c.args.blocks.now in
    let f = λ (b : Block). nat_lt (measure_of c.args.measure b) c.args.number in
    marked_more (λ k. on_block f (block_at w (k + 1))) c.loop-place.place c.loop-place.set.bits c.with-set.result.bits (nat_lt c.of.result c.args.number) c.loop-place.invariant c.with-set.ensures.here c.with-set.ensures.elsewhere
    (ap (λ r. nat_lt r c.args.number) c.of.ensures.value ∙ sym (ap (on_block f) (block_read w c.loop-place.place _ c.loop-place-test.true)))

pub returns : goal.returns
returns c =
    let f = λ (b : Block). nat_lt (measure_of c.args.measure b) c.args.number in
    record { value = marked_set c.args.blocks.now f c.loop-place.place c.loop-place.set.bits c.loop-place.invariant (omega (arith, c.loop-place-test.false)) }
