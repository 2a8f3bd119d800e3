use Rattle.std.proofs.Common.{ℕ, take, ap, arith, refl, take_all}
use Rattle.worlds.specs.Assignments.{put}
use Rattle.world_truth.specs.inside.Bound.{standing}
use Rattle.world_truth.specs.inside.Tables.{joined}
use Rattle.worlds.specs.Truth.{val}
use Rattle.worlds.specs.Worlds.{numbers}
use Rattle.world_truth.proofs.Extending.{same_extensions, none_joined, one_extends, and_extensions, or_extensions, if_extensions, iff_extensions, all_extensions, ex_extensions, joined_extensions, part_joined, turn_joined, groups_joined, columns_joined}
use Rattle.world_truth.proofs.Joining.{joined_all}
use Rattle.world_truth.proofs.extension.+extension.Goals as goal

pub tabulate-returns-in-And : goal.tabulate-returns-in-And
tabulate-returns-in-And t c =
    let w = c.args.world.now in
    record { value = and_extensions w c.args.extent.columns c.args.extent.rows (standing c.args.bound.now w) c.args.s.now c.in-And.parts _ c.tabulate_joined.new.table c.in-And.is c.as_slice-in-And.ensures.value c.tabulate_joined.ensures.value }

pub tabulate-returns-in-Or : goal.tabulate-returns-in-Or
tabulate-returns-in-Or t c =
    let w = c.args.world.now in
    record { value = or_extensions w c.args.extent.columns c.args.extent.rows (standing c.args.bound.now w) c.args.s.now c.in-Or.parts _ c.tabulate_joined-in-Or.new.table c.in-Or.is c.as_slice-in-Or.ensures.value c.tabulate_joined-in-Or.ensures.value }

pub tabulate-returns-in-All : goal.tabulate-returns-in-All
tabulate-returns-in-All t c =
    let w = c.args.world.now in
    record { value = all_extensions w c.args.extent.columns c.args.extent.rows (standing c.args.bound.now w) c.args.s.now _ _ _ _ c.tabulate_quantified.new.table c.in-All.is refl c.get-in-All.ensures c.tabulate_quantified.ensures.value }

pub tabulate-returns-in-Ex : goal.tabulate-returns-in-Ex
tabulate-returns-in-Ex t c =
    let w = c.args.world.now in
    record { value = ex_extensions w c.args.extent.columns c.args.extent.rows (standing c.args.bound.now w) c.args.s.now _ _ _ _ c.tabulate_quantified-in-Ex.new.table c.in-Ex.is refl c.get-in-Ex.ensures c.tabulate_quantified-in-Ex.ensures.value }

pub tabulate_joined-loop-part-init : goal.tabulate_joined-loop-part-init
tabulate_joined-loop-part-init t c =
    let w = c.args.world.now in
    none_joined c.args.junction c.args.extent.columns c.args.extent.rows c.of_none.result.bits (λ (r k : ℕ). val w (standing c.args.bound.now w r k)) c.fill.new.self c.fill.ensures.value c.of_none.ensures.value

pub tabulate_joined-loop-part-preserved : goal.tabulate_joined-loop-part-preserved
tabulate_joined-loop-part-preserved t c =
    let w = c.args.world.now in
    part_joined c.connective.result c.args.junction c.connective.ensures.value c.args.extent.columns c.args.extent.rows (λ (r k : ℕ). val w (standing c.args.bound.now w r k)) c.args.parts.now c.loop-part.part-index c.part-item.result c.loop-part-test.true c.part-item.is
    c.loop-part.table c.tabulate.new.table c.join.new.self c.loop-part.invariant c.tabulate.ensures.value c.join.ensures.value

pub tabulate_joined-returns : goal.tabulate_joined-returns
tabulate_joined-returns t c =
    let w = c.args.world.now in
    record {
      value = same_extensions c.args.extent.columns c.args.extent.rows (λ (r k : ℕ). joined c.args.junction (val w (standing c.args.bound.now w r k)) (take c.loop-part.part-index c.args.parts.now)) (λ (r k : ℕ). joined c.args.junction (val w (standing c.args.bound.now w r k)) c.args.parts.now)
          c.loop-part.table (λ r k _. ap (joined c.args.junction (val w (standing c.args.bound.now w r k))) (take_all c.loop-part.part-index c.args.parts.now c.loop-part-test.false)) c.loop-part.invariant;
    }

pub tabulate_by_turns-loop-before-init : goal.tabulate_by_turns-loop-before-init
tabulate_by_turns-loop-before-init t c =
    let w = c.args.world.now in
    let f = λ (r k m : ℕ). val w (put c.args.x.now m (standing c.args.bound.now w r k)) c.args.part.now in
    none_joined c.args.junction c.args.extent.columns c.args.extent.rows c.of_none.result.bits f c.fill.new.self c.fill.ensures.value c.of_none.ensures.value

pub tabulate_by_turns-loop-before-preserved : goal.tabulate_by_turns-loop-before-preserved
tabulate_by_turns-loop-before-preserved t c =
    let w = c.args.world.now in
    let f = λ (r k m : ℕ). val w (put c.args.x.now m (standing c.args.bound.now w r k)) c.args.part.now in
    turn_joined c.connective.result c.args.junction c.connective.ensures.value w c.args.extent.columns c.args.extent.rows f c.loop-before.before (omega (arith, c.loop-before-test.true, c.block_count-before-end.ensures.value))
    c.loop-before.table c.tabulate.new.table c.join.new.self c.loop-before.invariant (one_extends w c.args.extent.columns c.args.extent.rows _ _ _ c.args.part.now c.tabulate.new.table c.tabulate.ensures.value) c.join.ensures.value

pub tabulate_by_turns-returns : goal.tabulate_by_turns-returns
tabulate_by_turns-returns t c =
    let w = c.args.world.now in
    let f = λ (r k m : ℕ). val w (put c.args.x.now m (standing c.args.bound.now w r k)) c.args.part.now in
    record {
      value = same_extensions c.args.extent.columns c.args.extent.rows (λ (r k : ℕ). joined c.args.junction (f r k) (take c.loop-before.before (numbers w))) (λ (r k : ℕ). joined c.args.junction (f r k) (numbers w))
          c.loop-before.table (λ r k _. joined_all c.args.junction (f r k) w c.loop-before.before (omega (arith, c.loop-before-test.false, c.block_count-before-end.ensures.value))) c.loop-before.invariant;
    }

pub tabulate_quantified-returns-then-extent-count-le-COLUMNS : goal.tabulate_quantified-returns-then-extent-count-le-COLUMNS
tabulate_quantified-returns-then-extent-count-le-COLUMNS t c =
    record {
      value = columns_joined c.args.junction c.args.world.now c.args.extent.columns c.args.extent.rows c.block_count-count.result _ c.args.part.now _ c.tabulate.new.table c.gather.new.self c.block_count-count.ensures.value (omega (arith, c.if-extent-count-le-COLUMNS.true)) c.tabulate.ensures.value c.gather.ensures.value;
    }

pub tabulate_quantified-returns-then-extent-count-le-ROWS : goal.tabulate_quantified-returns-then-extent-count-le-ROWS
tabulate_quantified-returns-then-extent-count-le-ROWS t c =
    record {
      value = groups_joined c.args.junction c.args.world.now c.args.extent.columns c.args.extent.rows c.block_count-count.result _ c.args.part.now _ c.tabulate-then-extent-count-le-ROWS.new.table c.join_groups.new.self c.block_count-count.ensures.value c.tabulate-then-extent-count-le-ROWS.ensures.value c.join_groups.ensures.value;
    }

pub join_next-returns : goal.join_next-returns
join_next-returns t c =
    let w = c.args.world.now in
    record {
      value = λ f h. joined_extensions c.args.connective c.args.extent.columns c.args.extent.rows f (λ (r k : ℕ). val w (standing c.args.bound.now w r k) c.args.s.now) c.args.table.now c.tabulate.new.table c.join.new.self h c.tabulate.ensures.value c.join.ensures.value;
    }

pub tabulate-returns-in-If : goal.tabulate-returns-in-If
tabulate-returns-in-If t c =
    let w = c.args.world.now in let a = λ (r k : ℕ). standing c.args.bound.now w r k in
    record {
      value = if_extensions w c.args.extent.columns c.args.extent.rows a c.args.s.now c.in-If.a c.in-If.b _ _ c.join_next.new.table c.in-If.is c.get-in-If.ensures c.get-in-If-2.ensures
          (c.join_next.ensures.value (λ r k. val w (a r k) c.get-in-If.result.now) c.tabulate-in-If.ensures.value);
    }

pub tabulate-returns-in-Iff : goal.tabulate-returns-in-Iff
tabulate-returns-in-Iff t c =
    let w = c.args.world.now in let a = λ (r k : ℕ). standing c.args.bound.now w r k in
    record {
      value = iff_extensions w c.args.extent.columns c.args.extent.rows a c.args.s.now c.in-Iff.a c.in-Iff.b _ _ c.join_next-in-Iff.new.table c.in-Iff.is c.get-in-Iff.ensures c.get-in-Iff-2.ensures
          (c.join_next-in-Iff.ensures.value (λ r k. val w (a r k) c.get-in-Iff.result.now) c.tabulate-in-Iff.ensures.value);
    }
