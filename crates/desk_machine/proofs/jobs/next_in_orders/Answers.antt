use Rattle.std.proofs.Common.{◌≡◌, sym, ◌∙◌}
use Rattle.desk_machine.specs.Jobs.{is_ready}
use Rattle.desk_machine.proofs.Finding.{found_in_order, not_in_order}
use Rattle.desk_machine.proofs.jobs.next_in_orders.Goals as goal

pub returns-in-Some : goal.returns-in-Some
returns-in-Some c = record {
  value = sym (found_in_order (is_ready c.args.grades.now c.args.held.now) c.args.rows.now c.args.orders.now c.loop-order.order-index c.order-item.result c.in-Some.job
      c.loop-order-test.true c.order-item.is (sym c.next_in_order.ensures.value ∙ c.in-Some.is)) ∙ c.loop-order.invariant;
}

pub loop-order-preserved : goal.loop-order-preserved
loop-order-preserved c =
    sym (not_in_order (is_ready c.args.grades.now c.args.held.now) c.args.rows.now c.args.orders.now c.loop-order.order-index c.order-item.result
    c.loop-order-test.true c.order-item.is (sym c.next_in_order.ensures.value ∙ c.in_default.is)) ∙ c.loop-order.invariant
