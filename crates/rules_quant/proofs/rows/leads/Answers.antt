-- The counts are tried one after the other.
use Rattle.std.proofs.Common.{◌≡◌, ◌+◌, arith, true, false, refl}
use Rattle.rules_quant.proofs.Entries.{no_entries}
use Rattle.rules_quant.proofs.InRows.{row_found, row_there}
use Rattle.rules_quant.proofs.rows.leads.Goals as goal

pub returns-then-leads_by : goal.returns-then-leads_by
returns-then-leads_by c = record {
  exact = (λ h. (c.loop-count.count, omega (arith, c.loop-count-test.true), row_found c.args.quantifier (c.loop-count.count + 1) c.args.q.now c.args.t.now (simp no_entries at (c.leads_by.ensures.exact.0 c.if-leads_by.true))), λ h. refl);
}

pub returns : goal.returns
returns c = record {
  exact = (λ h. absurd (let f : false ≡ true = h in cc), λ o. absurd (c.loop-count.invariant o.0 (omega (arith, o.1, c.loop-count-test.false)) (row_there c.args.quantifier (o.0 + 1) c.args.q.now c.args.t.now o.2)));
}
