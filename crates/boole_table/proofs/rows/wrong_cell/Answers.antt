use Rattle.std.proofs.Common.{◌+◌, drop, sym, ap, ◌∙◌, arith}
use Rattle.std.proofs.Math.ListN.{drop_of_length-le}
use Rattle.boole_table.specs.Verdict.{wrong_cells}
use Rattle.boole_table.proofs.Scanning.{cells_end}
use Rattle.boole_table.proofs.rows.wrong_cell.Goals as goal

pub returns-then-place-given : goal.returns-then-place-given
returns-then-place-given c = record {
  value = sym c.loop-place.invariant ∙ ap (λ xs. wrong_cells c.args.n (c.loop-place.place + 1) xs (drop c.loop-place.place c.args.right.now)) (drop_of_length-le c.args.given.now (omega (arith, c.if-place-given.true)));
}

pub returns : goal.returns
returns c = record {
  value = sym c.loop-place.invariant ∙ ap (wrong_cells c.args.n (c.loop-place.place + 1) (drop c.loop-place.place c.args.given.now)) (drop_of_length-le c.args.right.now (omega (arith, c.loop-place-test.false)))
      ∙ cells_end c.args.n (c.loop-place.place + 1) (drop c.loop-place.place c.args.given.now);
}
