use Rattle.std.proofs.Common.{◌≡◌, ◌+◌, ◌*◌, subst, arith}
use Rattle.std.specs.Prelude.{◌≤◌, ◌<◌, ◌^◌}
use Rattle.taut_con.specs.Compiled.{refutes_in_row}
use Rattle.taut_con.proofs.Searching.{AreLeft}
use Rattle.taut_con.proofs.RowBits.{first_row, no_row}
use Rattle.taut_con.proofs.consequence.search_rows.Goals as goal

pub returns-then-is_in_table : goal.returns-then-is_in_table
returns-then-is_in_table c =
    let here = c.is_in_table.ensures.yes c.if-is_in_table.true in
    let within : 64 * c.loop-word.word + c.first-first.result < 2 ^ c.args.letters = omega (arith, here.1) in
    record {
      answer =
          first_row (refutes_in_row c.args.formulas.now c.args.conclusion.now c.args.letters) c.args.letters (64 * c.loop-word.word) c.rows_refuted.result.bits c.first-first.result
          c.rows_refuted.ensures.rows c.loop-word.invariant c.first-first.ensures.first c.first-first.ensures.before here.0 within;
    }

pub loop-word-preserved : goal.loop-word-preserved
loop-word-preserved c =
    let past : c.first-first.result < 64 → 2 ^ c.args.letters ≤ 64 * c.loop-word.word + c.first-first.result = λ low. (let over = c.is_in_table.ensures.no c.if-is_in_table.false low in omega (arith, over)) in
    let next : 64 * c.loop-word.word + 64 ≡ 64 * (c.loop-word.word + 1) = omega arith in
    subst (AreLeft (refutes_in_row c.args.formulas.now c.args.conclusion.now c.args.letters) c.args.letters) next
    (no_row (refutes_in_row c.args.formulas.now c.args.conclusion.now c.args.letters) c.args.letters (64 * c.loop-word.word) c.rows_refuted.result.bits c.first-first.result
    c.rows_refuted.ensures.rows c.loop-word.invariant c.first-first.ensures.before past)
