use Rattle.std.proofs.Common.{◌+◌, length, get_or, false, ap, sym, ◌∙◌, arith}
use Rattle.taut_con.specs.Rows.{row_values}
use Rattle.taut_con.proofs.Compiling.{row_long}
use Rattle.taut_con.proofs.Placing.{valued_by_place}
use Rattle.taut_con.proofs.words.rows_beside.Goals as goal

pub returns : goal.returns
returns c = record {
  rows = λ k l.
      c.rows_of_letter.ensures.rows k l ∙ ap (λ i. get_or (row_values (length c.args.letters.now) (c.args.base + k)) i false) c.place_of.ensures.value
      ∙ sym (valued_by_place c.args.letters.now (row_values (length c.args.letters.now) (c.args.base + k)) c.args.letter.now (omega (arith, row_long (length c.args.letters.now) (c.args.base + k))));
}
