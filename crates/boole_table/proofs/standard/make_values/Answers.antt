use Rattle.std.proofs.Common.{◌+◌, ◌++◌, ◌∷◌, [], sym, ap₂, ◌∙◌, arith}
use Rattle.std.proofs.lemmas.List.FromFn.{map-range_with_len_more}
use Rattle.taut_con.specs.Rows.{letter_in_row}
use Rattle.boole_table.proofs.standard.make_values.Goals as goal

pub loop-index-preserved : goal.loop-index-preserved
loop-index-preserved c =
    c.in_ok-add.ensures.ok ∙ ap₂ (λ xs x. xs ++ x ∷ []) c.loop-index.invariant c.letter_in_row.ensures.value
    ∙ sym (map-range_with_len_more (letter_in_row c.args.letters c.args.row) 1 c.loop-index.index (c.loop-index.index + 1) (omega arith))
