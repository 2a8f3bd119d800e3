use Rattle.std.proofs.Common.{◌≡◌, ◌+◌, ◌*◌, ◌-◌, min, length, map, ◌++◌, ap, ◌∙◌, arith}
use Rattle.std.specs.Prelude.{◌<◌, ◌^◌}
use Rattle.std.specs.List.{range_with_len}
use Rattle.boole_table.specs.StandardTable.{standard_row}
use Rattle.boole_table.proofs.WordRows.{rows_more}
use Rattle.boole_table.proofs.standard.make_rows.Goals as goal

pub loop-word-preserved : goal.loop-word-preserved
loop-word-preserved c =
    let count : c.row_count-count.result ≡ 2 ^ length c.args.letters.now = c.row_count-count.ensures.value ∙ ap (λ n. 2 ^ n) c.len.ensures.value in
    let left : c.min.result ≡ min (2 ^ length c.args.letters.now - 64 * c.loop-word.word) 64 = omega (arith, count, c.min.ensures) in
    rows_more (standard_row c.args.letters.now c.args.sentences.now) c.loop-word.word (2 ^ length c.args.letters.now) c.loop-word.rows c.add_rows.new.rows (omega (arith, count)) c.loop-word.invariant
    (c.in_ok-add_rows.ensures.added ∙ ap (λ n. c.loop-word.rows ++ map (standard_row c.args.letters.now c.args.sentences.now) (range_with_len (64 * c.loop-word.word + 1) n)) left)
