use Rattle.std.proofs.Common.{◌≡◌, ◌+◌, ap, subst, ◌∙◌, arith}
use Rattle.boole_table.specs.TableWords.{AreWords, row_by_words}
use Rattle.boole_table.proofs.WordRows.{one_row_more}
use Rattle.boole_table.proofs.standard.add_rows.Goals as goal

pub loop-place-preserved : goal.loop-place-preserved
loop-place-preserved c =
    let same : c.in_ok-words.words ≡ c.as_slice.result.now = cc in
    one_row_more c.args.letters.now c.args.sentences.now c.as_slice.result.now (c.args.before + 1) c.loop-place.place c.args.rows.now c.loop-place.rows c.add.new.self c.in_ok-make_row.field-0
    (subst (AreWords c.args.letters.now c.args.sentences.now (c.args.before + 1)) same c.in_ok-words.ensures) (omega arith)
    (c.in_ok-make_row.ensures ∙ ap (λ n. row_by_words n (c.args.before + 1 + c.loop-place.place) c.as_slice.result.now c.loop-place.place) c.len.ensures.value)
    c.loop-place.invariant c.in_ok-add.ensures.ok
