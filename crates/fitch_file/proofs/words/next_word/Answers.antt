use Rattle.std.proofs.Common.{◌≢◌, [], length, ap, arith}
use Rattle.std.proofs.lemmas.Bool.Decides.{nat_tests}
use Rattle.physical_lines.proofs.Lengths.{after_blanks_fits}
use Rattle.fitch_file.proofs.Wording.{shorter_behind}
use Rattle.fitch_file.proofs.words.next_word.Goals as goal

pub returns-else-is_empty-clause-shorter : goal.returns-else-is_empty-clause-shorter
returns-else-is_empty-clause-shorter c =
    let some : c.split_word.result.0.now ≢ [] = λ e. let l = ap length e in grind (arith, nat_tests, l) in
    shorter_behind c.args.text.now c.split_word.result.0.now c.split_word.result.1.now c.trim_start.result.now c.split_word.ensures.joined
    (rw c.trim_start.ensures.value (after_blanks_fits c.args.text.now)) some
