use Rattle.std.proofs.Common.{arith}
use Rattle.std.proofs.lemmas.List.Sums.{prefix_len-le-length}
use Rattle.fol_core.specs.Word.{goes_on}
use Rattle.fol_text.proofs.Taken.{word_read}
use Rattle.fol_text.proofs.fronts.word.Goals as goal

pub split_at-requires : goal.split_at-requires
split_at-requires c = omega (arith, prefix_len-le-length goes_on c.trim_start-text.result.now, c.word_len.ensures.value)

pub returns-in-Some : goal.returns-in-Some
returns-in-Some c = record {
  read = word_read c.args.text.now c.trim_start-text.result.now c.word_len.result c.split_at.result.0.now c.split_at.result.1.now c.in_ok-word.field-0 c.in-Some.word
      c.trim_start-text.ensures.value c.word_len.ensures.value c.split_at.ensures.front c.split_at.ensures.back c.in_ok-word.ensures.value c.in-Some.is;
}
