use Rattle.std.proofs.Common.{arith}
use Rattle.std.proofs.lemmas.List.Sums.{prefix_len-le-length}
use Rattle.fol_core.specs.Word.{goes_on}
use Rattle.fol_text.proofs.Lexing.{word_found, no_word_found}
use Rattle.fol_text.proofs.lexer.first_token.Goals as goal

pub split_at-requires : goal.split_at-requires
split_at-requires c = omega (arith, prefix_len-le-length goes_on c.args.text.now, c.word_len.ensures.value)

pub returns-in-Some : goal.returns-in-Some
returns-in-Some c = record {
  value = word_found c.args.text.now c.word_len.result c.split_at.result.0.now c.split_at.result.1.now c.in_ok-ident.field-0 c.in-Some.ident
      c.word_len.ensures.value c.split_at.ensures.front c.split_at.ensures.back c.in_ok-ident.ensures.value c.in-Some.is;
}

pub returns : goal.returns
returns c =
    let e = no_word_found c.args.text.now c.word_len.result c.split_at.result.0.now c.in_ok-ident.field-0
    c.word_len.ensures.value c.split_at.ensures.front c.in_ok-ident.ensures.value c.in_default.is in
    record { value = rw e c.first_sign.ensures.value }
