use Rattle.std.proofs.Common.{sym, ◌∙◌}
use Rattle.std.specs.Option.{option_copied}
use Rattle.fitch_file.proofs.Claiming.{no_semicolon, no_reason, not_suited}
use Rattle.fitch_file.proofs.claim.read_claim.Goals as goal

pub returns-in_default : goal.returns-in_default
returns-in_default c = λ x. no_semicolon c.args.text.now c.split_box.result.1.now (option_copied c.split_box.result.0) x c.split_box.ensures c.in_default.ensures.value

pub returns-in_default-read_reason : goal.returns-in_default-read_reason
returns-in_default-read_reason c = λ x.
    no_reason c.args.text.now c.split_box.result.1.now c.in-Some.sentence.now c.in-Some.reason.now (option_copied c.split_box.result.0) x c.split_box.ensures c.in-Some.ensures.value c.in_default-read_reason.ensures

pub returns-else-suits : goal.returns-else-suits
returns-else-suits c = λ x.
    not_suited c.args.text.now c.split_box.result.1.now c.in-Some.sentence.now c.in-Some.reason.now c.trim-stated.result.now (option_copied c.split_box.result.0) c.in-Some-read_reason.given.rule (option_copied c.in-Some-read_reason.given.cites) x
    c.split_box.ensures c.in-Some.ensures.value c.trim-stated.ensures.value c.in-Some-read_reason.ensures (sym c.suits.ensures ∙ c.if-suits.false)
