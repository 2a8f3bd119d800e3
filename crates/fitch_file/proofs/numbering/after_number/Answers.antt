use Rattle.fitch_file.proofs.Digits.{count_once, not_numbered}
use Rattle.fitch_file.proofs.numbering.after_number.Goals as goal

pub returns-else-found-number : goal.returns-else-found-number
returns-else-found-number c = record {
  value = not_numbered c.args.number c.args.text.now c.split_digits.result.0.now c.split_digits.result.1.now c.split_digits.ensures.joined c.split_digits.ensures.digits c.split_digits.ensures.ends c.requires.low c.requires.high
      (λ h. c.if-found-number.false (count_once c.split_digits.result.0.now c.in-Some.found c.args.number c.in-Some.ensures.value h));
}

pub returns-in-None : goal.returns-in-None
returns-in-None c = record {
  value = not_numbered c.args.number c.args.text.now c.split_digits.result.0.now c.split_digits.result.1.now c.split_digits.ensures.joined c.split_digits.ensures.digits c.split_digits.ensures.ends c.requires.low c.requires.high
      (c.in-None.ensures.value c.args.number);
}
