use Rattle.std.proofs.Common.{◌≡◌, rules, IsTrue}
use Rattle.boole_table.specs.AnswerLines.{MayNumber}
use Rattle.boole_table.proofs.Numbering.{may_number, number_text, parsed, not_parsed}
use Rattle.boole_table.proofs.answer_line.number_of.Goals as goal

pub returns-then-not-may_number : goal.returns-then-not-may_number
returns-then-not-may_number c = record {
  value = λ n h.
      let t : IsTrue c.may_number.result = c.may_number.ensures.1 (may_number c.args.text.now n h) in
      search rules;
}

pub returns-in_default : goal.returns-in_default
returns-in_default c = record { value = λ n h. c.in_default.ensures.cases.0 (number_text c.args.text.now n h) }

pub returns-in-Ok-parse : goal.returns-in-Ok-parse
returns-in-Ok-parse c =
    let e : c.in-Ok.digits.now ≡ c.args.text.now = c.in-Ok.ensures.cases.0 in
    let m : MayNumber c.args.text.now = c.may_number.ensures.0 (search rules) in
    record { value = parsed c.args.text.now c.in-Ok-parse.number c.parse.result m (rw e at c.parse.ensures.value.0) c.in-Ok-parse.is }

pub returns-in-Err : goal.returns-in-Err
returns-in-Err c =
    let e : c.in-Ok.digits.now ≡ c.args.text.now = c.in-Ok.ensures.cases.0 in
    record { value = λ n h. not_parsed c.args.text.now n c.parse.result c.in-Err.field-0 (may_number c.args.text.now n h) (rw e at c.parse.ensures.value.0) c.in-Err.is h }
