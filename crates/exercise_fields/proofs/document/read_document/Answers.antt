use Rattle.std.proofs.Common.{◌≡◌, ◌≤◌, ◌∙◌, length, arith, refl, ap, sym}
use Rattle.toml.specs.Parse.{parse_document}
use Rattle.exercise_fields.proofs.Documents.{no_document, document}
use Rattle.exercise_fields.proofs.document.read_document.Goals as goal

pub returns-in_default-clause-refused : goal.returns-in_default-clause-refused
returns-in_default-clause-refused c = (no_document c.args.text.now c.in_default.ensures.cases.0, refl, refl)

pub returns-in-Ok-table_from_str-clause-read : goal.returns-in-Ok-table_from_str-clause-read
returns-in-Ok-table_from_str-clause-read c =
    let same : c.in-Ok.text.now ≡ c.args.text.now = c.in-Ok.ensures.cases.0 in
    let short : length c.args.text.now ≤ 65_536 = omega arith in
    document c.args.text.now short c.in-Ok.ensures.cases.1 ∙ sym (ap parse_document same) ∙ c.in-Ok-table_from_str.ensures.ok
