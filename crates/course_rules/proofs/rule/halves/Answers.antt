use Rattle.course_rules.proofs.Cutting.{halves_match}
use Rattle.course_rules.proofs.rule.halves.Goals as goal

pub returns : goal.returns
returns c = record { value = halves_match c.args.at c.args.text.now c.cut.result c.cut.ensures.value }
