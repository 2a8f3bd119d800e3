-- The subproofs that end in the sentence and begin with a part go from the part to the sentence.
use Rattle.rules_prop.proofs.CasesShown.{cases_shown}
use Rattle.rules_prop.proofs.cases.covers.Goals as goal

pub returns : goal.returns
returns c = record {
  exact = cases_shown c.args.lines.now c.args.cites.now c.args.parts.now c.args.s.now c.ending_in-ending.result.bits c.all_begin.result c.ending_in-ending.ensures.exact c.all_begin.ensures.exact;
}
