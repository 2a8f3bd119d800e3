use Rattle.fitch_file.proofs.Claiming.{not_named_before}
use Rattle.fitch_file.proofs.claim.read_reason.Goals as goal

pub returns-in-None-rule_named : goal.returns-in-None-rule_named
returns-in-None-rule_named c = not_named_before c.args.text.now c.in-Some.name.now c.in-Some.cites.now c.in-Some.ensures.value (rw c.trim.ensures.value at c.in-None-rule_named.ensures)
