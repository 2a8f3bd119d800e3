use Rattle.play_text.proofs.Leading.{leads_shift, line_no_longer}
use Rattle.play_text.proofs.play_text.wanted.Goals as goal

pub returns-in-Some-clause-leads : goal.returns-in-Some-clause-leads
returns-in-Some-clause-leads c = leads_shift c.in-Some.ensures.leads c.args.place

pub returns-in-Some-clause-fits : goal.returns-in-Some-clause-fits
returns-in-Some-clause-fits c = line_no_longer 1 c.args.text.now c.in-Some.first.place c.in-Some.first.line.now c.in-Some.first.rest.now c.in-Some.ensures.leads
