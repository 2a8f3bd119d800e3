use Rattle.std.proofs.Common.{refl, inl, inr}
use Rattle.std.specs.Str.Lines.{lines}
use Rattle.physical_lines.specs.Physical.{LacksHeader}
use Rattle.fitch_file.specs.Headers.{task_header}
use Rattle.fitch_file.specs.TaskFaults.{no_header}
use Rattle.physical_lines.proofs.Heading.{lacks_not_headed}
use Rattle.fitch_file.proofs.task_text.read_task.Goals as goal

pub returns-else-is_header-clause-exact : goal.returns-else-is_header-clause-exact
returns-else-is_header-clause-exact c = λ t s.
    let l : LacksHeader task_header (lines c.args.text.now) c.in-Some.first.place =
    inl (record { line = c.in-Some.first.line.now; rest = lines c.in-Some.first.rest.now; first = c.in-Some.ensures.value; is_other = λ h. let k = c.is_header.ensures.1 h in cc }) in
    absurd (lacks_not_headed task_header (lines c.args.text.now) c.in-Some.first.place s.place s.others l s.headed)

pub returns-else-is_header-clause-refused : goal.returns-else-is_header-clause-refused
returns-else-is_header-clause-refused c =
    let l : LacksHeader task_header (lines c.args.text.now) c.in-Some.first.place =
    inl (record { line = c.in-Some.first.line.now; rest = lines c.in-Some.first.rest.now; first = c.in-Some.ensures.value; is_other = λ h. let k = c.is_header.ensures.1 h in cc }) in
    inr (no_header c.args.text.now c.in-Some.first.place l)

pub returns-in-None-clause-exact : goal.returns-in-None-clause-exact
returns-in-None-clause-exact c = λ t s. absurd (lacks_not_headed task_header (lines c.args.text.now) 1 s.place s.others (inr (c.in-None.ensures.value, refl)) s.headed)

pub returns-in-None-clause-refused : goal.returns-in-None-clause-refused
returns-in-None-clause-refused c = inr (no_header c.args.text.now 1 (inr (c.in-None.ensures.value, refl)))
