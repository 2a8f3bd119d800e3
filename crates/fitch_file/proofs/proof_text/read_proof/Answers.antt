use Rattle.std.proofs.Common.{inr}
use Rattle.std.specs.Str.Lines.{lines}
use Rattle.fitch_file.specs.ProofFaults.{no_header}
use Rattle.fitch_file.proofs.Heading.{spelled_behind, spelled_not_lacking, fault_behind}
use Rattle.fitch_file.proofs.proof_text.read_proof.Goals as goal

pub returns-in-Ok-clause-exact : goal.returns-in-Ok-clause-exact
returns-in-Ok-clause-exact c = λ ls h. c.read_lines.ensures.exact ls (spelled_behind c.args.text.now c.in-Ok.place (lines c.in-Ok.rest.now) ls c.in-Ok.ensures.value h)

pub returns-in-Ok-clause-refused : goal.returns-in-Ok-clause-refused
returns-in-Ok-clause-refused c = fault_behind c.args.text.now c.in-Ok.place (lines c.in-Ok.rest.now) c.read_lines.result c.in-Ok.ensures.value c.read_lines.ensures.refused

pub returns-in-Err-clause-exact : goal.returns-in-Err-clause-exact
returns-in-Err-clause-exact c = λ ls h. absurd (spelled_not_lacking c.args.text.now c.in-Err.place ls c.in-Err.ensures.value h)

pub returns-in-Err-clause-refused : goal.returns-in-Err-clause-refused
returns-in-Err-clause-refused c = inr (no_header c.args.text.now c.in-Err.place c.in-Err.ensures.value)
