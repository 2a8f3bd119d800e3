-- What is printed of the faults of proofs and tasks.
use Rattle.std.specs.Prelude.{ℕ, List, ◌++◌, codes}
use Rattle.deriv_laws.specs.declared.line.StepFault.{StepFault}
use Rattle.deriv_laws.specs.declared.line.StepFault.TheVariants as step
use Rattle.fitch_file.specs.declared.fault.TextFault.{TextFault}
use Rattle.fitch_file.specs.declared.fault.TextFault.TheVariants as text
use Rattle.fitch_file.specs.declared.fault.TaskFault.{TaskFault}
use Rattle.fitch_file.specs.declared.fault.TaskFault.TheVariants as task
use Rattle.proof_check.specs.declared.verdict.LineFault.{LineFault}
use Rattle.proof_check.specs.declared.verdict.LineFault.TheVariants as line
use Rattle.fault_words.specs.Numbered.{with_number}
use Rattle.fault_words.specs.SentenceFaults.{sentence_text}

-- The fault of a step by its name, with the place of the cite or the constant.
abbrev pub step_fault_text : StepFault → List ℕ
step_fault_text step.CiteCount = codes "CiteCount"
step_fault_text (step.NotVisible k) = with_number (codes "NotVisible") k
step_fault_text (step.WrongKind k) = with_number (codes "WrongKind") k
step_fault_text step.NotFollows = codes "NotFollows"
step_fault_text (step.BoxMissing k) = with_number (codes "BoxMissing") k
step_fault_text (step.BoxUnwanted k) = with_number (codes "BoxUnwanted") k
step_fault_text (step.NotFresh c) = codes "NotFresh " ++ c
step_fault_text step.Memory = codes "Memory"

-- The fault of a proof line by its name, with the row of the truth table or the number of letters.
abbrev pub line_fault_text : LineFault → List ℕ
line_fault_text (line.Step fault) = step_fault_text fault
line_fault_text line.NotAPremise = codes "NotAPremise"
line_fault_text line.RuleNotAllowed = codes "RuleNotAllowed"
line_fault_text (line.NotTaut row) = with_number (codes "NotTaut") row
line_fault_text line.Open = codes "Open"
line_fault_text line.Spent = codes "Spent"
line_fault_text (line.Letters n) = with_number (codes "Letters") n
line_fault_text line.GoalNotReached = codes "GoalNotReached"

-- The fault of a physical line of a proof text by its name, with the refusal of its sentence.
abbrev pub proof_fault_text : TextFault → List ℕ
proof_fault_text text.Header = codes "Header"
proof_fault_text text.Number = codes "Number"
proof_fault_text text.Depth = codes "Depth"
proof_fault_text (text.Sentence refusal) = sentence_text refusal
proof_fault_text text.RuleName = codes "RuleName"
proof_fault_text text.Cite = codes "Cite"
proof_fault_text text.TooManyLines = codes "TooManyLines"
proof_fault_text text.Memory = codes "Memory"

-- The same for a task text.
abbrev pub task_fault_text : TaskFault → List ℕ
task_fault_text task.Header = codes "Header"
task_fault_text task.Form = codes "Form"
task_fault_text (task.Sentence refusal) = sentence_text refusal
task_fault_text task.NoGoal = codes "NoGoal"
task_fault_text task.TooManyPremises = codes "TooManyPremises"
task_fault_text task.Memory = codes "Memory"
