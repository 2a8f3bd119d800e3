-- What the parts of the reader of tasks answer, each about the piece of text that it is given.
use Rattle.std.specs.Prelude.{◌≡◌, ℕ, ◌+◌, List, ◌⊎◌}
use Rattle.fol_text.specs.declared.fault.ReadFault.{ReadFault}
use Rattle.fol_text.specs.declared.fault.ReadFault.TheVariants as read_fault
use Rattle.fitch_file.specs.declared.fault.TaskFault.{TaskFault}
use Rattle.fitch_file.specs.declared.fault.TaskFault.TheVariants.{Sentence, Memory}
use Rattle.physical_lines.specs.Physical.{IsBlankLine}
use Rattle.fitch_file.specs.Declarations.{Declares}
use Rattle.fitch_file.specs.declared.task_text.Progress.{Progress}

-- The fault of a line of a task whose sentence is refused, or the want of memory.
abbrev pub declared_fault : ReadFault → TaskFault
declared_fault read_fault.Memory = Memory
declared_fault fault = Sentence fault

-- What was declared before the line, and after it where it isn't blank; how many lines came before, and how many of them lead
-- up to the last one that isn't blank.
abbrev pub Advances : Progress → List ℕ → Progress → Type 0
Advances before line after =
    (after.place ≡ before.place + 1)
    × ((IsBlankLine line × (after.draft ≡ before.draft) × (after.written ≡ before.written))
    ⊎ ((IsBlankLine line → ⊥) × Declares before.draft line after.draft × (after.written ≡ before.place + 1)))
