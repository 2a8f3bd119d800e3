-- How the code finds the boxed constant that isn't arbitrary: a private description of it.
use Rattle.std.specs.Prelude.{Bool, false, ◌||◌, Option, Some, None, if◌then◌else◌}
use Rattle.fol_core.specs.declared.sent.Sent.{Sent}
use Rattle.fol_core.specs.Word.{Word}
use Rattle.fol_core.specs.Subst.{occurs}
use Rattle.nested_proofs.specs.Scope.{Subproof}

-- The constant that the subproof, where there is one, boxes.
abbrev pub boxed_by : Option Subproof → Option Word
boxed_by None = None
boxed_by (Some b) = b.boxed

-- The name stands in the sentence, where there is one.
abbrev pub occurs_in : Word → Option Sent → Bool
occurs_in c None = false
occurs_in c (Some p) = occurs c p

-- The constant, where there is one and it stands in one of the sentences.
abbrev pub box_in : Option Word → Sent → Option Sent → Option Word
box_in None s o = None
box_in (Some c) s o = if occurs c s || occurs_in c o then Some c else None
