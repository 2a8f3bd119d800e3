use Rattle.std.proofs.Common.{◌≡◌, take, false}
use Rattle.std.specs.List.{list_any}
use Rattle.fol_core.specs.Subst.{occurs}
use Rattle.fol_core.proofs.occurrence.+occurs.Given as goal

abbrev pub invariant-occurs_in_any-loop-part : goal.invariant-occurs_in_any-loop-part
invariant-occurs_in_any-loop-part l = list_any (occurs l.name) (take l.part-index l.parts) ≡ false
