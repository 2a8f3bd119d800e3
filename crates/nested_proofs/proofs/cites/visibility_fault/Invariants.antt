use Rattle.std.proofs.Common.{◌≡◌, ◌+◌, drop}
use Rattle.deriv_laws.specs.declared.line.StepFault.TheVariants as fault
use Rattle.nested_proofs.specs.CiteTests.{first_failing}
use Rattle.nested_proofs.specs.Visible.{sees}
use Rattle.nested_proofs.proofs.cites.visibility_fault.Given as goal

abbrev pub invariant-loop-i : goal.invariant-loop-i
invariant-loop-i l = first_failing (sees l.proof l.j) fault.NotVisible 1 l.cites ≡ first_failing (sees l.proof l.j) fault.NotVisible (l.i + 1) (drop l.i l.cites)
