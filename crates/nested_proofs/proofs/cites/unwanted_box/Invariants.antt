use Rattle.std.proofs.Common.{◌≡◌, ◌+◌, drop, not}
use Rattle.deriv_laws.specs.declared.line.StepFault.TheVariants as fault
use Rattle.nested_proofs.specs.CiteTests.{first_failing}
use Rattle.nested_proofs.specs.Visible.{sees_box}
use Rattle.nested_proofs.proofs.cites.unwanted_box.Given as goal

abbrev pub invariant-loop-i : goal.invariant-loop-i
invariant-loop-i l = first_failing (λ c. not (sees_box l.proof l.j c)) fault.BoxUnwanted 1 l.cites ≡ first_failing (λ c. not (sees_box l.proof l.j c)) fault.BoxUnwanted (l.i + 1) (drop l.i l.cites)
