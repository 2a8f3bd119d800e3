use Rattle.std.proofs.Common.{◌≡◌, ◌+◌, drop}
use Rattle.deriv_laws.specs.declared.line.StepFault.TheVariants as fault
use Rattle.nested_proofs.specs.CiteTests.{is_taken, first_failing}
use Rattle.nested_proofs.proofs.cites.kind_fault.Given as goal

abbrev pub invariant-loop-i : goal.invariant-loop-i
invariant-loop-i l = first_failing (is_taken l.rule) fault.WrongKind 1 l.cites ≡ first_failing (is_taken l.rule) fault.WrongKind (l.i + 1) (drop l.i l.cites)
