-- Why a line with one of these rules fails.
use Rattle.deriv_laws.specs.declared.line.StepFault.{StepFault}
use Rattle.deriv_laws.specs.declared.line.StepFault.TheVariants as fault
use Rattle.nested_proofs.specs.Placed.{Placed}
use Rattle.nested_proofs.specs.FollowsAt.{FollowsAt}
use Rattle.nested_proofs.specs.StaysAt.{StaysAt, BoxesAt}

-- The line doesn't follow; or it does, but the constant boxed by the one cited subproof, which the fault names, isn't
-- arbitrary. Memory is wanted for this name alone, and no other fault comes.
abbrev pub FailsAs : StepFault → Placed → Type 0
FailsAs fault.NotFollows x = FollowsAt x → ⊥
FailsAs (fault.NotFresh c) x = FollowsAt x × (StaysAt x → ⊥) × BoxesAt c x
FailsAs fault.Memory x = FollowsAt x × (StaysAt x → ⊥)
FailsAs _ x = ⊥
