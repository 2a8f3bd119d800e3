use Rattle.std.proofs.Common.{inl, inr}
use Rattle.fitch_file.proofs.task_text.advance.Goals as goal

pub returns-in-Ok-clause-only : goal.returns-in-Ok-clause-only
returns-in-Ok-clause-only c = λ after h. elim (c.in-Ok.ensures.exact after h) [ inl e ↦ cc | inr e ↦ absurd (cc) ]

pub returns-in-Err-clause-none : goal.returns-in-Err-clause-none
returns-in-Err-clause-none c = λ after h. elim (c.in-Err.ensures.exact after h) [ inl e ↦ absurd (cc) | inr e ↦ cc ]
