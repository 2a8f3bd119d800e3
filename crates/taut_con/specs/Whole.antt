-- Recursion over a sentence that sees each part itself beside what is made of it.
use Rattle.fol_core.specs.declared.sent.Sent.{Sent, roll-Sent}
use Rattle.fol_core.specs.declared.sent.Sent.TheOpen.{Sent-F}
use Rattle.fol_core.specs.declared.sent.Sent.TheFolds.{fold-Sent, map-Sent}

-- A sentence beside what is made of it.
pub record Seen (A : Type 0) : Type 0 where
  pub itself : Sent
  pub made : A

-- One form of sentence over its parts as they are seen.
abbrev pub seen_over : {A : Type 0} → (Sent-F (Seen A) → A) → Sent-F (Seen A) → Seen A
seen_over {A} step x = record { itself = roll-Sent (map-Sent (Seen A) Sent (λ e. e.itself) x); made = step x }

-- A sentence, seen from its innermost parts outwards.
abbrev pub seen : {A : Type 0} → (Sent-F (Seen A) → A) → Sent → Seen A
seen {A} step = fold-Sent (Seen A) (seen_over step)

-- What the step makes of a sentence.
abbrev pub made_of : {A : Type 0} → (Sent-F (Seen A) → A) → Sent → A
made_of step s = (seen step s).made
