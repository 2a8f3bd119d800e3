-- Sentences gathered one after the other, each once.
use Rattle.std.specs.Prelude.{Bool, List, [], ◌∷◌, ◌++◌, if◌then◌else◌}
use Rattle.std.specs.List.{list_any}
use Rattle.fol_core.specs.declared.sent.Sent.{Sent}
use Rattle.deriv_laws.specs.Discharge.{alike}

-- The sentence is one of these.
abbrev pub is_among : List Sent → Sent → Bool
is_among ps q = list_any (λ p. alike p q) ps

-- The sentences with one more last, unless it is one of them.
abbrev pub with_one : List Sent → Sent → List Sent
with_one ps q = if is_among ps q then ps else ps ++ q ∷ []

-- The sentences with more of them, one after the other.
abbrev pub with_each : List Sent → List Sent → List Sent
with_each ps [] = ps
with_each ps (q ∷ qs) = with_each (with_one ps q) qs
