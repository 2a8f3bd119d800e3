-- The cited subproofs that end in a sentence, as a set of places among the cites: a private description.
use Rattle.std.specs.Prelude.{◌≡◌, ◌↔◌, ℕ, true, IsTrue, List, slice_get, Some}
use Rattle.fol_core.specs.declared.sent.Sent.{Sent}
use Rattle.deriv_laws.specs.declared.line.Cite.{Cite}
use Rattle.deriv_laws.specs.declared.line.FlatLine.{FlatLine}
use Rattle.nested_proofs.specs.ReadOff.{stated_at, subproof_between, concluded_by}
use Rattle.bit_sets.specs.BitSets.{has}

-- The cite is a subproof that ends in s.
abbrev pub EndsIn : List FlatLine → Sent → Cite → Type 0
EndsIn lines s c = (c.sub ≡ true) × (concluded_by (subproof_between lines c.first c.last) ≡ Some s)

-- In the set are the places of the cites that are subproofs that end in s.
abbrev pub AreEnding : List FlatLine → List Cite → Sent → ℕ → Type 0
AreEnding lines cites s bits = (k : ℕ) (c : Cite) → slice_get cites k ≡ Some c → IsTrue (has bits k) ↔ EndsIn lines s c

-- At a place of the set there is a cite of a line that states p.
abbrev pub SomeBegins : List FlatLine → List Cite → ℕ → Sent → Type 0
SomeBegins lines cites bits p = (k : ℕ) × (c : Cite) × (slice_get cites k ≡ Some c) × (has bits k ≡ true) × (stated_at lines c.first ≡ Some p)
