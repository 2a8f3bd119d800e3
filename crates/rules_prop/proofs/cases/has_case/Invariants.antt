use Rattle.std.proofs.Common.{◌≡◌, ◌<◌, ℕ, Some, true}
use Rattle.std.specs.Prelude.{slice_get}
use Rattle.deriv_laws.specs.declared.line.Cite.{Cite}
use Rattle.nested_proofs.specs.ReadOff.{stated_at}
use Rattle.bit_sets.specs.BitSets.{has}
use Rattle.rules_prop.proofs.cases.has_case.Given as goal

abbrev pub invariant-loop-i : goal.invariant-loop-i
invariant-loop-i l = (k : ℕ) (c : Cite) → k < l.i → slice_get l.cites k ≡ Some c → has l.places.bits k ≡ true → stated_at l.lines c.first ≡ Some l.p → ⊥
