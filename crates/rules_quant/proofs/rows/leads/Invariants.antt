use Rattle.std.proofs.Common.{◌+◌, ◌<◌, ℕ}
use Rattle.std.specs.Prelude.{[]}
use Rattle.rules_quant.specs.Rows.{Rows}
use Rattle.rules_quant.proofs.rows.leads.Given as goal

abbrev pub invariant-loop-count : goal.invariant-loop-count
invariant-loop-count l = (i : ℕ) → i < l.count → Rows l.quantifier (i + 1) l.q [] l.t → ⊥
