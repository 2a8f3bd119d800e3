use Rattle.std.proofs.Common.{◌≡◌, ℕ, [], length, get_or}
use Rattle.tableau_branch.proofs.indexed.Indexed.new.Given as goal

abbrev pub invariant-loop : goal.invariant-loop
invariant-loop l = (length l.buckets.items ≡ l.counter) × ((k : ℕ) → get_or l.buckets.items k [] ≡ [])
