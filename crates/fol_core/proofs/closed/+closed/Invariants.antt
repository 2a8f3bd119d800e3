use Rattle.std.proofs.Common.{◌≡◌, take, true}
use Rattle.std.specs.List.{list_all}
use Rattle.fol_core.specs.Bound.{words}
use Rattle.fol_core.specs.Closed.{closed_under}
use Rattle.fol_core.specs.Statements.{stated_under}
use Rattle.fol_core.proofs.closed.+closed.Given as goal

abbrev pub invariant-are_closed_under-loop-part : goal.invariant-are_closed_under-loop-part
invariant-are_closed_under-loop-part l =
    (list_all (λ s. closed_under s (words l.bound)) (take l.part-index l.parts) ≡ true)
    × (list_all (λ s. stated_under s (words l.bound)) (take l.part-index l.parts) ≡ true)
