use Rattle.std.proofs.Common.{◌≡◌, take}
use Rattle.std.specs.List.{flat_map}
use Rattle.tableau_laws.specs.Branch.{all_terms_in}
use Rattle.tableau_branch.specs.inside.Gathered.{gathered}
use Rattle.tableau_branch.proofs.terms.+gather.Given as goal

abbrev pub invariant-gather_parts-loop-part : goal.invariant-gather_parts-loop-part
invariant-gather_parts-loop-part l = l.terms.items ≡ gathered l.fn.terms.items (flat_map all_terms_in (take l.part-index l.parts))
