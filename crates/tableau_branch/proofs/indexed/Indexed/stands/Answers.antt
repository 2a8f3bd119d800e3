use Rattle.std.proofs.Common.{◌∙◌, ap}
use Rattle.tableau_laws.specs.declared.literal.Literal.{Literal as Signed}
use Rattle.tableau_laws.specs.Branch.{stands}
use Rattle.tableau_branch.proofs.Indexing.{in_index}
use Rattle.tableau_branch.proofs.indexed.Indexed.stands.Goals as goal

pub returns : goal.returns
returns c =
    let l : Signed = record { holds = c.args.holds; sentence = c.args.s.now } in
    record {
      value = c.is_in.ensures.value
          ∙ in_index c.self.inside.trail c.as_slice-items.result.now c.self.inside.buckets.items l c.bucket.result c.index-bucket.result.now c.index-bucket.result.now c.as_slice.result.now c.self.invariant c.bucket.ensures.value
          c.bucket.ensures.below c.as_slice-items.ensures.value c.as_slice.ensures.value c.index-bucket.ensures
          ∙ ap (λ z. stands z l) c.self.view_is;
    }
