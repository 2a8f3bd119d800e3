use Rattle.std.proofs.Common.{length, refl}
use Rattle.tableau_branch.proofs.Indexing.{pushed}
use Rattle.tableau_branch.proofs.indexed.Indexed.push.Goals as goal

pub invariant_of-result : goal.invariant_of-result
invariant_of-result c =
    pushed c.self.inside.trail c.as_slice-place.result.now c.push.new.self c.self.inside.buckets.items c.args.item c.bucket-at.result (length c.as_slice-place.result.now) c.index_mut.result.now c.add.new.self
    c.index_mut.result.now c.self.invariant c.bucket-at.ensures.value c.bucket-at.ensures.below c.as_slice-place.ensures.value refl c.index_mut.ensures.value c.in_ok-add.ensures.ok c.in-Ok.ensures.ok
