use Rattle.std.proofs.Common.{◌≡◌, ◌≤◌, ◌-◌, ◌+◌, length, arith}
use Rattle.tableau_branch.proofs.Indexing.{undone}
use Rattle.tableau_branch.proofs.indexed.Indexed.undo.Goals as goal

pub loop-self-preserved : goal.loop-self-preserved
loop-self-preserved c =
    let b = c.loop-self.self-inside.trail in
    let n = c.mark-before.result - 1 in
    let j : length b ≡ n + 1 = omega (arith, c.loop-self-test.true, c.mark.ensures.value, c.mark-before.ensures.value) in
    let m : c.args.mark ≤ n = omega (arith, c.loop-self-test.true, c.mark.ensures.value, c.mark-before.ensures.value) in
    let w = undone b c.as_slice.result.now c.undo.new.self c.args.self.now c.loop-self.self-inside.buckets.items c.args.mark n c.bucket-at.result c.index_mut.result.now c.pop.new.self c.index_mut.result.now
    c.index-as_slice-before.result c.loop-self.invariant.indexed c.loop-self.invariant.kept m j c.as_slice.ensures.value c.index-as_slice-before.is c.bucket-at.ensures.value c.bucket-at.ensures.below c.index_mut.ensures.value
    c.pop.ensures c.undo.ensures.value in
    record { kept = w.0; enough = w.1; indexed = w.2 }
