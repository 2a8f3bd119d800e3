use Rattle.std.proofs.Common.{◌≡◌, ◌+◌, ◌<◌, length, take, Ok, sym, subst, arith, rules}
use Rattle.std.specs.List.{flat_map}
use Rattle.deriv_laws.specs.declared.tree.Tree.{out-Tree}
use Rattle.deriv_laws.specs.Trees.{nodes, node_at}
use Rattle.deriv_laws.specs.Scan.{IsScan, IsFirstBad}
use Rattle.deriv_laws.specs.Valid.{Meets}
use Rattle.deriv_laws.proofs.Lists.{part_within}
use Rattle.deriv_laws.proofs.Scanning.{count_out, root_bad, root_counts, root_later, bad_within, bad_part, scan_more}
use Rattle.deriv_laws.proofs.check.+scan.Goals as goal

pub scan-returns-then-not-meets : goal.scan-returns-then-not-meets
scan-returns-then-not-meets t c = record { scanned = λ h. root_bad c.args.tree.now (search rules) }

pub scan-returns-in-Ok : goal.scan-returns-in-Ok
scan-returns-in-Ok t c = record {
  scanned = λ h.
      let count = count_out c.args.tree.now in
      let root : Meets (node_at c.args.tree.now) = search rules in
      let below : IsScan (flat_map nodes (out-Tree c.args.tree.now).parts) (Ok c.in-Ok.count) =
      subst (λ ts. length (flat_map nodes ts) < 4294967296 → IsScan (flat_map nodes ts) (Ok c.in-Ok.count)) c.as_slice.ensures.value c.in-Ok.ensures.scanned (omega arith) in
      let e : c.saturating_add.result ≡ c.in-Ok.count + 1 = omega (arith, below.1) in
      subst (λ n. IsScan (nodes c.args.tree.now) (Ok n)) (sym e) (root_counts c.args.tree.now c.in-Ok.count root below);
}

pub scan-returns-in-Err : goal.scan-returns-in-Err
scan-returns-in-Err t c = record {
  scanned = λ h.
      let count = count_out c.args.tree.now in
      let root : Meets (node_at c.args.tree.now) = search rules in
      let below : IsFirstBad (flat_map nodes (out-Tree c.args.tree.now).parts) c.in-Err.place =
      subst (λ ts. length (flat_map nodes ts) < 4294967296 → IsFirstBad (flat_map nodes ts) c.in-Err.place) c.as_slice.ensures.value c.in-Err.ensures.scanned (omega arith) in
      let e : c.saturating_add-in-Err.result ≡ c.in-Err.place + 1 = omega (arith, bad_within (flat_map nodes (out-Tree c.args.tree.now).parts) c.in-Err.place below) in
      subst (λ n. IsFirstBad (nodes c.args.tree.now) n) (sym e) (root_later c.args.tree.now c.in-Err.place root below);
}

pub scan_all-returns-in-Err : goal.scan_all-returns-in-Err
scan_all-returns-in-Err t c = record {
  scanned = λ h.
      let all = part_within nodes c.args.parts.now c.loop-part.part-index c.part-item.result c.loop-part-test.true c.part-item.is in
      let before = c.loop-part.invariant h in
      let here : IsFirstBad (nodes c.part-item.result) c.in-Err.place = c.in-Err.ensures.scanned (omega arith) in
      let e : c.saturating_add.result ≡ length (flat_map nodes (take c.loop-part.part-index c.args.parts.now)) + c.in-Err.place = omega (arith, before.1, bad_within (nodes c.part-item.result) c.in-Err.place here) in
      subst (λ n. IsFirstBad (flat_map nodes c.args.parts.now) n) (sym e)
      (bad_part c.args.parts.now c.loop-part.part-index c.part-item.result c.in-Err.place c.loop-part-test.true c.part-item.is before.0 here);
}

pub scan_all-loop-part-preserved : goal.scan_all-loop-part-preserved
scan_all-loop-part-preserved t c = λ h.
    let all = part_within nodes c.args.parts.now c.loop-part.part-index c.part-item.result c.loop-part-test.true c.part-item.is in
    let before = c.loop-part.invariant h in
    let here : IsScan (nodes c.part-item.result) (Ok c.in-Ok.count) = c.in-Ok.ensures.scanned (omega arith) in
    let e : c.saturating_add-before.result ≡ c.loop-part.before + c.in-Ok.count = omega (arith, before.1, here.1) in
    subst (λ n. IsScan (flat_map nodes (take (c.loop-part.part-index + 1) c.args.parts.now)) (Ok n)) (sym e)
    (scan_more c.args.parts.now c.loop-part.part-index c.part-item.result c.loop-part.before c.in-Ok.count c.loop-part-test.true c.part-item.is before here)
