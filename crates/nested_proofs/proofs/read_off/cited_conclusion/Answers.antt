-- Lines of another depth are passed over, from the subproof's end.
use Rattle.std.proofs.Common.{◌≡◌, ◌∙◌, sym, ap, arith}
use Rattle.nested_proofs.specs.ReadOff.{concluded_by, subproof_between}
use Rattle.nested_proofs.proofs.Conclusions.{ends_at_once, ends_with, passes_over}
use Rattle.nested_proofs.proofs.read_off.cited_conclusion.Goals as goal

pub returns-then-line-depth : goal.returns-then-line-depth
returns-then-line-depth c = record {
  value =
      let ls = c.args.lines.now in
      let n = c.args.cite.first in
      let w = c.requires.within in
      let x = c.index-lines-number.result in
      c.as_ref.ensures.value
      ∙ sym (c.loop-number.invariant.same ∙ ends_with ls n c.index-lines-first.result w.from_one (omega (arith, w.in_order, w.to_last)) c.index-lines-first.is c.loop-number.number x c.loop-number-test.true (omega (arith, w.to_last, c.loop-number.invariant.within)) c.index-lines-number.is (c.if-line-depth.true ∙ ap (λ y. y.depth) (sym c.index-lines-first.is)));
}

pub loop-number-preserved : goal.loop-number-preserved
loop-number-preserved c =
    let ls = c.args.lines.now in
    let n = c.args.cite.first in
    let w = c.requires.within in
    record {
      within = omega (arith, c.loop-number.invariant.within);
      after = omega (arith, c.loop-number-test.true);
      same = c.loop-number.invariant.same ∙ passes_over ls n c.index-lines-first.result w.from_one (omega (arith, w.in_order, w.to_last)) c.index-lines-first.is c.loop-number.number c.index-lines-number.result c.loop-number-test.true (omega (arith, w.to_last, c.loop-number.invariant.within)) c.index-lines-number.is (λ q. c.if-line-depth.false (q ∙ ap (λ y. y.depth) c.index-lines-first.is));
    }

pub returns : goal.returns
returns c = record {
  value =
      let ls = c.args.lines.now in
      let n = c.args.cite.first in
      let w = c.requires.within in
      let k : c.loop-number.number ≡ n = omega (arith, c.loop-number-test.false, c.loop-number.invariant.after) in
      c.as_ref-2.ensures.value ∙ ap (λ y. y.sentence) (sym c.index-lines-first-2.is)
      ∙ sym (c.loop-number.invariant.same ∙ ap (λ i. concluded_by (subproof_between ls n i)) k ∙ ends_at_once ls n c.index-lines-first-2.result w.from_one (omega (arith, w.in_order, w.to_last)) c.index-lines-first-2.is);
}
