use Rattle.std.proofs.Common.{◌≡◌, ◌∷◌, [], ◌++◌, map, ap, ap₂, sym, ◌∙◌, rules}
use Rattle.deriv_laws.specs.declared.rule.Rule.TheVariants as r
use Rattle.deriv_laws.specs.declared.tree.Tree.{out-Tree}
use Rattle.deriv_laws.specs.Discharge.{without, joined}
use Rattle.deriv_laws.specs.Trees.{undischarged}
use Rattle.deriv_laws.specs.Dropped.{removed, removed_of, sentences, in_parts}
use Rattle.deriv_laws.proofs.Lists.{on_ok}
use Rattle.deriv_laws.proofs.Scanning.{open_assume, open_other}
use Rattle.deriv_laws.proofs.Discharging.{after_part, without_none, without_more, more_dropped, own_and_parts, parts_alone}
use Rattle.deriv_laws.proofs.leaves.+open.Goals.{put_open-then-eq+in_ok-put_kept, put_open-else-eq, put_open_of_all-in-None+in_ok-put_open-in-None, put_open_of_all-in-Some+in_ok-put_open-in-Some}
use Rattle.deriv_laws.proofs.leaves.+open.Goals as goal

pub put_open-returns : goal.put_open-returns
put_open-returns t c =
    let tree = c.args.tree.now in
    let ds = sentences c.args.dropped.now in
    let parts = ap₂ (λ ts ds. joined (map undischarged ts) ds) c.as_slice.ensures.value c.discharge_at-discharge.ensures.value in
    record {
      added =
          on_ok c.put_open_of_all.result _ (c.put_open_of_all.new.assumptions ≡ c.args.assumptions.now ++ without ds (undischarged tree))
          (λ more. elim c.if-eq.branch [
            | put_open-then-eq+in_ok-put_kept w ↦
                let e : (out-Tree tree).rule ≡ r.Assume = search rules in
                own_and_parts c.args.assumptions.now c.if-eq.assumptions c.put_open_of_all.new.assumptions ds _ (undischarged tree) (out-Tree tree).sentence
                (w.assumptions-is ∙ w.in_ok-put_kept.ensures.added) (more ∙ ap (λ ss. c.if-eq.assumptions ++ without ds ss) parts) (open_assume tree e)
            | put_open-else-eq w ↦
                let n : (out-Tree tree).rule ≡ r.Assume → ⊥ = search rules in
                parts_alone c.args.assumptions.now c.if-eq.assumptions c.put_open_of_all.new.assumptions ds _ (undischarged tree)
                w.assumptions-is (more ∙ ap (λ ss. c.if-eq.assumptions ++ without ds ss) parts) (open_other tree n)
          ])
          c.put_open_of_all.ensures.added;
    }

pub put_open_of_all-loop-i-preserved : goal.put_open_of_all-loop-i-preserved
put_open_of_all-loop-i-preserved t c = elim c.match-discharged_in.branch [
  | put_open_of_all-in-None+in_ok-put_open-in-None w ↦
      after_part (sentences c.args.dropped.now) c.args.parts.now (in_parts c.args.discharge.now) c.loop-i.i w.index-parts-i.result [] c.args.assumptions.now c.loop-i.assumptions c.match-discharged_in.assumptions
      c.loop-i-test.true w.index-parts-i.is (sym c.discharged_in.ensures.value ∙ ap removed_of w.in-None.is) c.loop-i.invariant
      (w.assumptions-is ∙ w.in_ok-put_open-in-None.ensures.added ∙ ap (λ ss. c.loop-i.assumptions ++ without (sentences c.args.dropped.now) ss) (sym (without_none (undischarged w.index-parts-i.result))))
  | put_open_of_all-in-Some+in_ok-put_open-in-Some w ↦
      after_part (sentences c.args.dropped.now) c.args.parts.now (in_parts c.args.discharge.now) c.loop-i.i w.index-parts-i-in-Some.result (removed w.in-Some.s ∷ []) c.args.assumptions.now c.loop-i.assumptions c.match-discharged_in.assumptions
      c.loop-i-test.true w.index-parts-i-in-Some.is (sym c.discharged_in.ensures.value ∙ ap removed_of w.in-Some.is) c.loop-i.invariant
      (w.assumptions-is ∙ w.in_ok-put_open-in-Some.ensures.added
      ∙ ap (λ ds. c.loop-i.assumptions ++ without ds (undischarged w.index-parts-i-in-Some.result)) (more_dropped w.in-Some.s c.args.dropped)
      ∙ ap (λ ss. c.loop-i.assumptions ++ ss) (sym (without_more (removed w.in-Some.s) (sentences c.args.dropped.now) (undischarged w.index-parts-i-in-Some.result))))
]
