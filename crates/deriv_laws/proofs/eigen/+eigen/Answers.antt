use Rattle.std.proofs.Common.{◌≡◌, ◌∷◌, [], map, ap, ap₂, sym, ◌∙◌, false, true, rules}
use Rattle.deriv_laws.specs.declared.rule.Rule.TheVariants as r
use Rattle.deriv_laws.specs.declared.tree.Tree.{out-Tree}
use Rattle.deriv_laws.specs.Discharge.{without, joined}
use Rattle.deriv_laws.specs.Trees.{undischarged}
use Rattle.deriv_laws.specs.Dropped.{removed, removed_of, sentences, in_parts, avoids}
use Rattle.deriv_laws.proofs.Scanning.{open_assume, open_other}
use Rattle.deriv_laws.proofs.Discharging.{without_none, without_more, more_dropped}
use Rattle.deriv_laws.proofs.Avoiding.{own_kept, own_fails, denied_false, denied_true, avoids_more, parts_fail}
use Rattle.deriv_laws.proofs.eigen.+eigen.Goals.{is_avoided-else-eq-via-then-eq+else-stands_in, is_avoided-else-eq-via-else-eq, is_avoided_in_all-in-None, is_avoided_in_all-in-Some}
use Rattle.deriv_laws.proofs.eigen.+eigen.Goals as goal

pub is_avoided-returns-then-stands_in : goal.is_avoided-returns-then-stands_in
is_avoided-returns-then-stands_in t c =
    let tree = c.args.tree.now in
    let ds = sentences c.args.dropped.now in
    let e : (out-Tree tree).rule ≡ r.Assume = search rules in
    let own = denied_false (avoids c.args.constant.now (without ds ((out-Tree tree).sentence ∷ []))) (sym c.stands_in.ensures.value ∙ c.if-stands_in.true) in
    record { value = sym (own_fails c.args.constant.now ds _ (undischarged tree) (out-Tree tree).sentence (open_assume tree e) own) }

pub is_avoided-returns : goal.is_avoided-returns
is_avoided-returns t c =
    let tree = c.args.tree.now in
    let k = c.args.constant.now in
    let ds = sentences c.args.dropped.now in
    let parts = ap₂ (λ ts os. joined (map undischarged ts) os) c.as_slice.ensures.value c.discharge_at-discharge.ensures.value in
    record {
      value =
          c.is_avoided_in_all.ensures.value ∙ ap (λ js. avoids k (without ds js)) parts
          ∙ elim c.else-eq.branch [
            | is_avoided-else-eq-via-then-eq+else-stands_in w ↦
                let e : (out-Tree tree).rule ≡ r.Assume = search rules in
                let own = denied_true (avoids k (without ds ((out-Tree tree).sentence ∷ []))) (sym w.stands_in.ensures.value ∙ w.if-stands_in.false) in
                sym (own_kept k ds _ (undischarged tree) (out-Tree tree).sentence (open_assume tree e) own)
            | is_avoided-else-eq-via-else-eq w ↦
                let n : (out-Tree tree).rule ≡ r.Assume → ⊥ = search rules in
                sym (ap (λ os. avoids k (without ds os)) (open_other tree n))
          ];
    }

pub is_avoided_in_all-returns-then-not-avoided : goal.is_avoided_in_all-returns-then-not-avoided
is_avoided_in_all-returns-then-not-avoided t c =
    let k = c.args.constant.now in
    let ds = sentences c.args.dropped.now in
    let found : c.match-discharged_in.avoided ≡ false = c.if-not-avoided.true in
    record {
      value = sym (elim c.match-discharged_in.branch [
        | is_avoided_in_all-in-None w ↦
            parts_fail k ds c.args.parts.now (in_parts c.args.discharge.now) c.loop-i.i w.index-parts-i.result c.loop-i-test.true w.index-parts-i.is
            (ap (λ d. avoids k (without ds (without d (undischarged w.index-parts-i.result)))) (sym c.discharged_in.ensures.value ∙ ap removed_of w.in-None.is)
            ∙ ap (λ ss. avoids k (without ds ss)) (without_none (undischarged w.index-parts-i.result))
            ∙ sym w.is_avoided-avoided.ensures.value ∙ sym w.avoided-is ∙ found)
        | is_avoided_in_all-in-Some w ↦
            parts_fail k ds c.args.parts.now (in_parts c.args.discharge.now) c.loop-i.i w.index-parts-i-in-Some.result c.loop-i-test.true w.index-parts-i-in-Some.is
            (ap (λ d. avoids k (without ds (without d (undischarged w.index-parts-i-in-Some.result)))) (sym c.discharged_in.ensures.value ∙ ap removed_of w.in-Some.is)
            ∙ ap (avoids k) (without_more (removed w.in-Some.s) ds (undischarged w.index-parts-i-in-Some.result))
            ∙ ap (λ es. avoids k (without es (undischarged w.index-parts-i-in-Some.result))) (sym (more_dropped w.in-Some.s c.args.dropped))
            ∙ sym w.is_avoided-avoided-in-Some.ensures.value ∙ sym w.avoided-is ∙ found)
      ]);
    }

pub is_avoided_in_all-loop-i-preserved : goal.is_avoided_in_all-loop-i-preserved
is_avoided_in_all-loop-i-preserved t c =
    let k = c.args.constant.now in
    let ds = sentences c.args.dropped.now in
    let found : c.match-discharged_in.avoided ≡ true = c.if-not-avoided.false in
    elim c.match-discharged_in.branch [
      | is_avoided_in_all-in-None w ↦
          avoids_more k ds c.args.parts.now (in_parts c.args.discharge.now) c.loop-i.i w.index-parts-i.result c.loop-i-test.true w.index-parts-i.is c.loop-i.invariant
          (ap (λ d. avoids k (without ds (without d (undischarged w.index-parts-i.result)))) (sym c.discharged_in.ensures.value ∙ ap removed_of w.in-None.is)
          ∙ ap (λ ss. avoids k (without ds ss)) (without_none (undischarged w.index-parts-i.result))
          ∙ sym w.is_avoided-avoided.ensures.value ∙ sym w.avoided-is ∙ found)
      | is_avoided_in_all-in-Some w ↦
          avoids_more k ds c.args.parts.now (in_parts c.args.discharge.now) c.loop-i.i w.index-parts-i-in-Some.result c.loop-i-test.true w.index-parts-i-in-Some.is c.loop-i.invariant
          (ap (λ d. avoids k (without ds (without d (undischarged w.index-parts-i-in-Some.result)))) (sym c.discharged_in.ensures.value ∙ ap removed_of w.in-Some.is)
          ∙ ap (avoids k) (without_more (removed w.in-Some.s) ds (undischarged w.index-parts-i-in-Some.result))
          ∙ ap (λ es. avoids k (without es (undischarged w.index-parts-i-in-Some.result))) (sym (more_dropped w.in-Some.s c.args.dropped))
          ∙ sym w.is_avoided-avoided-in-Some.ensures.value ∙ sym w.avoided-is ∙ found)
    ]
