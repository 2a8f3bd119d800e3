use Rattle.std.proofs.Common.{◌≡◌, ◌++◌, ◌∙◌, List, ℕ, ap, subst}
use Rattle.std.specs.Prelude.{OnOk}
use Rattle.fol_core.specs.declared.sent.Sent.{Sent}
use Rattle.fol_text.specs.Printed.{shown, opening}
use Rattle.fol_text.proofs.PrintLaws.{and_put, or_put, if_put, iff_put, all_put, ex_put, separated_more, later}
use Rattle.fol_text.proofs.print.+print.Goals as goal

pub add-returns-in-And : goal.add-returns-in-And
add-returns-in-And t c = record {
  value = subst (λ (m : List ℕ). OnOk c.add_chain.result (c.add_chain.new.text ≡ m))
      (and_put c.args.is_part c.args.text.now c.args.s.now c.in-And.parts c.as_slice-in-And.result.now c.in-And.is c.as_slice-in-And.ensures.value)
      c.add_chain.ensures.value;
}

pub add-returns-in-Or : goal.add-returns-in-Or
add-returns-in-Or t c = record {
  value = subst (λ (m : List ℕ). OnOk c.add_chain-in-Or.result (c.add_chain-in-Or.new.text ≡ m))
      (or_put c.args.is_part c.args.text.now c.args.s.now c.in-Or.parts c.as_slice-in-Or.result.now c.in-Or.is c.as_slice-in-Or.ensures.value)
      c.add_chain-in-Or.ensures.value;
}

pub add-returns-in_ok-add-in-If-2 : goal.add-returns-in_ok-add-in-If-2
add-returns-in_ok-add-in-If-2 t c = record {
  value = subst (λ (m : List ℕ). OnOk c.end_group.result (c.end_group.new.text ≡ m))
      (if_put c.args.is_part c.args.text.now c.begin_group.new.text c.add-in-If.new.text c.extend-in-If.new.self c.add-in-If-2.new.text c.args.s.now c.in-If.a c.in-If.b c.in-If.is
      c.in_ok-begin_group-in-If.ensures.value (c.in_ok-add-in-If.ensures.value ∙ ap (λ (s : Sent). c.begin_group.new.text ++ (shown s).part) c.get-in-If.ensures)
      c.in_ok-extend-in-If.ensures.ok (c.in_ok-add-in-If-2.ensures.value ∙ ap (λ (s : Sent). c.extend-in-If.new.self ++ (shown s).part) c.get-in-If-2.ensures))
      c.end_group.ensures.value;
}

pub add-returns-in_ok-add-in-Iff-2 : goal.add-returns-in_ok-add-in-Iff-2
add-returns-in_ok-add-in-Iff-2 t c = record {
  value = subst (λ (m : List ℕ). OnOk c.end_group-in-Iff.result (c.end_group-in-Iff.new.text ≡ m))
      (iff_put c.args.is_part c.args.text.now c.begin_group-in-Iff.new.text c.add-in-Iff.new.text c.extend-in-Iff.new.self c.add-in-Iff-2.new.text c.args.s.now c.in-Iff.a c.in-Iff.b c.in-Iff.is
      c.in_ok-begin_group-in-Iff.ensures.value (c.in_ok-add-in-Iff.ensures.value ∙ ap (λ (s : Sent). c.begin_group-in-Iff.new.text ++ (shown s).part) c.get-in-Iff.ensures)
      c.in_ok-extend-in-Iff.ensures.ok (c.in_ok-add-in-Iff-2.ensures.value ∙ ap (λ (s : Sent). c.extend-in-Iff.new.self ++ (shown s).part) c.get-in-Iff-2.ensures))
      c.end_group-in-Iff.ensures.value;
}

pub add-returns-in_ok-add_quantifier-in-All : goal.add-returns-in_ok-add_quantifier-in-All
add-returns-in_ok-add_quantifier-in-All t c = record {
  value = subst (λ (m : List ℕ). OnOk c.add-in-All.result (c.add-in-All.new.text ≡ m))
      (all_put c.args.is_part c.args.text.now c.add_quantifier.new.text c.in-All.x c.args.s.now c.in-All.a c.in-All.is c.in_ok-add_quantifier-in-All.ensures.value)
      (subst (λ (s : Sent). OnOk c.add-in-All.result (c.add-in-All.new.text ≡ c.add_quantifier.new.text ++ (shown s).part)) c.get-in-All.ensures c.add-in-All.ensures.value);
}

pub add-returns-in_ok-add_quantifier-in-Ex : goal.add-returns-in_ok-add_quantifier-in-Ex
add-returns-in_ok-add_quantifier-in-Ex t c = record {
  value = subst (λ (m : List ℕ). OnOk c.add-in-Ex.result (c.add-in-Ex.new.text ≡ m))
      (ex_put c.args.is_part c.args.text.now c.add_quantifier-in-Ex.new.text c.in-Ex.x c.args.s.now c.in-Ex.a c.in-Ex.is c.in_ok-add_quantifier-in-Ex.ensures.value)
      (subst (λ (s : Sent). OnOk c.add-in-Ex.result (c.add-in-Ex.new.text ≡ c.add_quantifier-in-Ex.new.text ++ (shown s).part)) c.get-in-Ex.ensures c.add-in-Ex.ensures.value);
}

pub add_chain-loop-part-preserved : goal.add_chain-loop-part-preserved
add_chain-loop-part-preserved t c = record {
  text = separated_more (λ (s : Sent). (shown s).part) c.args.connective.now c.args.parts.now c.loop-part.part-index c.part-item.result c.loop-part.is_first (c.args.text.now ++ opening c.args.is_part)
      c.loop-part.text c.separate.new.text c.add.new.text
      c.loop-part-test.true c.part-item.is c.loop-part.invariant.text c.loop-part.invariant.first c.in_ok-separate.ensures.value c.in_ok-add.ensures.value;
  first = later c.loop-part.part-index;
}
