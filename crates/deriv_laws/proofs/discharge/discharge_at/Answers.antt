use Rattle.std.proofs.Common.{ap, ap₂, map, replicate, sym, ◌∙◌}
use Rattle.deriv_laws.specs.Discharge.{discharged, under_not, before_if}
use Rattle.deriv_laws.specs.declared.rule.Rule.{Rule}
use Rattle.deriv_laws.specs.declared.tree.Tree.{out-Tree}
use Rattle.deriv_laws.specs.Trees.{concl}
use Rattle.deriv_laws.proofs.Discharging.{same_throughout}
use Rattle.deriv_laws.proofs.discharge.discharge_at.Goals as goal

pub returns-in-NotIntro : goal.returns-in-NotIntro
returns-in-NotIntro c =
    let x = out-Tree c.args.tree.now in
    record {
      value = ap₂ replicate c.len.ensures.value c.denied.ensures.value ∙ same_throughout (under_not x.sentence) x.parts
          ∙ ap (λ (rule : Rule). discharged rule x.boxed (map concl x.parts) x.sentence) (sym c.in-NotIntro.is);
    }

pub returns-in-IfIntro : goal.returns-in-IfIntro
returns-in-IfIntro c =
    let x = out-Tree c.args.tree.now in
    record {
      value = ap₂ replicate c.len-in-IfIntro.ensures.value c.antecedent.ensures.value ∙ same_throughout (before_if x.sentence) x.parts
          ∙ ap (λ (rule : Rule). discharged rule x.boxed (map concl x.parts) x.sentence) (sym c.in-IfIntro.is);
    }
