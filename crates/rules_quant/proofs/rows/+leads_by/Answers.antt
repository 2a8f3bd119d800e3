-- The ground term that is read off, or any where none is, finds the row if there is one.
use Rattle.std.proofs.Common.{◌∙◌, ap, sym, inl, inr, true≢false}
use Rattle.std.specs.Option.{option_copied}
use Rattle.fol_core.specs.declared.sent.Term.TheVariants.{Name}
use Rattle.fol_core.proofs.Instances.{name_ground}
use Rattle.rules_quant.specs.Naming.{entries}
use Rattle.rules_quant.proofs.Entries.{known_entries, named_entries}
use Rattle.rules_quant.proofs.Finding.{rows_next, not_ground}
use Rattle.rules_quant.proofs.rows.+leads_by.Goals as goal

pub returns-else-not-is_closed_term : goal.returns-else-not-is_closed_term
returns-else-not-is_closed_term t c = record {
  exact = rows_next c.args.quantifier c.args.count c.args.q.now c.args.t.now (entries c.args.names.now) c.in-Some.x.now c.in-Some.matrix.now c.in-Some-read_past.term.now c.leads_by.result
      c.requires.known_ground (sym c.is_closed_term.ensures.ground ∙ c.if-not-is_closed_term.false)
      c.if-count-eq0.false c.in-Some.ensures.value (inl (sym c.read_past.ensures.value ∙ ap option_copied c.in-Some-read_past.is)) (simp known_entries at c.leads_by.ensures.exact);
}

pub returns-then-not-is_closed_term : goal.returns-then-not-is_closed_term
returns-then-not-is_closed_term t c = record {
  exact = (
    λ h. absurd (true≢false (sym h)),
    λ r. absurd (not_ground c.args.quantifier c.args.count c.args.q.now c.args.t.now (entries c.args.names.now) c.in-Some.x.now c.in-Some.matrix.now c.in-Some-read_past.term.now
        c.requires.known_ground (sym c.is_closed_term.ensures.ground ∙ c.if-not-is_closed_term.true)
        c.if-count-eq0.false c.in-Some.ensures.value (sym c.read_past.ensures.value ∙ ap option_copied c.in-Some-read_past.is) r),
  );
}

pub returns-in-None : goal.returns-in-None
returns-in-None t c = record {
  exact = rows_next c.args.quantifier c.args.count c.args.q.now c.args.t.now (entries c.args.names.now) c.in-Some.x.now c.in-Some.matrix.now (Name c.in-Some.x.now) c.leads_by-in-None.result
      c.requires.known_ground (name_ground c.in-Some.x.now c.as_slice-spelled.ensures.form)
      c.if-count-eq0.false c.in-Some.ensures.value (inr (sym c.read_past.ensures.value ∙ ap option_copied c.in-None.is)) (simp named_entries at c.leads_by-in-None.ensures.exact);
}
