use Rattle.std.proofs.Common.{ap, ap₂, sym, ◌∙◌, arith}
use Rattle.fol_core.specs.declared.sent.Term.{Term, out-Term}
use Rattle.fol_core.specs.Naming.{found_in, first_term, args_of}
use Rattle.fol_core.proofs.Terms.{out_var, out_name}
use Rattle.fol_core.proofs.Naming.{terms_end, found_app, found_none}
use Rattle.fol_core.proofs.instance.+found.Goals as goal

pub instance_term_in_terms-returns : goal.instance_term_in_terms-returns
instance_term_in_terms-returns t c = record { value = sym (c.loop-i.invariant ∙ terms_end (found_in c.args.x.now c.args.free) c.args.ts.now c.args.us.now c.loop-i.i (omega arith)) }

pub instance_term_in_term-returns-in-App-u : goal.instance_term_in_term-returns-in-App-u
instance_term_in_term-returns-in-App-u t c =
    let x = c.args.x.now in let free = c.args.free in
    record {
      value = c.instance_term_in_terms.ensures.value ∙ ap₂ (first_term (found_in x free)) c.as_slice.ensures.value c.as_slice-in-App-u.ensures.value
          ∙ sym (found_app x free c.in-App.field-0 c.in-App-u.field-0 c.in-App.ts c.in-App-u.us)
          ∙ ap₂ (λ (a b : Term). found_in x free a b) (sym c.in-App.is) (sym c.in-App-u.is);
    }

pub instance_term_in_term-returns-in-Var-u : goal.instance_term_in_term-returns-in-Var-u
instance_term_in_term-returns-in-Var-u t c =
    let x = c.args.x.now in let free = c.args.free in
    record {
      value = sym (ap (λ (a : Term). found_in x free a c.args.u.now) c.in-App.is
          ∙ found_none x free c.in-App.field-0 c.in-App.ts c.args.u.now (ap (λ (w : Term). args_of (out-Term w)) c.in-Var-u.is ∙ ap args_of (out_var c.in-Var-u.field-0)));
    }

pub instance_term_in_term-returns-in-Name-u : goal.instance_term_in_term-returns-in-Name-u
instance_term_in_term-returns-in-Name-u t c =
    let x = c.args.x.now in let free = c.args.free in
    record {
      value = sym (ap (λ (a : Term). found_in x free a c.args.u.now) c.in-App.is
          ∙ found_none x free c.in-App.field-0 c.in-App.ts c.args.u.now (ap (λ (w : Term). args_of (out-Term w)) c.in-Name-u.is ∙ ap args_of (out_name c.in-Name-u.field-0)));
    }
