-- What is visible by the levels is what is in scope.
use Rattle.std.proofs.Common.{◌≡◌, ap, sym, ◌∙◌}
use Rattle.std.specs.Option.{is_some}
use Rattle.nested_proofs.specs.Scope.{subproof_at}
use Rattle.nested_proofs.proofs.Reading.{where_agrees}
use Rattle.nested_proofs.proofs.visibility.sub_visible.Goals as goal

pub returns : goal.returns
returns c = record {
  in_scope = where_agrees c.args.proof.now c.args.j (λ x. c.sees_subproof.result ≡ is_some (subproof_at c.args.n c.args.m x.around.scope.subproofs))
      (λ x a. c.sees_subproof.ensures.value ∙ ap is_some (sym (a.subproofs c.args.n c.args.m c.requires.first)));
}
