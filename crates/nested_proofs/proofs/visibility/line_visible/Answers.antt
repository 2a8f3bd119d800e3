-- What is visible by the levels is what is in scope.
use Rattle.std.proofs.Common.{◌≡◌, ap, sym, ◌∙◌}
use Rattle.std.specs.Option.{is_some}
use Rattle.nested_proofs.specs.Scope.{sentence_at}
use Rattle.nested_proofs.proofs.Reading.{where_agrees}
use Rattle.nested_proofs.proofs.visibility.line_visible.Goals as goal

pub returns : goal.returns
returns c = record {
  in_scope = where_agrees c.args.proof.now c.args.j (λ x. c.sees_line.result ≡ is_some (sentence_at c.args.i x.around.scope.sentences))
      (λ x a. c.sees_line.ensures.value ∙ ap is_some (sym (a.sentences c.args.i c.requires.first)));
}
