use Rattle.std.proofs.lemmas.Result.{IfOk-weaker}
use Rattle.fol_text.proofs.Taken.{behind_term}
use Rattle.fol_text.proofs.atomic.atomic.Goals as goal

pub returns : goal.returns
returns c = record {
  read = IfOk-weaker c.equation.result _ _ (λ r part. behind_term c.args.room c.args.text.now c.in_ok-symbol.behind.now c.in_ok-left.rest.now r.1.now c.in_ok-symbol.symbol c.in_ok-left.left r.0
      c.in_ok-symbol.ensures.read c.in_ok-left.ensures.read part) c.equation.ensures.read;
}
