use Rattle.std.proofs.Common.{◌≡◌, ◌++◌, ◌∷◌, [], ◌∙◌, rules, ap, inl, inr}
use Rattle.fitch_file.proofs.Going.{no_line}
use Rattle.fitch_file.proofs.Forming.{line_is_shaped, line_cites_in_form}
use Rattle.fitch_file.proofs.Lining.{blank_is_no_line}
use Rattle.fitch_file.proofs.proof_text.put_line.Goals as goal

pub returns-then-is_blank-clause-only : goal.returns-then-is_blank-clause-only
returns-then-is_blank-clause-only c = λ l h. absurd (blank_is_no_line c.args.lines.now c.args.text.now l (c.is_blank.ensures.0 (search rules)) h)

pub returns-in_err-line-clause-not_line : goal.returns-in_err-line-clause-not_line
returns-in_err-line-clause-not_line c = no_line c.args.lines.now c.args.text.now c.read_line.result c.in_err-line.field-0.0 c.from_residual.result c.in_err-line.was c.from_residual.ensures.1 c.read_line.ensures.exact

pub push-requires-clause-shape : goal.push-requires-clause-shape
push-requires-clause-shape c = line_is_shaped c.args.lines.now c.args.text.now c.in_ok-line.line c.in_ok-line.ensures.read

pub push-requires-clause-cites : goal.push-requires-clause-cites
push-requires-clause-cites c = line_cites_in_form c.args.lines.now c.args.text.now c.in_ok-line.line c.in_ok-line.ensures.read

pub returns-clause-only : goal.returns-clause-only
returns-clause-only c = λ l h.
    elim (c.in_ok-line.ensures.exact l h) [
      | inl e ↦ let same : c.in_ok-line.line ≡ l = cc in c.in_ok-push.ensures.ok ∙ ap (λ x. c.args.lines.now ++ x ∷ []) same
      | inr e ↦ absurd (cc)
    ]
