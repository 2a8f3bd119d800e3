-- The cites that aren't subproofs are lines.
use Rattle.std.proofs.Common.{◌≡◌, ◌-◌, length, ap, sym, ◌∙◌, arith}
use Rattle.std.specs.Prelude.{◌&&◌}
use Rattle.nested_proofs.specs.CiteTests.{is_right, takes_lines, takes_subproofs, lines_cited, subproofs_cited}
use Rattle.nested_proofs.proofs.CiteFaults.{all_cited}
use Rattle.nested_proofs.proofs.cites.counts_fit.Goals as goal

pub overflow_sub-lines : goal.overflow_sub-lines
overflow_sub-lines c = omega (arith, all_cited c.args.cites.now, c.subproofs_cited-subproofs.ensures.value)

pub returns-then-is_right : goal.returns-then-is_right
returns-then-is_right c = record {
  value =
      let cs = c.args.cites.now in
      let n : length cs - c.subproofs_cited-subproofs.result ≡ lines_cited cs = omega (arith, all_cited cs, c.subproofs_cited-subproofs.ensures.value) in
      c.is_right-then-is_right.ensures.value
      ∙ ap (λ t. is_right t c.subproofs_cited-subproofs.result) c.takes_subproofs.ensures.value
      ∙ ap (is_right (takes_subproofs c.args.rule)) c.subproofs_cited-subproofs.ensures.value
      ∙ ap (λ b. b && is_right (takes_subproofs c.args.rule) (subproofs_cited cs))
      (sym c.if-is_right.true ∙ c.is_right.ensures.value ∙ ap (λ t. is_right t (length cs - c.subproofs_cited-subproofs.result)) c.takes_lines.ensures.value ∙ ap (is_right (takes_lines c.args.rule)) n);
}

pub returns-else-is_right : goal.returns-else-is_right
returns-else-is_right c = record {
  value =
      let cs = c.args.cites.now in
      let n : length cs - c.subproofs_cited-subproofs.result ≡ lines_cited cs = omega (arith, all_cited cs, c.subproofs_cited-subproofs.ensures.value) in
      c.if-is_right.false
      ∙ ap (λ b. b && is_right (takes_subproofs c.args.rule) (subproofs_cited cs))
      (sym c.if-is_right.false ∙ c.is_right.ensures.value ∙ ap (λ t. is_right t (length cs - c.subproofs_cited-subproofs.result)) c.takes_lines.ensures.value ∙ ap (is_right (takes_lines c.args.rule)) n);
}
