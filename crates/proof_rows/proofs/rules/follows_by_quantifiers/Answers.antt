-- The rule of the line at the index is the placed line's.
use Rattle.std.proofs.Common.{◌≡◌, true, subst, ◌≤◌, length, sym}
use Rattle.nested_proofs.proofs.Reading.{at_rule}
use Rattle.rules_quant.specs.Quantified.{is_quantified}
use Rattle.proof_rows.proofs.rules.follows_by_quantifiers.Goals as goal

pub check_quant-requires-clause-rule : goal.check_quant-requires-clause-rule
check_quant-requires-clause-rule c =
    at_rule c.as_slice-lines.result.now c.args.j c.index-lines-j.result (λ rule. is_quantified rule ≡ true) c.requires.first
    (subst (λ ls. c.args.j ≤ length ls) (sym c.as_slice-lines.ensures.value) c.requires.within) c.index-lines-j.is (let e : is_quantified c.index-lines-j.result.rule ≡ true = cc in e)
