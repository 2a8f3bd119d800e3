-- The rule of the line at the index is the placed line's.
use Rattle.std.proofs.Common.{◌≡◌, true, subst, ◌≤◌, length, sym}
use Rattle.rules_prop.specs.Propositional.{is_propositional}
use Rattle.nested_proofs.proofs.Reading.{at_rule}
use Rattle.proof_rows.proofs.rules.follows_by_connectives.Goals as goal

pub check_prop-requires-clause-rule : goal.check_prop-requires-clause-rule
check_prop-requires-clause-rule c =
    at_rule c.as_slice-lines.result.now c.args.j c.index-lines-j.result (λ rule. is_propositional rule ≡ true) c.requires.first
    (subst (λ ls. c.args.j ≤ length ls) (sym c.as_slice-lines.ensures.value) c.requires.within) c.index-lines-j.is (let e : is_propositional c.index-lines-j.result.rule ≡ true = cc in e)
