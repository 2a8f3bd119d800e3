use Rattle.std.proofs.Common.{take}
use Rattle.std.specs.List.{AllByRecursion}
use Rattle.fitch_file.specs.RuleNames.{IsRuleName}
use Rattle.fitch_file.proofs.rule_names.first_named.Given as goal

abbrev pub invariant-loop-rule : goal.invariant-loop-rule
invariant-loop-rule l = AllByRecursion (λ rule. IsRuleName l.text rule → ⊥) (take l.rule-index l.rules)
