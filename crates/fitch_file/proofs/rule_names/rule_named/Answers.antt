use Rattle.std.proofs.Common.{Option, Some, None, MatchOption}
use Rattle.std.specs.List.{AllByRecursion}
use Rattle.deriv_laws.specs.declared.rule.Rule.{Rule}
use Rattle.fitch_file.specs.Readers.{Finds}
use Rattle.fitch_file.specs.RuleNames.{IsRuleName}
use Rattle.fitch_file.proofs.Naming.{table, each_in_table}
use Rattle.fitch_file.proofs.rule_names.rule_named.Goals as goal

found : (P : Rule → Type 0) (o : Option Rule) → MatchOption o (AllByRecursion (λ rule. P rule → ⊥) table) P → Finds P o
found P (Some rule) h = h
found P None h = each_in_table (λ rule. P rule → ⊥) h

pub returns : goal.returns
returns c = found (IsRuleName c.args.text.now) c.first_named.result c.first_named.ensures
