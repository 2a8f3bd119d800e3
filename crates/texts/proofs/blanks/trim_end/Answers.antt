use Rattle.std.proofs.Common.{◌∙◌, arith, rules}
use Rattle.texts.proofs.Trimming.{drops_blank, keeps_other}
use Rattle.texts.proofs.blanks.trim_end.Goals as goal

pub loop-rest-preserved : goal.loop-rest-preserved
loop-rest-preserved c = drops_blank c.loop-rest.rest.now (omega arith) (search rules) ∙ c.loop-rest.invariant

pub returns-then-not-is_blank : goal.returns-then-not-is_blank
returns-then-not-is_blank c = record { value = keeps_other c.loop-rest.rest.now (omega arith) (search rules) ∙ c.loop-rest.invariant }
