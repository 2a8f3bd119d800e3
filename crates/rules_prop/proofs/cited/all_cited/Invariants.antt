use Rattle.std.proofs.Common.{take, Contains}
use Rattle.std.specs.List.{AllByRecursion}
use Rattle.nested_proofs.specs.ReadOff.{sentences_read}
use Rattle.rules_prop.proofs.cited.all_cited.Given as goal

abbrev pub invariant-loop-part : goal.invariant-loop-part
invariant-loop-part l = AllByRecursion (λ p. Contains (sentences_read l.lines l.cites) p) (take l.part-index l.parts)
