use Rattle.std.proofs.Common.{take, Contains}
use Rattle.std.specs.List.{AllByRecursion}
use Rattle.rules_prop.proofs.from_lines.all_among.Given as goal

abbrev pub invariant-loop-part : goal.invariant-loop-part
invariant-loop-part l = AllByRecursion (λ p. Contains l.parts p) (take l.part-index l.some)
