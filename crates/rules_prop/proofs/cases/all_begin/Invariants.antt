use Rattle.std.proofs.Common.{take}
use Rattle.std.specs.List.{AllByRecursion}
use Rattle.rules_prop.specs.inside.Ending.{SomeBegins}
use Rattle.rules_prop.proofs.cases.all_begin.Given as goal

abbrev pub invariant-loop-part : goal.invariant-loop-part
invariant-loop-part l = AllByRecursion (SomeBegins l.lines l.cites l.places.bits) (take l.part-index l.parts)
