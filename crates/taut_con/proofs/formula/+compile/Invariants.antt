use Rattle.std.proofs.Common.{take}
use Rattle.taut_con.specs.Compiled.{StandForEach}
use Rattle.taut_con.proofs.formula.+compile.Given as goal

abbrev pub invariant-compile_all-loop-s : goal.invariant-compile_all-loop-s
invariant-compile_all-loop-s l = StandForEach l.letters (take l.s-index l.sentences) l.formulas
