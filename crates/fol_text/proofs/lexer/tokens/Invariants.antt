use Rattle.std.proofs.Common.{length}
use Rattle.fol_text.proofs.Lexed.{Lexed}
use Rattle.fol_text.proofs.lexer.tokens.Given as goal

abbrev pub invariant-loop-rest : goal.invariant-loop-rest
invariant-loop-rest l = Lexed l.fn.text l.found l.rest

abbrev pub decreases-loop-rest : goal.decreases-loop-rest
decreases-loop-rest l = length l.rest
