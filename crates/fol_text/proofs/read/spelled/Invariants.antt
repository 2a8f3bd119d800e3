use Rattle.std.proofs.Common.{take}
use Rattle.fol_text.specs.Tokens.{tokens_of}
use Rattle.fol_text.proofs.Stopping.{Leads}
use Rattle.fol_text.proofs.read.spelled.Given as goal

abbrev pub invariant-loop-placed : goal.invariant-loop-placed
invariant-loop-placed l = Leads (tokens_of (take l.placed-index l.tokens)) l.state
