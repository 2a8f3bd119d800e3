-- How long a game can become.
use Rattle.std.specs.Prelude.{ℕ, ◌+◌, max}
use Rattle.fol_core.specs.Size.{greatest}
use Rattle.fol_core.specs.declared.sent.Sent.{Sent}
use Rattle.fol_core.specs.declared.sent.Sent.TheOpen.{Sent-F}
use Rattle.fol_core.specs.declared.sent.Sent.TheOpen as f
use Rattle.fol_core.specs.declared.sent.Sent.TheFolds.{fold-Sent}

-- The weight of a conditional from the weights of its two sides: it is rewritten, then one side is chosen, of which the
-- first is denied.
abbrev pub if_weight : ℕ → ℕ → ℕ
if_weight m n = 2 + max (1 + m) n

-- One form of sentence: a move for itself, and the weight of its heaviest part.
abbrev pub weight_step : Sent-F ℕ → ℕ
weight_step (f.Atom p ts) = 0
weight_step (f.Eq t u) = 0
weight_step f.Bottom = 0
weight_step (f.Not n) = 1 + n
weight_step (f.And ns) = 1 + greatest ns
weight_step (f.Or ns) = 1 + greatest ns
weight_step (f.If m n) = if_weight m n
weight_step (f.Iff m n) = 2 + max (if_weight m n) (if_weight n m)
weight_step (f.All x n) = 1 + n
weight_step (f.Ex x n) = 1 + n

-- The weight of a sentence: no game that begins with it has more moves.
abbrev pub weight : Sent → ℕ
weight = fold-Sent ℕ weight_step
