-- How many alternatives a position can offer.
use Rattle.std.specs.Prelude.{ℕ, max, length}
use Rattle.fol_core.specs.Size.{greatest}
use Rattle.fol_core.specs.declared.sent.Sent.{Sent}
use Rattle.fol_core.specs.declared.sent.Sent.TheOpen.{Sent-F}
use Rattle.fol_core.specs.declared.sent.Sent.TheOpen as f
use Rattle.fol_core.specs.declared.sent.Sent.TheFolds.{fold-Sent}

-- One form of sentence: the number of its parts, or that of the widest sentence in it, whichever is greater. A conditional
-- becomes a sentence of two parts.
abbrev pub widest_step : Sent-F ℕ → ℕ
widest_step (f.Atom p ts) = 0
widest_step (f.Eq t u) = 0
widest_step f.Bottom = 0
widest_step (f.Not n) = n
widest_step (f.And ns) = max (length ns) (greatest ns)
widest_step (f.Or ns) = max (length ns) (greatest ns)
widest_step (f.If m n) = max 2 (max m n)
widest_step (f.Iff m n) = max 2 (max m n)
widest_step (f.All x n) = n
widest_step (f.Ex x n) = n

-- The greatest number of parts that a sentence in this one has, once its conditionals are rewritten.
abbrev pub widest : Sent → ℕ
widest = fold-Sent ℕ widest_step
