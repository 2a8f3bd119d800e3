-- How much work the value of a sentence is, in a world of so many blocks.
use Rattle.std.specs.Prelude.{ℕ, ◌+◌, ◌*◌}
use Rattle.fol_core.specs.Size.{total}
use Rattle.fol_core.specs.declared.sent.Sent.{Sent}
use Rattle.fol_core.specs.declared.sent.Sent.TheOpen.{Sent-F}
use Rattle.fol_core.specs.declared.sent.Sent.TheOpen as f
use Rattle.fol_core.specs.declared.sent.Sent.TheFolds.{fold-Sent}

-- One form of sentence: one unit for itself and the work of its parts, once for each block at a quantifier.
abbrev pub units_step : ℕ → Sent-F ℕ → ℕ
units_step count (f.Atom p ts) = 1
units_step count (f.Eq s t) = 1
units_step count f.Bottom = 1
units_step count (f.Not n) = 1 + n
units_step count (f.And ns) = 1 + total ns
units_step count (f.Or ns) = 1 + total ns
units_step count (f.If m n) = 1 + m + n
units_step count (f.Iff m n) = 1 + m + n
units_step count (f.All x n) = 1 + count * n
units_step count (f.Ex x n) = 1 + count * n

-- The units of work of a sentence in a world of so many blocks.
abbrev pub units : ℕ → Sent → ℕ
units count = fold-Sent ℕ (units_step count)
