use Rattle.std.proofs.Common.{◌≡◌, take, length, true}
use Rattle.fol_core.specs.Alike.{repl, all_pairs}
use Rattle.fol_core.proofs.replacement.+replaces.Given as goal

abbrev pub invariant-replaces_all-loop-i : goal.invariant-replaces_all-loop-i
invariant-replaces_all-loop-i l = record { long : length l.a ≡ length l.b; begun : all_pairs (repl l.n l.m) (take l.i l.a) (take l.i l.b) ≡ true }
