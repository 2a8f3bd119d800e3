use Rattle.std.proofs.Common.{◌≡◌, take, length, true}
use Rattle.fol_core.specs.Alike.{repl_term, all_pairs}
use Rattle.fol_core.proofs.replacement.+replaces_term.Given as goal

abbrev pub invariant-replaces_terms-loop-i : goal.invariant-replaces_terms-loop-i
invariant-replaces_terms-loop-i l = record { long : length l.a ≡ length l.b; begun : all_pairs (repl_term l.n l.m) (take l.i l.a) (take l.i l.b) ≡ true }
