use Rattle.std.proofs.Common.{◌≡◌, take, map, length}
use Rattle.rules_quant.specs.Naming.{put_term, entries}
use Rattle.rules_quant.proofs.names.+put_terms.Given as goal

abbrev pub invariant-are_put_terms-loop-i : goal.invariant-are_put_terms-loop-i
invariant-are_put_terms-loop-i l = record { long : length l.ts ≡ length l.us; begun : take l.i l.us ≡ map (put_term (entries l.names)) (take l.i l.ts) }
