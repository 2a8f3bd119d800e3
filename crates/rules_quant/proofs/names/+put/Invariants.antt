use Rattle.std.proofs.Common.{◌≡◌, take, map, length}
use Rattle.rules_quant.specs.Naming.{put, entries}
use Rattle.rules_quant.proofs.names.+put.Given as goal

abbrev pub invariant-are_put-loop-i : goal.invariant-are_put-loop-i
invariant-are_put-loop-i l = record { long : length l.qs ≡ length l.ts; begun : take l.i l.ts ≡ map (λ q. put q (entries l.names)) (take l.i l.qs) }
