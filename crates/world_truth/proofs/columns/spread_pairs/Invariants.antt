use Rattle.std.specs.Prelude.{◌+◌, ◌&&◌, nat_lt, length}
use Rattle.worlds.specs.inside.Extensions.{IsExtension}
use Rattle.world_truth.specs.inside.Digits.{digit_of}
use Rattle.world_truth.specs.inside.Relations.{relates}
use Rattle.world_truth.proofs.columns.spread_pairs.Given as goal

abbrev pub invariant-loop-place : goal.invariant-loop-place
invariant-loop-place l =
    IsExtension l.columns (λ c. nat_lt (digit_of (length l.world) l.second c) l.place && relates l.world l.relation (digit_of (length l.world) l.first c + 1) (digit_of (length l.world) l.second c + 1)) l.pairs.bits
