use Rattle.std.proofs.Common.{◌≡◌, take}
use Rattle.std.specs.List.{fold}
use Rattle.taut_con.specs.inside.Digests.{mix}
use Rattle.taut_con.proofs.digest.word_digest.Given as goal

abbrev pub invariant-loop-byte : goal.invariant-loop-byte
invariant-loop-byte l = l.mixed ≡ fold mix 14695981039346656037 (take l.byte-index l.bytes)
