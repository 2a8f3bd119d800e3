use Rattle.std.proofs.Common.{◌≡◌, true, take}
use Rattle.world_text.proofs.Wording.{no_blank}
use Rattle.world_text.proofs.line.split_word.Given as goal

abbrev pub invariant-loop-place : goal.invariant-loop-place
invariant-loop-place l = no_blank (take l.place l.text) ≡ true
