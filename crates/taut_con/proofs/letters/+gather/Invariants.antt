use Rattle.std.proofs.Common.{◌≡◌, take}
use Rattle.std.specs.List.{flat_map}
use Rattle.taut_con.specs.Letters.{letter_occurrences}
use Rattle.taut_con.specs.Gathered.{with_each}
use Rattle.taut_con.proofs.letters.+gather.Given as goal

abbrev pub invariant-gather_all-loop-s : goal.invariant-gather_all-loop-s
invariant-gather_all-loop-s l = l.all ≡ with_each l.fn.found (flat_map letter_occurrences (take l.s-index l.sentences))
