use Rattle.std.proofs.Common.{◌≡◌, ◌++◌, take}
use Rattle.std.specs.List.{filter}
use Rattle.worlds.specs.Geometry.{bears}
use Rattle.world_text.specs.Printed.{with_commas, is_nothing}
use Rattle.world_text.proofs.print.add_letters.Given as goal

abbrev pub invariant-loop-letter : goal.invariant-loop-letter
invariant-loop-letter l = record {
  text : l.text ≡ l.fn.text ++ with_commas (filter (bears l.names) (take l.letter-index l.letters));
  first : l.is_first ≡ is_nothing (filter (bears l.names) (take l.letter-index l.letters));
}
