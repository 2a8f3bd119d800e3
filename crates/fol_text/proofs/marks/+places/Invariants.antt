use Rattle.std.proofs.Common.{◌≡◌, take, true}
use Rattle.std.specs.List.{list_all}
use Rattle.fol_core.specs.Blocks.{has_places}
use Rattle.fol_text.proofs.marks.+places.Given as goal

abbrev pub invariant-have_places-loop-part : goal.invariant-have_places-loop-part
invariant-have_places-loop-part l = list_all has_places (take l.part-index l.parts) ≡ true
