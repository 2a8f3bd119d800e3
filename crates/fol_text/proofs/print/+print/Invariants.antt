use Rattle.std.proofs.Common.{◌≡◌, ◌==◌, ◌++◌, take, map}
use Rattle.fol_text.specs.Printed.{shown, separated, opening}
use Rattle.fol_text.proofs.print.+print.Given as goal

abbrev pub invariant-add_chain-loop-part : goal.invariant-add_chain-loop-part
invariant-add_chain-loop-part l = record {
  text : l.text ≡ (l.fn.text ++ opening l.is_part) ++ separated l.connective (map (λ s. (shown s).part) (take l.part-index l.parts));
  first : l.is_first ≡ (l.part-index == 0);
}
