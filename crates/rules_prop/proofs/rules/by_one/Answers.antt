-- The one cited line is all that is cited.
use Rattle.std.proofs.Common.{◌≡◌, ◌∷◌, []}
use Rattle.nested_proofs.specs.ReadOff.{sentences_read, subproofs_read}
use Rattle.rules_prop.proofs.Counting.{one_line}
use Rattle.nested_proofs.proofs.ReadCites.{read_as}
use Rattle.nested_proofs.proofs.ReadCites.{no_subproofs}
use Rattle.rules_prop.proofs.rules.by_one.Goals as goal

pub returns-in-Some : goal.returns-in-Some
returns-in-Some c = record {
  exact =
      let ls = c.args.lines.now in
      let cs = c.args.cites.now in
      let p = c.in-Some.p.now in
      let only : sentences_read ls cs ≡ p ∷ [] = c.in-Some.ensures.read in
      read_as c.args.rule (sentences_read ls cs) (p ∷ []) (subproofs_read ls cs) [] c.args.s.now c.follows_from_one.result only (no_subproofs ls cs (one_line c.args.rule cs c.requires.rule c.requires.counts).1) c.follows_from_one.ensures.exact;
}
