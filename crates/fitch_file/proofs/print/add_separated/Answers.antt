use Rattle.std.proofs.Common.{[], ◌∷◌, get_or, false}
use Rattle.std.proofs.lemmas.List.{get_or_default}
use Rattle.deriv_laws.specs.declared.line.Cite.{Cite}
use Rattle.fitch_file.specs.PrintedProof.{cite_text}
use Rattle.fol_text.proofs.PrintLaws.{separated_more, later}
use Rattle.fitch_file.proofs.print.add_separated.Goals as goal

pub loop-cite-preserved : goal.loop-cite-preserved
loop-cite-preserved c =
    let cite : Cite = get_or c.args.cites.now c.loop-cite.cite-index (record { first = 0; last = 0; sub = false }) in
    record {
      text = separated_more cite_text (44 ∷ 32 ∷ []) c.args.cites.now c.loop-cite.cite-index cite c.loop-cite.is_first c.args.text.now c.loop-cite.text c.separate.new.text c.add_cite.new.text
          c.loop-cite-test.true (get_or_default c.args.cites.now c.loop-cite.cite-index _ _ c.loop-cite-test.true) c.loop-cite.invariant.text c.loop-cite.invariant.first c.in_ok-separate.ensures c.in_ok-add_cite.ensures;
      first = later c.loop-cite.cite-index;
    }
