-- What the lines say of the constant is what stands around the line.
use Rattle.nested_proofs.proofs.Reading.{line_at}
use Rattle.nested_proofs.proofs.Silence.{fresh_test, no_box_to_test}
use Rattle.nested_proofs.proofs.fresh.fresh_at.Goals as goal

pub returns-in-None : goal.returns-in-None
returns-in-None c = record {
  exact = no_box_to_test c.args.premises.now c.args.proof.now c.args.i c.index-as_slice-count.result
      (line_at c.args.proof.now c.args.i c.index-as_slice-count.result c.requires.first c.requires.within (cc)) (cc);
}

pub returns-in-Some : goal.returns-in-Some
returns-in-Some c = record {
  exact = fresh_test c.args.premises.now c.args.proof.now c.args.i c.index-as_slice-count.result c.in-Some.c c.is_unsaid.result
      (line_at c.args.proof.now c.args.i c.index-as_slice-count.result c.requires.first c.requires.within (cc)) (cc) (cc);
}
