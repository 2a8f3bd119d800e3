use Rattle.fitch_file.proofs.Once.{SentenceLaws, proof_once, first_fault_once, proof_not_faulty}
use Rattle.fitch_file.proofs.laws.proof_text_laws.Goals as goal

pub returns : goal.returns
returns c =
    let laws : SentenceLaws = record { spelled = c.spelled_once.ensures.once; refused = c.refused_once.ensures.once; apart = c.refused_once.ensures.readable } in
    record {
      proof_once = proof_once laws;
      line_once = λ text n m f g h k. (first_fault_once laws h m g k).number;
      fault_once = λ text n m f g h k. (first_fault_once laws h m g k).is;
      not_both = λ text ls n f h k. proof_not_faulty laws k ls h;
    }
