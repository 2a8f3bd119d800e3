-- The laws of sentences that texts of tasks and proofs rest on.
use Rattle.fol_text.proofs.Reading.{spells_once}
use Rattle.fol_text.proofs.OneFault.{refused_once}
use Rattle.fol_text.proofs.Refused.{readable_not_refused}
use Rattle.fitch_file.proofs.Once.{SentenceLaws}

pub sentence_laws : SentenceLaws
sentence_laws = record { spelled = spells_once; refused = λ text f g a b. refused_once a g b; apart = λ text s f r d. readable_not_refused d s r }
