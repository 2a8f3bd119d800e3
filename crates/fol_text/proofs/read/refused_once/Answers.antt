use Rattle.fol_text.proofs.OneFault.{refused_once}
use Rattle.fol_text.proofs.Refused.{readable_not_refused}
use Rattle.fol_text.proofs.SomeAnswer.{has_answer}
use Rattle.fol_text.proofs.read.refused_once.Goals as goal

pub returns : goal.returns
returns c = record { some = has_answer; once = λ text f g a b. refused_once a g b; readable = λ text s f r d. readable_not_refused d s r }
