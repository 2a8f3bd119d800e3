use Rattle.fol_text.proofs.Wellformed.{readable_formed, readable_stated}
use Rattle.fol_text.proofs.read.readable_sentences.Goals as goal

pub returns : goal.returns
returns c = record { formed = readable_formed; statement = readable_stated }
