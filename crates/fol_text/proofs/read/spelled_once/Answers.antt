use Rattle.fol_text.proofs.Reading.{spells_once}
use Rattle.fol_text.proofs.read.spelled_once.Goals as goal

pub returns : goal.returns
returns c = record { once = spells_once }
