use Rattle.taut_con.proofs.Sound.{yes_derivable}
use Rattle.taut_con.proofs.laws.tautology_laws.Goals as goal

pub returns : goal.returns
returns c = record { derivable = yes_derivable }
