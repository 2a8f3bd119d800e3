use Rattle.tableau_laws.proofs.Published.{single, equation, witnesses, several, universal}
use Rattle.tableau_laws.proofs.laws.class_laws.Goals as goal

pub returns : goal.returns
returns c = record { single = single; equation = equation; witnesses = witnesses; several = several; universal = universal }
