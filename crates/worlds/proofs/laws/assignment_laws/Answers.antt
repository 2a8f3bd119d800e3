use Rattle.worlds.proofs.Assigning.{term_within, put_keeps, own_within}
use Rattle.worlds.proofs.laws.assignment_laws.Goals as goal

pub returns : goal.returns
returns c = record { terms = term_within; put = put_keeps; own_names = own_within }
