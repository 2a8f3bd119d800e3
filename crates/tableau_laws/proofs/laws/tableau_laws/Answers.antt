use Rattle.tableau_laws.proofs.Unique.{orderly_unique}
use Rattle.tableau_laws.proofs.Answering.{one_answer}
use Rattle.tableau_laws.proofs.Fresh.{some_fresh}
use Rattle.tableau_laws.proofs.TermsOn.{terms_ground}
use Rattle.tableau_laws.proofs.Published.{closed, closed_with_axioms}
use Rattle.tableau_laws.proofs.laws.tableau_laws.Goals as goal

pub returns : goal.returns
returns c = record {
  unique = orderly_unique;
  one_answer = one_answer;
  closed = closed;
  closed_with_axioms = closed_with_axioms;
  fresh_name = some_fresh;
  ground_terms = terms_ground;
}
