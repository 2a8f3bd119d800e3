use Rattle.nested_proofs.proofs.OneProof.{a_proof, well_nested, one_proof}
use Rattle.nested_proofs.proofs.Reading.{lines_are_placed}
use Rattle.nested_proofs.proofs.laws.nesting_laws.Goals as goal

pub returns : goal.returns
returns c = record { a_proof = a_proof; well_nested = well_nested; one_proof = one_proof; placed = lines_are_placed }
