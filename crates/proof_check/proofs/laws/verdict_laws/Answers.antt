use Rattle.proof_check.proofs.Soundness.{verdict_shows}
use Rattle.proof_check.proofs.OneVerdict.{verdict_once}
use Rattle.proof_check.proofs.laws.verdict_laws.Goals as goal

pub returns : goal.returns
returns c = record { sound = verdict_shows; once = verdict_once }
