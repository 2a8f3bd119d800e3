use Rattle.std.proofs.Common.{[]}
use Rattle.nested_proofs.specs.Soundness.{none_allowed, without_consequence, no_answer}
use Rattle.nested_proofs.proofs.Soundness.{each_line_is_derived, last_line_is_derived, faultless_proof_shows}
use Rattle.nested_proofs.proofs.OneFailure.{one_first_failure}
use Rattle.nested_proofs.proofs.laws.soundness_laws.Goals as goal

pub returns : goal.returns
returns c = record {
  each_line = each_line_is_derived none_allowed [];
  last_line = last_line_is_derived none_allowed [];
  faultless = faultless_proof_shows without_consequence no_answer [];
  one_failure = one_first_failure without_consequence no_answer;
}
