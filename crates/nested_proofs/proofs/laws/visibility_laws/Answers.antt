use Rattle.nested_proofs.proofs.VisibleSentences.{visible_is_in_scope}
use Rattle.nested_proofs.proofs.VisibleSubproofs.{visible_subproof_is_in_scope}
use Rattle.nested_proofs.proofs.BoxLevels.{boxes_by_levels}
use Rattle.nested_proofs.proofs.laws.visibility_laws.Goals as goal

pub returns : goal.returns
returns c = record { sentences = visible_is_in_scope; subproofs = visible_subproof_is_in_scope; boxes = boxes_by_levels }
