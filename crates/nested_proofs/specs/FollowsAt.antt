-- Whether a placed line follows from what it cites.
use Rattle.std.specs.Prelude.{◌≡◌, Some}
use Rattle.fol_core.specs.declared.sent.Sent.{Sent}
use Rattle.nested_proofs.specs.Scope.{cited_sentences, cited_subproofs}
use Rattle.nested_proofs.specs.Placed.{Placed}
use Rattle.nested_proofs.specs.Rules.{Follows}

-- The line's sentence follows by its rule from what its cites find in scope.
abbrev pub FollowsAt : Placed → Type 0
FollowsAt x = (s : Sent) × (x.line.sentence ≡ Some s) × Follows x.line.rule (cited_sentences x.around.scope x.line.cites) (cited_subproofs x.around.scope x.line.cites) s
