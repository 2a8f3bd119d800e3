-- What cited lines and subproofs show, as they are read off the lines.
use Rattle.std.specs.Prelude.{◌≡◌, ◌⊎◌, Some, List, Contains}
use Rattle.std.specs.List.{AllByRecursion}
use Rattle.fol_core.specs.declared.sent.Sent.{Sent}
use Rattle.fol_core.specs.declared.sent.Sent.TheVariants.{And, Iff}
use Rattle.deriv_laws.specs.declared.rule.Rule.{Rule}
use Rattle.deriv_laws.specs.declared.line.Cite.{Cite}
use Rattle.deriv_laws.specs.declared.line.FlatLine.{FlatLine}
use Rattle.nested_proofs.specs.Scope.{Subproof}
use Rattle.nested_proofs.specs.Rules.{Goes, Follows}
use Rattle.nested_proofs.specs.ReadOff.{subproof_between, sentences_read, subproofs_read}

-- The cited subproof goes from the assumption p to the conclusion q.
abbrev pub GoesAt : List FlatLine → Cite → Sent → Sent → Type 0
GoesAt lines c p q = (b : Subproof) × (subproof_between lines c.first c.last ≡ Some b) × Goes b p q

-- One of these subproofs goes from the assumption p to the conclusion q.
abbrev pub SomeGoes : List Subproof → Sent → Sent → Type 0
SomeGoes bs p q = (b : Subproof) × Contains bs b × Goes b p q

-- The sentence is a biconditional, and one of the two cited subproofs goes from its first side to its second,
-- and the other from its second to its first.
abbrev pub GoBothWays : List FlatLine → Cite → Cite → Sent → Type 0
GoBothWays lines c d s = (p : Sent) × (q : Sent) × (s ≡ Iff p q) × ((GoesAt lines c p q × GoesAt lines d q p) ⊎ (GoesAt lines c q p × GoesAt lines d p q))

-- The sentence is one of these parts, or a conjunction of some of them.
abbrev pub IsDrawnFrom : List Sent → Sent → Type 0
IsDrawnFrom parts s = Contains parts s ⊎ ((some : List Sent) × (s ≡ And some) × AllByRecursion (λ q. Contains parts q) some)

-- The sentence follows by the rule from what the cites name.
abbrev pub FollowsFrom : List FlatLine → Rule → List Cite → Sent → Type 0
FollowsFrom lines rule cites s = Follows rule (sentences_read lines cites) (subproofs_read lines cites) s
