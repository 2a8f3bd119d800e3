-- Justified lines: what soundness needs of the tests.
use Rattle.std.specs.Prelude.{IsTrue, List, Contains, Option, Some, None, IfSome}
use Rattle.fol_core.specs.declared.sent.Sent.{Sent}
use Rattle.fol_core.specs.Statements.{statement}
use Rattle.deriv_laws.specs.declared.rule.Rule.{Rule}
use Rattle.deriv_laws.specs.declared.line.FlatLine.{FlatLine}
use Rattle.nested_proofs.specs.declared.kind.RuleKind.{RuleKind}
use Rattle.nested_proofs.specs.declared.kind.RuleKind.TheVariants as kind
use Rattle.nested_proofs.specs.Kinds.{kind_of}
use Rattle.nested_proofs.specs.Scope.{cited_sentences, cited_subproofs}
use Rattle.nested_proofs.specs.Placed.{Around, Placed}
use Rattle.nested_proofs.specs.Rules.{Follows, StaysArbitrary}
use Rattle.nested_proofs.specs.Fresh.{HasFreshBox}

-- What a consequence rule says of the cited sentences, in their order, and the line's own.
abbrev pub Consequence : Type 1
Consequence = Rule → List Sent → Sent → Type 0

-- The step follows by its rule from what its cites find, and the boxed constant stays arbitrary.
abbrev pub IsOwnStep : Around → FlatLine → Rule → Sent → Type 0
IsOwnStep a line rule s =
    Follows rule (cited_sentences a.scope line.cites) (cited_subproofs a.scope line.cites) s
    × StaysArbitrary rule (cited_sentences a.scope line.cites) (cited_subproofs a.scope line.cites) s

-- The line, with a rule of this kind and this sentence or none, is justified by what its cites find.
abbrev pub IsJustifiedAs : Consequence → List Sent → Around → FlatLine → RuleKind → Rule → Option Sent → Type 0
IsJustifiedAs con premises a line kind.Premise rule (Some s) = Contains premises s
IsJustifiedAs con premises a line kind.Premise rule None = ⊥
IsJustifiedAs con premises a line kind.Opening rule s = HasFreshBox premises a line.boxed
IsJustifiedAs con premises a line kind.Propositional rule (Some s) = IsOwnStep a line rule s
IsJustifiedAs con premises a line kind.Propositional rule None = ⊥
IsJustifiedAs con premises a line kind.Quantified rule (Some s) = IsOwnStep a line rule s
IsJustifiedAs con premises a line kind.Quantified rule None = ⊥
IsJustifiedAs con premises a line kind.Consequence rule (Some s) = con rule (cited_sentences a.scope line.cites) s
IsJustifiedAs con premises a line kind.Consequence rule None = ⊥

-- The line, with this rule and this sentence or none, is justified. This is less than that it fails no test: a cite that
-- finds nothing is passed over, and cites aren't counted.
abbrev pub IsJustifiedBy : Consequence → List Sent → Around → FlatLine → Rule → Option Sent → Type 0
IsJustifiedBy con premises a line rule s = IsJustifiedAs con premises a line (kind_of rule) rule s

-- The placed line is justified.
abbrev pub IsJustified : Consequence → List Sent → Placed → Type 0
IsJustified con premises x = IsJustifiedBy con premises x.around x.line x.line.rule x.line.sentence

-- The line's sentence, where it has one, is a statement.
abbrev pub HasStatement : Placed → Type 0
HasStatement x = IfSome x.line.sentence (λ s. IsTrue (statement s))
