-- The rules of this crate.
use Rattle.std.specs.Prelude.{Bool}
use Rattle.deriv_laws.specs.declared.rule.Rule.{Rule}
use Rattle.nested_proofs.specs.Kinds.{kind_of, is_propositional_kind}

-- The propositional rules: reiteration, and the rules of the connectives.
abbrev pub is_propositional : Rule → Bool
is_propositional rule = is_propositional_kind (kind_of rule)
