-- The rules of this crate.
use Rattle.std.specs.Prelude.{Bool}
use Rattle.deriv_laws.specs.declared.rule.Rule.{Rule}
use Rattle.nested_proofs.specs.Kinds.{kind_of, is_quantified_kind}

-- The rules of identity and of the quantifiers.
abbrev pub is_quantified : Rule → Bool
is_quantified rule = is_quantified_kind (kind_of rule)
