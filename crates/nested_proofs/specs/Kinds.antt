-- The kinds of rules.
use Rattle.std.specs.Prelude.{Bool, true, false}
use Rattle.deriv_laws.specs.declared.rule.Rule.{Rule}
use Rattle.deriv_laws.specs.declared.rule.Rule.TheVariants as r
use Rattle.nested_proofs.specs.declared.kind.RuleKind.{RuleKind}
use Rattle.nested_proofs.specs.declared.kind.RuleKind.TheVariants.{Premise, Opening, Propositional, Quantified, Consequence}

-- The kind of each rule: premises; the openings of subproofs, by an assumption or by a boxed constant alone; reiteration
-- and the rules of the connectives; the rules of identity and of the quantifiers; the consequence rules.
abbrev pub kind_of : Rule → RuleKind
kind_of r.Premise = Premise
kind_of r.Assume = Opening
kind_of r.BoxOnly = Opening
kind_of r.Reit = Propositional
kind_of r.AndIntro = Propositional
kind_of r.AndElim = Propositional
kind_of r.OrIntro = Propositional
kind_of r.OrElim = Propositional
kind_of r.NotIntro = Propositional
kind_of r.NotElim = Propositional
kind_of r.BotIntro = Propositional
kind_of r.BotElim = Propositional
kind_of r.IfIntro = Propositional
kind_of r.IfElim = Propositional
kind_of r.IffIntro = Propositional
kind_of r.IffElim = Propositional
kind_of r.EqIntro = Quantified
kind_of r.EqElim = Quantified
kind_of r.AllIntro = Quantified
kind_of r.AllElim = Quantified
kind_of r.ExIntro = Quantified
kind_of r.ExElim = Quantified
kind_of r.TautCon = Consequence
kind_of r.FoCon = Consequence
kind_of r.AnaCon = Consequence

-- A line with a rule of this kind opens a subproof.
abbrev pub opens_subproof : RuleKind → Bool
opens_subproof Premise = false
opens_subproof Opening = true
opens_subproof Propositional = false
opens_subproof Quantified = false
opens_subproof Consequence = false

-- A line with a rule of this kind is inferred: it is no premise, and it opens no subproof.
abbrev pub infers : RuleKind → Bool
infers Premise = false
infers Opening = false
infers Propositional = true
infers Quantified = true
infers Consequence = true

-- The rule is one of the system itself, and not a consequence rule.
abbrev pub is_own_kind : RuleKind → Bool
is_own_kind Premise = true
is_own_kind Opening = true
is_own_kind Propositional = true
is_own_kind Quantified = true
is_own_kind Consequence = false

-- The kind of reiteration and the rules of the connectives.
abbrev pub is_propositional_kind : RuleKind → Bool
is_propositional_kind Premise = false
is_propositional_kind Opening = false
is_propositional_kind Propositional = true
is_propositional_kind Quantified = false
is_propositional_kind Consequence = false

-- The kind of the rules of identity and of the quantifiers.
abbrev pub is_quantified_kind : RuleKind → Bool
is_quantified_kind Premise = false
is_quantified_kind Opening = false
is_quantified_kind Propositional = false
is_quantified_kind Quantified = true
is_quantified_kind Consequence = false
