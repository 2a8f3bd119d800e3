-- How many lines and subproofs the rules cite.
use Rattle.std.proofs.Common.{◌≡◌, ℕ, ◌+◌, ◌<◌, Bool, true, false, List, [], ◌∷◌, length, get_or, refl, sym, subst, arith, IsTrue, ◌↔◌}
use Rattle.std.specs.Prelude.{◌&&◌, ◌==◌, nat_le}
use Rattle.std.proofs.lemmas.Bool.{eqb-true}
use Rattle.fol_core.specs.declared.sent.Sent.{Sent}
use Rattle.deriv_laws.specs.declared.rule.Rule.{Rule}
use Rattle.deriv_laws.specs.declared.rule.Rule.TheVariants as r
use Rattle.deriv_laws.specs.declared.line.Cite.{Cite}
use Rattle.nested_proofs.specs.Scope.{Subproof}
use Rattle.nested_proofs.specs.Rules.{Follows}
use Rattle.nested_proofs.specs.CiteTests.{lines_cited, subproofs_cited, counts_fit, is_inferred}
use Rattle.nested_proofs.proofs.CiteCounts.{both, exactly}
use Rattle.rules_prop.specs.inside.Premises.{is_from_one, is_from_two}
use Rattle.rules_prop.specs.Propositional.{is_propositional}

-- a rule from one line cites one line and no subproof
pub one_line : (rule : Rule) (cs : List Cite) → is_from_one rule ≡ true → counts_fit rule cs ≡ true → (lines_cited cs ≡ 1) × (subproofs_cited cs ≡ 0)
one_line r.Reit cs e h = exactly (lines_cited cs) (subproofs_cited cs) 1 0 h
one_line r.AndElim cs e h = exactly (lines_cited cs) (subproofs_cited cs) 1 0 h
one_line r.OrIntro cs e h = exactly (lines_cited cs) (subproofs_cited cs) 1 0 h
one_line r.NotElim cs e h = exactly (lines_cited cs) (subproofs_cited cs) 1 0 h
one_line r.BotElim cs e h = exactly (lines_cited cs) (subproofs_cited cs) 1 0 h
one_line rule cs e h = cc

-- a rule from two lines cites two lines and no subproof
pub two_lines : (rule : Rule) (cs : List Cite) → is_from_two rule ≡ true → counts_fit rule cs ≡ true → (lines_cited cs ≡ 2) × (subproofs_cited cs ≡ 0)
two_lines r.BotIntro cs e h = exactly (lines_cited cs) (subproofs_cited cs) 2 0 h
two_lines r.IfElim cs e h = exactly (lines_cited cs) (subproofs_cited cs) 2 0 h
two_lines r.IffElim cs e h = exactly (lines_cited cs) (subproofs_cited cs) 2 0 h
two_lines rule cs e h = cc

-- conjunction introduction cites no subproof
pub no_subproof : (cs : List Cite) → counts_fit r.AndIntro cs ≡ true → subproofs_cited cs ≡ 0
no_subproof cs h = eqb-true (subproofs_cited cs) 0 (both (nat_le 1 (lines_cited cs)) (subproofs_cited cs == 0) h).1

-- disjunction elimination cites one line
pub one_disjunction : (cs : List Cite) → counts_fit r.OrElim cs ≡ true → lines_cited cs ≡ 1
one_disjunction cs h = eqb-true (lines_cited cs) 1 (both (lines_cited cs == 1) (nat_le 1 (subproofs_cited cs)) h).0

-- negation introduction and conditional introduction cite one subproof and no line
pub one_reduction : (cs : List Cite) → counts_fit r.NotIntro cs ≡ true → (lines_cited cs ≡ 0) × (subproofs_cited cs ≡ 1)
one_reduction cs h = exactly (lines_cited cs) (subproofs_cited cs) 0 1 h

pub one_conditional : (cs : List Cite) → counts_fit r.IfIntro cs ≡ true → (lines_cited cs ≡ 0) × (subproofs_cited cs ≡ 1)
one_conditional cs h = exactly (lines_cited cs) (subproofs_cited cs) 0 1 h

-- biconditional introduction cites two subproofs and no line
pub two_ways : (cs : List Cite) → counts_fit r.IffIntro cs ≡ true → (lines_cited cs ≡ 0) × (subproofs_cited cs ≡ 2)
two_ways cs h = exactly (lines_cited cs) (subproofs_cited cs) 0 2 h

-- a rule from two lines gives nothing from fewer
pub few : (rule : Rule) (ps : List Sent) (s : Sent) → is_from_two rule ≡ true → length ps < 2 → Follows rule ps [] s → ⊥
few r.BotIntro [] s e h f = f
few r.BotIntro (p ∷ []) s e h f = f
few r.BotIntro (p ∷ q ∷ ps) s e h f = omega (arith, h)
few r.IfElim [] s e h f = f
few r.IfElim (p ∷ []) s e h f = f
few r.IfElim (p ∷ q ∷ ps) s e h f = omega (arith, h)
few r.IffElim [] s e h f = f
few r.IffElim (p ∷ []) s e h f = f
few r.IffElim (p ∷ q ∷ ps) s e h f = omega (arith, h)
few rule ps s e h f = cc

-- the propositional rules are rules of inferred lines
pub inferred : (rule : Rule) → is_propositional rule ≡ true → is_inferred rule ≡ true
inferred r.Premise e = cc
inferred r.Assume e = cc
inferred r.BoxOnly e = cc
inferred rule e = refl
