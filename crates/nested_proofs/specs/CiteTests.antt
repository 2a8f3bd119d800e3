-- The tests of a line's cites: their kinds, their numbers, that they are in scope, and boxes.
use Rattle.std.specs.Prelude.{ℕ, ◌+◌, ◌==◌, nat_le, Bool, true, false, not, ◌&&◌, ◌||◌, if◌then◌else◌, List, [], ◌∷◌, filter, length, Option, Some, None, ◌≡◌, Result, MatchResult}
use Rattle.std.specs.Option.{is_some}
use Rattle.deriv_laws.specs.declared.rule.Rule.{Rule}
use Rattle.deriv_laws.specs.declared.rule.Rule.TheVariants as r
use Rattle.deriv_laws.specs.declared.line.Cite.{Cite}
use Rattle.deriv_laws.specs.declared.line.StepFault.{StepFault}
use Rattle.deriv_laws.specs.declared.line.StepFault.TheVariants as fault
use Rattle.nested_proofs.specs.declared.count.Count.{Count}
use Rattle.nested_proofs.specs.declared.count.Count.TheVariants.{Exactly, AtLeast}
use Rattle.nested_proofs.specs.Kinds.{kind_of, infers}
use Rattle.nested_proofs.specs.Scope.{Subproof, Scope, sentence_at, subproof_at}
use Rattle.nested_proofs.specs.Placed.{Placed}

-- The rule takes some cites of the kind.
abbrev pub takes_some : Count → Bool
takes_some (Exactly n) = not (n == 0)
takes_some (AtLeast n) = true

-- So many cites are as many as the rule takes.
abbrev pub is_right : Count → ℕ → Bool
is_right (Exactly n) k = k == n
is_right (AtLeast n) k = nat_le n k

-- How many lines a rule cites. Premises and openings cite none.
abbrev pub takes_lines : Rule → Count
takes_lines r.Premise = Exactly 0
takes_lines r.Assume = Exactly 0
takes_lines r.BoxOnly = Exactly 0
takes_lines r.Reit = Exactly 1
takes_lines r.AndIntro = AtLeast 1
takes_lines r.AndElim = Exactly 1
takes_lines r.OrIntro = Exactly 1
takes_lines r.OrElim = Exactly 1
takes_lines r.NotIntro = Exactly 0
takes_lines r.NotElim = Exactly 1
takes_lines r.BotIntro = Exactly 2
takes_lines r.BotElim = Exactly 1
takes_lines r.IfIntro = Exactly 0
takes_lines r.IfElim = Exactly 2
takes_lines r.IffIntro = Exactly 0
takes_lines r.IffElim = Exactly 2
takes_lines r.EqIntro = Exactly 0
takes_lines r.EqElim = Exactly 2
takes_lines r.AllIntro = Exactly 0
takes_lines r.AllElim = Exactly 1
takes_lines r.ExIntro = Exactly 1
takes_lines r.ExElim = Exactly 1
takes_lines r.TautCon = AtLeast 0
takes_lines r.FoCon = AtLeast 0
takes_lines r.AnaCon = AtLeast 0

-- How many subproofs a rule cites.
abbrev pub takes_subproofs : Rule → Count
takes_subproofs r.Premise = Exactly 0
takes_subproofs r.Assume = Exactly 0
takes_subproofs r.BoxOnly = Exactly 0
takes_subproofs r.Reit = Exactly 0
takes_subproofs r.AndIntro = Exactly 0
takes_subproofs r.AndElim = Exactly 0
takes_subproofs r.OrIntro = Exactly 0
takes_subproofs r.OrElim = AtLeast 1
takes_subproofs r.NotIntro = Exactly 1
takes_subproofs r.NotElim = Exactly 0
takes_subproofs r.BotIntro = Exactly 0
takes_subproofs r.BotElim = Exactly 0
takes_subproofs r.IfIntro = Exactly 1
takes_subproofs r.IfElim = Exactly 0
takes_subproofs r.IffIntro = Exactly 2
takes_subproofs r.IffElim = Exactly 0
takes_subproofs r.EqIntro = Exactly 0
takes_subproofs r.EqElim = Exactly 0
takes_subproofs r.AllIntro = Exactly 1
takes_subproofs r.AllElim = Exactly 0
takes_subproofs r.ExIntro = Exactly 0
takes_subproofs r.ExElim = Exactly 1
takes_subproofs r.TautCon = Exactly 0
takes_subproofs r.FoCon = Exactly 0
takes_subproofs r.AnaCon = Exactly 0

-- The rule's subproof boxes a constant.
abbrev pub wants_box : Rule → Bool
wants_box r.Premise = false
wants_box r.Assume = false
wants_box r.BoxOnly = false
wants_box r.Reit = false
wants_box r.AndIntro = false
wants_box r.AndElim = false
wants_box r.OrIntro = false
wants_box r.OrElim = false
wants_box r.NotIntro = false
wants_box r.NotElim = false
wants_box r.BotIntro = false
wants_box r.BotElim = false
wants_box r.IfIntro = false
wants_box r.IfElim = false
wants_box r.IffIntro = false
wants_box r.IffElim = false
wants_box r.EqIntro = false
wants_box r.EqElim = false
wants_box r.AllIntro = true
wants_box r.AllElim = false
wants_box r.ExIntro = false
wants_box r.ExElim = true
wants_box r.TautCon = false
wants_box r.FoCon = false
wants_box r.AnaCon = false

-- The fault at the first of the cites that fails the test; cites are counted from k.
abbrev pub first_failing : (Cite → Bool) → (ℕ → StepFault) → ℕ → List Cite → Option StepFault
first_failing test at_cite k [] = None
first_failing test at_cite k (c ∷ cs) = if test c then first_failing test at_cite (k + 1) cs else Some (at_cite k)

-- The first fault, or else the later one.
abbrev pub or_else : Option StepFault → Option StepFault → Option StepFault
or_else None later = later
or_else (Some f) later = Some f

-- The rule takes some cites of this cite's kind.
abbrev pub is_taken : Rule → Cite → Bool
is_taken rule c = if c.sub then takes_some (takes_subproofs rule) else takes_some (takes_lines rule)

-- How many of the cites are lines.
abbrev pub lines_cited : List Cite → ℕ
lines_cited cs = length (filter (λ c. not c.sub) cs)

-- How many of the cites are subproofs.
abbrev pub subproofs_cited : List Cite → ℕ
subproofs_cited cs = length (filter (λ c. c.sub) cs)

-- The rule takes so many lines and so many subproofs.
abbrev pub counts_fit : Rule → List Cite → Bool
counts_fit rule cs = is_right (takes_lines rule) (lines_cited cs) && is_right (takes_subproofs rule) (subproofs_cited cs)

-- What the cite names is in scope.
abbrev pub is_visible : Scope → Cite → Bool
is_visible sc c = if c.sub then is_some (subproof_at c.first c.last sc.subproofs) else is_some (sentence_at c.first sc.sentences)

-- The subproof, where there is one, boxes a constant.
abbrev pub is_boxed : Option Subproof → Bool
is_boxed None = false
is_boxed (Some b) = is_some b.boxed

-- The cite is a subproof in scope that boxes a constant.
abbrev pub names_box : Scope → Cite → Bool
names_box sc c = c.sub && is_boxed (subproof_at c.first c.last sc.subproofs)

-- The fault of boxes: at the first cited subproof without one where the rule wants a box, and at the first
-- with one where it wants none. The test says whether a cite is a subproof that boxes a constant.
abbrev pub box_fault : Rule → (Cite → Bool) → List Cite → Option StepFault
box_fault rule boxes cs =
    if wants_box rule then first_failing (λ c. not c.sub || boxes c) fault.BoxMissing 1 cs
    else first_failing (λ c. not (boxes c)) fault.BoxUnwanted 1 cs

-- The first fault of the cites of a step: a cite of a kind that the rule takes none of; else wrong
-- numbers of lines or subproofs; else a cite that isn't in scope; else a fault of boxes. The two tests
-- say whether what a cite names is in scope, and whether it is a subproof that boxes a constant.
abbrev pub step_cites_fault : Rule → (Cite → Bool) → (Cite → Bool) → List Cite → Option StepFault
step_cites_fault rule visible boxes cs =
    or_else (first_failing (is_taken rule) fault.WrongKind 1 cs)
    (or_else (if counts_fit rule cs then None else Some fault.CiteCount)
    (or_else (first_failing visible fault.NotVisible 1 cs)
    (box_fault rule boxes cs)))

-- A line with this rule is inferred: it is no premise, and it opens no subproof.
abbrev pub is_inferred : Rule → Bool
is_inferred rule = infers (kind_of rule)

-- The same for any line: only the cites of an inferred line are tested.
abbrev pub fault_by : Rule → (Cite → Bool) → (Cite → Bool) → List Cite → Option StepFault
fault_by rule visible boxes cs = if is_inferred rule then step_cites_fault rule visible boxes cs else None

-- The first fault of a line's cites.
abbrev pub cites_fault : Rule → Scope → List Cite → Option StepFault
cites_fault rule sc cs = fault_by rule (is_visible sc) (names_box sc) cs

-- The first fault of the cites of a placed line.
abbrev pub cites_fault_at : Placed → Option StepFault
cites_fault_at x = cites_fault x.line.rule x.around.scope x.line.cites

-- The result is Ok where there is no fault, and the fault itself as an error where there is one.
abbrev pub IsVerdict : Option StepFault → Result (Unit {0}) StepFault → Type 0
IsVerdict fault result = MatchResult result (λ _. fault ≡ None) (λ e. fault ≡ Some e)
