-- The tests of cites: their counts, and tests that agree.
use Rattle.std.proofs.Common.{◌≡◌, ℕ, suc, ◌+◌, ◌-◌, Bool, true, false, List, [], ◌∷◌, length, refl, ap, ◌∙◌, arith, cond, Some, None, filter}
use Rattle.std.specs.Prelude.{not, ◌&&◌, ◌||◌, slice_get}
use Rattle.std.specs.Option.{is_some}
use Rattle.std.specs.List.{AllByRecursion}
use Rattle.deriv_laws.specs.declared.rule.Rule.{Rule}
use Rattle.deriv_laws.specs.declared.line.Cite.{Cite}
use Rattle.deriv_laws.specs.declared.line.FlatLine.{FlatLine}
use Rattle.deriv_laws.specs.declared.line.StepFault.{StepFault}
use Rattle.deriv_laws.specs.declared.line.StepFault.TheVariants as fault
use Rattle.nested_proofs.specs.Placed.{Placed}
use Rattle.nested_proofs.specs.Scope.{sentence_at}
use Rattle.nested_proofs.specs.Limits.{IsCiteForm}
use Rattle.nested_proofs.specs.Visible.{sees, sees_box, visible_subproof}
use Rattle.nested_proofs.specs.CiteTests.{first_failing, is_taken, counts_fit, lines_cited, subproofs_cited, is_visible, names_box, is_boxed, box_fault, or_else, wants_box, is_inferred, step_cites_fault, fault_by, cites_fault}
use Rattle.nested_proofs.proofs.Reading.{Agrees}

-- a cite that isn't a subproof is a line
pub all_cited : (cs : List Cite) → lines_cited cs + subproofs_cited cs ≡ length cs
all_cited [] = refl
all_cited (c ∷ cs) = go c.sub (all_cited cs)
  where
    go : (b : Bool) → lines_cited cs + subproofs_cited cs ≡ length cs → length (cond (not b) (c ∷ filter (λ x. not x.sub) cs) (filter (λ x. not x.sub) cs)) + length (cond b (c ∷ filter (λ x. x.sub) cs) (filter (λ x. x.sub) cs)) ≡ suc (length cs)
    go true e = omega (arith, e)
    go false e = omega (arith, e)

-- tests that agree on the cites fail first at the same cite
failing_same : (f g : Cite → Bool) (at_cite : ℕ → StepFault) (k : ℕ) (cs : List Cite) → AllByRecursion (λ c. f c ≡ g c) cs → first_failing f at_cite k cs ≡ first_failing g at_cite k cs
failing_same f g at_cite k [] h = refl
failing_same f g at_cite k (c ∷ cs) h = ap (λ b. cond b (first_failing f at_cite (k + 1) cs) (Some (at_cite k))) h.0 ∙ ap (λ o. cond (g c) o (Some (at_cite k))) (failing_same f g at_cite (k + 1) cs h.1)

all_map : {X : Type 0} (P Q : X → Type 0) (f : (x : X) → P x → Q x) (xs : List X) → AllByRecursion P xs → AllByRecursion Q xs
all_map P Q f [] h = tt
all_map P Q f (x ∷ xs) h = (f x h.0, all_map P Q f xs h.1)

module _ (v w b d : Cite → Bool) (cs : List Cite) (same : AllByRecursion (λ c. v c ≡ w c) cs) (also : AllByRecursion (λ c. b c ≡ d c) cs) where
  box_same : (rule : Rule) → box_fault rule b cs ≡ box_fault rule d cs
  box_same rule = go (wants_box rule)
    where
      go : (x : Bool) → cond x (first_failing (λ c. not c.sub || b c) fault.BoxMissing 1 cs) (first_failing (λ c. not (b c)) fault.BoxUnwanted 1 cs) ≡ cond x (first_failing (λ c. not c.sub || d c) fault.BoxMissing 1 cs) (first_failing (λ c. not (d c)) fault.BoxUnwanted 1 cs)
      go true = failing_same (λ c. not c.sub || b c) (λ c. not c.sub || d c) fault.BoxMissing 1 cs (all_map (λ c. b c ≡ d c) (λ c. (not c.sub || b c) ≡ (not c.sub || d c)) (λ c e. ap (λ a. not c.sub || a) e) cs also)
      go false = failing_same (λ c. not (b c)) (λ c. not (d c)) fault.BoxUnwanted 1 cs (all_map (λ c. b c ≡ d c) (λ c. not (b c) ≡ not (d c)) (λ c e. ap not e) cs also)

  step_same : (rule : Rule) → step_cites_fault rule v b cs ≡ step_cites_fault rule w d cs
  step_same rule =
      ap (λ o. or_else (first_failing (is_taken rule) fault.WrongKind 1 cs) (or_else (cond (counts_fit rule cs) None (Some fault.CiteCount)) (or_else o (box_fault rule b cs)))) (failing_same v w fault.NotVisible 1 cs same)
      ∙ ap (λ o. or_else (first_failing (is_taken rule) fault.WrongKind 1 cs) (or_else (cond (counts_fit rule cs) None (Some fault.CiteCount)) (or_else (first_failing w fault.NotVisible 1 cs) o))) (box_same rule)

  -- with tests that agree on the cites the first fault is the same
  pub fault_same : (rule : Rule) → fault_by rule v b cs ≡ fault_by rule w d cs
  fault_same rule = ap (λ o. cond (is_inferred rule) o None) (step_same rule)

sees_same : (ls : List FlatLine) (j : ℕ) (x : Placed) → Agrees ls j x → (c : Cite) → IsCiteForm c → is_visible x.around.scope c ≡ sees ls j c
sees_same ls j x a c h = ap (λ o. cond c.sub (is_some o) (is_some (sentence_at c.first x.around.scope.sentences))) (a.subproofs c.first c.last h.from_one)
    ∙ ap (λ o. cond c.sub (is_some (visible_subproof ls c.first c.last j)) (is_some o)) (a.sentences c.first h.from_one)

box_seen_same : (ls : List FlatLine) (j : ℕ) (x : Placed) → Agrees ls j x → (c : Cite) → IsCiteForm c → names_box x.around.scope c ≡ sees_box ls j c
box_seen_same ls j x a c h = ap (λ o. c.sub && is_boxed o) (a.subproofs c.first c.last h.from_one)

-- the first fault of the cites of a line, by what is visible by the levels
pub fault_at : (ls : List FlatLine) (j : ℕ) (x : Placed) (l : FlatLine) → slice_get ls (j - 1) ≡ Some l → AllByRecursion IsCiteForm l.cites → Agrees ls j x →
    cites_fault x.line.rule x.around.scope x.line.cites ≡ fault_by l.rule (sees ls j) (sees_box ls j) l.cites
fault_at ls j x l e h a =
    let q : x.line ≡ l = cc in
    ap (λ (y : FlatLine). cites_fault y.rule x.around.scope y.cites) q
    ∙ fault_same (is_visible x.around.scope) (sees ls j) (names_box x.around.scope) (sees_box ls j) l.cites
    (all_map IsCiteForm (λ c. is_visible x.around.scope c ≡ sees ls j c) (sees_same ls j x a) l.cites h)
    (all_map IsCiteForm (λ c. names_box x.around.scope c ≡ sees_box ls j c) (box_seen_same ls j x a) l.cites h) l.rule
