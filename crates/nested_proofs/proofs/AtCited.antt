-- What a line whose cites pass their tests has in its scope.
use Rattle.std.proofs.Common.{◌≡◌, ℕ, ◌+◌, ◌-◌, ◌<◌, ◌≤◌, Bool, true, false, List, [], ◌∷◌, length, map, refl, sym, ap, subst, ◌∙◌, arith, cond, Option, Some, None, inl, inr, ◌⊎◌}
use Rattle.std.specs.Prelude.{slice_get}
use Rattle.std.specs.List.{AllByRecursion}
use Rattle.deriv_laws.specs.declared.line.Cite.{Cite}
use Rattle.deriv_laws.specs.declared.line.FlatLine.{FlatLine}
use Rattle.deriv_laws.specs.declared.line.StepFault.{StepFault}
use Rattle.deriv_laws.specs.declared.line.StepFault.TheVariants as fault
use Rattle.nested_proofs.specs.Items.{Items, flatten, AreProper}
use Rattle.nested_proofs.specs.Placed.{Placed, lines_of, outside}
use Rattle.nested_proofs.specs.Scope.{cited_sentences, cited_subproofs}
use Rattle.nested_proofs.specs.Nesting.{HasPremisesOutside}
use Rattle.nested_proofs.specs.Limits.{AreLines, IsCiteForm, IsLineForm}
use Rattle.nested_proofs.specs.AtLine.{AtLine}
use Rattle.nested_proofs.specs.Visible.{sees, sees_box}
use Rattle.nested_proofs.specs.CiteTests.{first_failing, is_taken, counts_fit, or_else, is_inferred, box_fault, step_cites_fault, fault_by, cites_fault}
use Rattle.nested_proofs.specs.ReadOff.{IsWithin, sentences_read, subproofs_read}
use Rattle.nested_proofs.proofs.OneProof.{a_proof}
use Rattle.nested_proofs.proofs.VisibleSentences.{numbers, placed_numbers, both_turn}
use Rattle.nested_proofs.proofs.Reading.{Agrees, agrees, at_each}
use Rattle.nested_proofs.proofs.CiteFaults.{fault_at}
use Rattle.nested_proofs.proofs.AsRead.{within_of_seen, sentences_as_read, subproofs_as_read}

pick : (j k : ℕ) (Q : Placed → Type 0) (xs : List Placed) (ls : List FlatLine) → map (λ (x : Placed). x.number) xs ≡ numbers k ls → AllByRecursion (λ (x : Placed). x.number ≡ j → Q x) xs → k ≤ j → j < k + length ls → (x : Placed) × Q x
unfolding numbers
pick j k Q xs [] e h a b = absurd (omega (arith, a, b))
pick j k Q [] (l ∷ ls) e h a b = cc
pick j k Q (x ∷ xs) (l ∷ ls) e h a b = go (meets k j a) (λ q. pick j (k + 1) Q xs ls (let es : map (λ (y : Placed). y.number) xs ≡ numbers (k + 1) ls = cc in es) h.1 q (omega (arith, b)))
  where
    meets : (k j : ℕ) → k ≤ j → (k ≡ j) ⊎ (k + 1 ≤ j)
    meets k j a = grind arith

    go : ((k ≡ j) ⊎ (k + 1 ≤ j)) → (k + 1 ≤ j → (y : Placed) × Q y) → (y : Placed) × Q y
    go (inl q) later = (x, h.0 (let n : x.number ≡ k = cc in n ∙ q))
    go (inr q) later = later q

-- each line of the proof is placed, and has the properties that hold there
pub line_placed : (ls : List FlatLine) (j : ℕ) (P : Placed → Type 0) → AreLines ls → 0 < j → j ≤ length ls → AtLine ls j P → (x : Placed) × Agrees ls j x × P x
line_placed ls j P w a b h = go (a_proof ls w.well_nested)
  where
    go : ((p : Items) × AreProper p × HasPremisesOutside 1 p × (ls ≡ flatten 1 p)) → (x : Placed) × Agrees ls j x × P x
    go y = flat (pick j 1 (λ x. Agrees ls j x × P x) (lines_of y.0) ls (placed_numbers y.0 outside 1 1 ∙ ap (numbers 1) (sym y.3))
        (both_turn (λ (x : Placed). x.number ≡ j → Agrees ls j x) (λ (x : Placed). x.number ≡ j → P x) (λ (x : Placed). x.number ≡ j → Agrees ls j x × P x) (λ x u v n. (u n, v n)) (lines_of y.0) (agrees ls j y.0 y.1 y.3) (h y.0 y.1 y.3)) a (omega (arith, b)))
      where
        flat : ((x : Placed) × (Agrees ls j x × P x)) → (x : Placed) × Agrees ls j x × P x
        flat z = (z.0, z.1.0, z.1.1)

none_fails : (t : Cite → Bool) (f : ℕ → StepFault) (k : ℕ) (cs : List Cite) → first_failing t f k cs ≡ None → AllByRecursion (λ c. t c ≡ true) cs
none_fails t f k [] e = tt
none_fails t f k (c ∷ cs) e = go (t c) refl e (λ h. none_fails t f (k + 1) cs h)
  where
    go : (b : Bool) → t c ≡ b → cond b (first_failing t f (k + 1) cs) (Some (f k)) ≡ None → (first_failing t f (k + 1) cs ≡ None → AllByRecursion (λ c. t c ≡ true) cs) → AllByRecursion (λ c. t c ≡ true) (c ∷ cs)
    go true q h later = (q, later h)
    go false q h later = cc

first_none : (o p : Option StepFault) → or_else o p ≡ None → o ≡ None
first_none None p e = refl
first_none (Some x) p e = cc

second_none : (o p : Option StepFault) → or_else o p ≡ None → p ≡ None
second_none None p e = e
second_none (Some x) p e = cc

right : (b : Bool) → cond b None (Some fault.CiteCount) ≡ None → b ≡ true
right true e = refl
right false e = cc

-- the cites of line j pass their tests: their numbers fit the rule, and each is visible
pub record HasCites (ls : List FlatLine) (j : ℕ) (l : FlatLine) : Type 0 where
  pub found : slice_get ls (j - 1) ≡ Some l
  pub counts : counts_fit l.rule l.cites ≡ true
  pub within : AllByRecursion (IsWithin (length ls)) l.cites
  pub seen : AllByRecursion (λ c. sees ls j c ≡ true) l.cites

-- cites without a fault have passed their tests
pub cites_passed : (ls : List FlatLine) (j : ℕ) (x : Placed) (l : FlatLine) → AreLines ls → j ≤ length ls → slice_get ls (j - 1) ≡ Some l → is_inferred l.rule ≡ true → Agrees ls j x →
    cites_fault x.line.rule x.around.scope x.line.cites ≡ None → HasCites ls j l
cites_passed ls j x l w b e i a h =
    let forms : AllByRecursion IsCiteForm l.cites = (at_each IsLineForm ls (j - 1) l w.forms e).cites.forms in
    let whole : fault_by l.rule (sees ls j) (sees_box ls j) l.cites ≡ None = sym (fault_at ls j x l e forms a) ∙ h in
    let step : step_cites_fault l.rule (sees ls j) (sees_box ls j) l.cites ≡ None = subst (λ y. cond y (step_cites_fault l.rule (sees ls j) (sees_box ls j) l.cites) None ≡ None) i whole in
    let after_kinds = second_none (first_failing (is_taken l.rule) fault.WrongKind 1 l.cites) (or_else (cond (counts_fit l.rule l.cites) None (Some fault.CiteCount)) (or_else (first_failing (sees ls j) fault.NotVisible 1 l.cites) (box_fault l.rule (sees_box ls j) l.cites))) step in
    let after_counts = second_none (cond (counts_fit l.rule l.cites) None (Some fault.CiteCount)) (or_else (first_failing (sees ls j) fault.NotVisible 1 l.cites) (box_fault l.rule (sees_box ls j) l.cites)) after_kinds in
    let seen : AllByRecursion (λ c. sees ls j c ≡ true) l.cites = none_fails (sees ls j) fault.NotVisible 1 l.cites (first_none (first_failing (sees ls j) fault.NotVisible 1 l.cites) (box_fault l.rule (sees_box ls j) l.cites) after_counts) in
    record {
      found = e;
      counts = right (counts_fit l.rule l.cites) (first_none (cond (counts_fit l.rule l.cites) None (Some fault.CiteCount)) (or_else (first_failing (sees ls j) fault.NotVisible 1 l.cites) (box_fault l.rule (sees_box ls j) l.cites)) after_kinds);
      within = all_within l.cites forms seen;
      seen = seen;
    }
  where
    all_within : (cs : List Cite) → AllByRecursion IsCiteForm cs → AllByRecursion (λ c. sees ls j c ≡ true) cs → AllByRecursion (IsWithin (length ls)) cs
    all_within [] f s = tt
    all_within (c ∷ cs) f s = (within_of_seen ls j c b f.0 s.0, all_within cs f.1 s.1)

-- what the line's cites find is what is read off the lines
pub record FindsAsRead (ls : List FlatLine) (l : FlatLine) (x : Placed) : Type 0 where
  pub same_line : x.line ≡ l
  pub sentences : cited_sentences x.around.scope x.line.cites ≡ sentences_read ls l.cites
  pub subproofs : cited_subproofs x.around.scope x.line.cites ≡ subproofs_read ls l.cites

pub finds_as_read : (ls : List FlatLine) (j : ℕ) (x : Placed) (l : FlatLine) → AreLines ls → j ≤ length ls → HasCites ls j l → Agrees ls j x → FindsAsRead ls l x
finds_as_read ls j x l w b h a =
    let q : x.line ≡ l = (let e : Some x.line ≡ Some l = sym a.line ∙ h.found in cc) in
    let forms : AllByRecursion IsCiteForm l.cites = (at_each IsLineForm ls (j - 1) l w.forms h.found).cites.forms in
    record {
      same_line = q;
      sentences = ap (λ (y : FlatLine). cited_sentences x.around.scope y.cites) q ∙ sentences_as_read ls j b x a l.cites forms h.seen;
      subproofs = ap (λ (y : FlatLine). cited_subproofs x.around.scope y.cites) q ∙ subproofs_as_read ls j b x a l.cites forms h.seen;
    }
