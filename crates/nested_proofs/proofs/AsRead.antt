-- What visible cites find in scope is what is read off the lines.
use Rattle.std.proofs.Common.{◌≡◌, ℕ, zero, suc, ◌+◌, ◌-◌, ◌<◌, ◌≤◌, Bool, true, false, List, [], ◌∷◌, length, take, drop, refl, sym, ap, ◌∙◌, arith, cond, Option, Some, None}
use Rattle.std.specs.Prelude.{nat_le, nat_lt, ◌&&◌, ◌==◌, slice_get}
use Rattle.std.specs.Option.{is_some}
use Rattle.std.specs.List.{AllByRecursion}
use Rattle.std.proofs.lemmas.Bool.{ltb-true, eqb-true}
use Rattle.deriv_laws.specs.declared.line.Cite.{Cite}
use Rattle.deriv_laws.specs.declared.line.FlatLine.{FlatLine}
use Rattle.nested_proofs.specs.Items.{opens}
use Rattle.nested_proofs.specs.Scope.{Subproof, prepend, sentence_at, subproof_at, cited_sentences, cited_subproofs}
use Rattle.nested_proofs.specs.Placed.{Placed}
use Rattle.nested_proofs.specs.Levels.{level, Mark, body_of, subproof_of, last_at}
use Rattle.nested_proofs.specs.Limits.{IsCiteForm}
use Rattle.nested_proofs.specs.Visible.{stays, sentence_over, closed_by, subproof_over, visible_sentence, visible_subproof, sees}
use Rattle.nested_proofs.specs.ReadOff.{IsWithin, stated_by, stated_at, begun_by, subproof_between, sentences_read, subproofs_read}
use Rattle.nested_proofs.proofs.Reading.{Agrees}

-- the lines from index k on begin with the line at k
head_at : (k : ℕ) (ls : List FlatLine) → k < length ls → (l : FlatLine) × (slice_get ls k ≡ Some l) × (drop k ls ≡ l ∷ drop (suc k) ls)
head_at k [] h = absurd (omega (arith, h))
head_at zero (x ∷ ls) h = (x, refl, refl)
head_at (suc k) (x ∷ ls) h = head_at k ls (omega (arith, h))

there : {X : Type 0} (b : Bool) (o : Option X) → is_some (cond b o None) ≡ true → cond b o None ≡ o
there true o e = refl
there false o e = cc

there_true : {X : Type 0} (b : Bool) (o : Option X) → is_some (cond b o None) ≡ true → b ≡ true
there_true true o e = refl
there_true false o e = cc

-- a line that is visible at j stands before j, and the sentence that is visible is the line's own
pub sentence_as_read : (ls : List FlatLine) (i j : ℕ) → 0 < i → j ≤ length ls → is_some (visible_sentence ls i j) ≡ true → (i < j) × (visible_sentence ls i j ≡ stated_at ls i)
sentence_as_read ls i j h w e = go (head_at (i - 1) ls (omega (arith, h, w, before)))
  where
    before : i < j
    before = ltb-true i j (there_true (nat_lt i j) (sentence_over (drop (i - 1) ls) (j - i)) e)

    go : ((l : FlatLine) × (slice_get ls (i - 1) ≡ Some l) × (drop (i - 1) ls ≡ l ∷ drop (suc (i - 1)) ls)) → (i < j) × (visible_sentence ls i j ≡ stated_at ls i)
    go x =
        let l : FlatLine = x.0 in
        let rest : List FlatLine = drop (suc (i - 1)) ls in
        let over : visible_sentence ls i j ≡ sentence_over (drop (i - 1) ls) (j - i) = there (nat_lt i j) (sentence_over (drop (i - 1) ls) (j - i)) e in
        let whole : visible_sentence ls i j ≡ cond (stays l.depth (take (j - i) rest)) l.sentence None = over ∙ ap (λ xs. sentence_over xs (j - i)) x.2 in
        (before, whole ∙ there (stays l.depth (take (j - i) rest)) l.sentence (ap is_some (sym whole) ∙ e) ∙ sym (ap stated_by x.1))

body_is_front : (d : ℕ) (ls : List FlatLine) → body_of d ls ≡ take (length (body_of d ls)) ls
body_is_front d [] = refl
body_is_front d (l ∷ ls) = go (nat_le d (level l)) (body_is_front d ls)
  where
    go : (b : Bool) → body_of d ls ≡ take (length (body_of d ls)) ls → cond b (l ∷ body_of d ls) [] ≡ take (length (cond b (l ∷ body_of d ls) [])) (l ∷ ls)
    go true e = ap (λ xs. l ∷ xs) e
    go false e = refl

-- a subproof that is visible at j ends before j, and is the one between its lines
pub subproof_as_read : (ls : List FlatLine) (n m j : ℕ) → 0 < n → j ≤ length ls → is_some (visible_subproof ls n m j) ≡ true → (n ≤ m) × (m < j) × (visible_subproof ls n m j ≡ subproof_between ls n m)
subproof_as_read ls n m j h w e = go (head_at (n - 1) ls (omega (arith, h, w, before)))
  where
    before : n < j
    before = ltb-true n j (there_true (nat_lt n j) (subproof_over n m j (drop (n - 1) ls)) e)

    both : (a b : Bool) → (a && b) ≡ true → b ≡ true
    both true b q = q
    both false b q = cc

    go : ((l : FlatLine) × (slice_get ls (n - 1) ≡ Some l) × (drop (n - 1) ls ≡ l ∷ drop (suc (n - 1)) ls)) → (n ≤ m) × (m < j) × (visible_subproof ls n m j ≡ subproof_between ls n m)
    go x =
        let l : FlatLine = x.0 in
        let rest : List FlatLine = drop n ls in
        let mark : Mark = record { number = n; line = l; later = rest } in
        let inner : List FlatLine = body_of l.depth rest in
        let s : suc (n - 1) ≡ n = omega (arith, h) in
        let over : visible_subproof ls n m j ≡ subproof_over n m j (drop (n - 1) ls) = there (nat_lt n j) (subproof_over n m j (drop (n - 1) ls)) e in
        let over_two : visible_subproof ls n m j ≡ cond (stays (level l) (take (j - n) rest)) (closed_by m j mark) None = over ∙ ap (subproof_over n m j) (x.2 ∙ ap (λ k. l ∷ drop k ls) s) in
        let over_three : visible_subproof ls n m j ≡ closed_by m j mark = over_two ∙ there (stays (level l) (take (j - n) rest)) (closed_by m j mark) (ap is_some (sym over_two) ∙ e) in
        let closed : is_some (closed_by m j mark) ≡ true = ap is_some (sym over_three) ∙ e in
        let ends : n + length inner < j = ltb-true (n + length inner) j (both (opens l.rule) (nat_lt (n + length inner) j) (there_true (opens l.rule && nat_lt (n + length inner) j) (cond (n + length inner == m) (Some (subproof_of mark)) None) closed)) in
        let over_four : visible_subproof ls n m j ≡ cond (n + length inner == m) (Some (subproof_of mark)) None = over_three ∙ there (opens l.rule && nat_lt (n + length inner) j) (cond (n + length inner == m) (Some (subproof_of mark)) None) closed in
        let there_four : is_some (cond (n + length inner == m) (Some (subproof_of mark)) None) ≡ true = ap is_some (sym over_four) ∙ e in
        let at_m : n + length inner ≡ m = eqb-true (n + length inner) m (there_true (n + length inner == m) (Some (subproof_of mark)) there_four) in
        let front : inner ≡ take (m - n) rest = body_is_front l.depth rest ∙ ap (λ k. take k rest) (let q : length inner ≡ m - n = omega (arith, at_m) in q) in (
          omega (arith, at_m),
          omega (arith, at_m, ends),
          over_four ∙ there (n + length inner == m) (Some (subproof_of mark)) there_four
              ∙ ap (λ k. Some (let b : Subproof = record { first = n; last = k; boxed = l.boxed; hypothesis = l.sentence; conclusion = last_at l.depth l.sentence inner } in b)) at_m
              ∙ ap (λ xs. Some (let b : Subproof = record { first = n; last = m; boxed = l.boxed; hypothesis = l.sentence; conclusion = last_at l.depth l.sentence xs } in b)) front
              ∙ sym (ap (begun_by ls n m) x.1),
        )

-- a visible cite is within the lines
pub within_of_seen : (ls : List FlatLine) (j : ℕ) (c : Cite) → j ≤ length ls → IsCiteForm c → sees ls j c ≡ true → IsWithin (length ls) c
within_of_seen ls j c w f e = go c.sub refl e
  where
    go : (b : Bool) → c.sub ≡ b → cond b (is_some (visible_subproof ls c.first c.last j)) (is_some (visible_sentence ls c.first j)) ≡ true → IsWithin (length ls) c
    go true q h = record { from_one = f.from_one; in_order = f.in_order; to_last = omega (arith, w, (subproof_as_read ls c.first c.last j f.from_one w h).1) }
    go false q h = record { from_one = f.from_one; in_order = f.in_order; to_last = omega (arith, w, f.one_number q, (sentence_as_read ls c.first j f.from_one w h).0) }

module _ (ls : List FlatLine) (j : ℕ) (w : j ≤ length ls) (x : Placed) (a : Agrees ls j x) where
  -- the cited sentences are those of the cited lines
  pub sentences_as_read : (cs : List Cite) → AllByRecursion IsCiteForm cs → AllByRecursion (λ c. sees ls j c ≡ true) cs → cited_sentences x.around.scope cs ≡ sentences_read ls cs
  sentences_as_read [] f e = refl
  sentences_as_read (c ∷ cs) f e = go c.sub e.0 (sentences_as_read cs f.1 e.1)
    where
      go : (b : Bool) → cond b (is_some (visible_subproof ls c.first c.last j)) (is_some (visible_sentence ls c.first j)) ≡ true → cited_sentences x.around.scope cs ≡ sentences_read ls cs →
          cond b (cited_sentences x.around.scope cs) (prepend (sentence_at c.first x.around.scope.sentences) (cited_sentences x.around.scope cs)) ≡ cond b (sentences_read ls cs) (prepend (stated_at ls c.first) (sentences_read ls cs))
      go true h i = i
      go false h i = ap (λ o. prepend o (cited_sentences x.around.scope cs)) (a.sentences c.first f.0.from_one ∙ (sentence_as_read ls c.first j f.0.from_one w h).1) ∙ ap (prepend (stated_at ls c.first)) i

  -- the cited subproofs are those between their lines
  pub subproofs_as_read : (cs : List Cite) → AllByRecursion IsCiteForm cs → AllByRecursion (λ c. sees ls j c ≡ true) cs → cited_subproofs x.around.scope cs ≡ subproofs_read ls cs
  subproofs_as_read [] f e = refl
  subproofs_as_read (c ∷ cs) f e = go c.sub e.0 (subproofs_as_read cs f.1 e.1)
    where
      go : (b : Bool) → cond b (is_some (visible_subproof ls c.first c.last j)) (is_some (visible_sentence ls c.first j)) ≡ true → cited_subproofs x.around.scope cs ≡ subproofs_read ls cs →
          cond b (prepend (subproof_at c.first c.last x.around.scope.subproofs) (cited_subproofs x.around.scope cs)) (cited_subproofs x.around.scope cs) ≡ cond b (prepend (subproof_between ls c.first c.last) (subproofs_read ls cs)) (subproofs_read ls cs)
      go true h i = ap (λ o. prepend o (cited_subproofs x.around.scope cs)) (a.subproofs c.first c.last f.0.from_one ∙ (subproof_as_read ls c.first c.last j f.0.from_one w h).2) ∙ ap (prepend (subproof_between ls c.first c.last)) i
      go false h i = i
