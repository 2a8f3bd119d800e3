-- Reading on from a list of sentences that was read so far.
use Rattle.std.proofs.Common.{◌≡◌, ℕ, suc, ◌+◌, ◌-◌, ◌≤◌, List, [], ◌∷◌, ◌++◌, length, length-append, append_assoc, append-nil, arith, ap, sym, subst, ◌∙◌, inl, inr}
use Rattle.std.specs.Prelude.{◌⊎◌}
use Rattle.fol_core.specs.declared.sent.Sent.{Sent}
use Rattle.sentence_lists.specs.declared.list.ListFault.{ListFault}
use Rattle.sentence_lists.specs.declared.list.ListFault.TheVariants.{TooManySentences, Memory}
use Rattle.sentence_lists.specs.SentenceLines.{SpellSentences, no_more, blank_line, sentence_line, SpellAtMost, ListFails, refused_line, one_too_many, past_blank, past_sentence}
use Rattle.sentence_lists.specs.Readers.{PutsLine, LineFails}

-- What follows from the lines that are left, the first of which is the physical line `place`, follows from all of them,
-- with the sentences that were read so far in front.
pub record Going (most : ℕ) (all : List (List ℕ)) (place : ℕ) (left : List (List ℕ)) (done : List Sent) : Type 0 where
  pub spells : (ss : List Sent) → SpellSentences left ss → SpellSentences all (done ++ ss)
  pub fails : (n : ℕ) (f : ListFault) → ListFails (most - length done) place left n f → ListFails most 1 all n f
  pub few : length done ≤ most

pub at_start : (most : ℕ) (all : List (List ℕ)) → Going most all 1 all []
at_start most all = record { spells = λ ss h. h; fails = λ n f h. subst (λ k. ListFails k 1 all n f) (let e : most - 0 ≡ most = omega arith in e) h; few = omega arith }

-- one line more is read
pub goes_on : (most : ℕ) (all : List (List ℕ)) (place : ℕ) (line : List ℕ) (left : List (List ℕ)) (old new : List Sent) → Going most all place (line ∷ left) old → PutsLine most line old new → Going most all (place + 1) left new
goes_on most all place line left old new g (inl (b, e)) = record {
  spells = λ ss h. subst (λ xs. SpellSentences all (xs ++ ss)) (sym e) (g.spells ss (blank_line line left ss b h));
  fails = λ n f h. g.fails n f (past_blank (most - length old) place line left n f b (subst (λ xs. ListFails (most - length xs) (place + 1) left n f) e h));
  few = subst (λ (xs : List Sent). length xs ≤ most) (sym e) g.few;
}
goes_on most all place line left old new g (inr (s, l, r, e)) = record {
  spells = λ ss h. subst (λ xs. SpellSentences all xs) (sym (append_assoc old (s ∷ []) ss) ∙ ap (λ xs. xs ++ ss) (sym e)) (g.spells (s ∷ ss) (sentence_line line left s ss l h));
  fails = λ n f h. g.fails n f (subst (λ k. ListFails k place (line ∷ left) n f) one_less (past_sentence (most - length new) place line left s n f l h));
  few = omega (arith, longer, r);
}
  where
    longer : length new ≡ length old + 1
    longer = ap length e ∙ length-append old (s ∷ [])

    one_less : suc (most - length new) ≡ most - length old
    one_less = omega (arith, longer, r)

-- the lines are read to their end
pub spelled : (most : ℕ) (all : List (List ℕ)) (place : ℕ) (done : List Sent) → Going most all place [] done → SpellAtMost most all done
spelled most all place done g = record { spell = subst (SpellSentences all) (append-nil done) (g.spells [] no_more); few = g.few }

-- a line fails
pub fails_here : (most : ℕ) (all : List (List ℕ)) (place : ℕ) (line : List ℕ) (left : List (List ℕ)) (done : List Sent) (f : ListFault) → Going most all place (line ∷ left) done →
    (f ≡ Memory) ⊎ LineFails most line done f → (f ≡ Memory) ⊎ ListFails most 1 all place f
fails_here most all place line left done f g (inl e) = inl e
fails_here most all place line left done f g (inr (inl (why, e, r))) = inr (g.fails place f (subst (ListFails (most - length done) place (line ∷ left) place) (sym e) (refused_line (most - length done) place line left why r)))
fails_here most all place line left done f g (inr (inr (s, e, l, r))) =
    let none : 0 ≡ most - length done = omega (arith, r) in
    inr (g.fails place f (subst (ListFails (most - length done) place (line ∷ left) place) (sym e) (subst (λ k. ListFails k place (line ∷ left) place TooManySentences) none (one_too_many place line left s l))))
