-- A step whose cites have passed their tests: what its caller has shown of the line, and what follows from it, read off the
-- flat lines.
use Rattle.std.proofs.Common.{◌≡◌, ℕ, ◌-◌, ◌<◌, ◌≤◌, true, Bool, List, length, ap, sym, subst, ◌∙◌, Some, None}
use Rattle.std.specs.Prelude.{slice_get}
use Rattle.fol_core.specs.declared.sent.Sent.{Sent}
use Rattle.deriv_laws.specs.declared.rule.Rule.{Rule}
use Rattle.deriv_laws.specs.declared.line.FlatLine.{FlatLine}
use Rattle.nested_proofs.specs.Scope.{Subproof, cited_sentences, cited_subproofs}
use Rattle.nested_proofs.specs.Placed.{Placed}
use Rattle.nested_proofs.specs.Limits.{AreLines}
use Rattle.nested_proofs.specs.AtLine.{AtLine}
use Rattle.nested_proofs.specs.CiteTests.{cites_fault, is_inferred}
use Rattle.nested_proofs.specs.Rules.{Follows}
use Rattle.nested_proofs.specs.FollowsAt.{FollowsAt}
use Rattle.nested_proofs.specs.ReadOff.{sentences_read, subproofs_read}
use Rattle.nested_proofs.proofs.Reading.{Agrees, where_agrees}
use Rattle.nested_proofs.proofs.AtCited.{HasCites, FindsAsRead, line_placed, cites_passed, finds_as_read}

-- the rule and the cites of line j, as its caller has shown them of the line in its proof
pub record IsReady (is_one : Rule → Bool) (ls : List FlatLine) (j : ℕ) (l : FlatLine) : Type 0 where
  pub rule : is_one l.rule ≡ true
  pub cites : HasCites ls j l

pub ready : (is_one : Rule → Bool) → ((rule : Rule) → is_one rule ≡ true → is_inferred rule ≡ true) → (ls : List FlatLine) (j : ℕ) (l : FlatLine) → AreLines ls → 0 < j → j ≤ length ls → slice_get ls (j - 1) ≡ Some l →
    AtLine ls j (λ x. is_one x.line.rule ≡ true) → AtLine ls j (λ x. cites_fault x.line.rule x.around.scope x.line.cites ≡ None) → IsReady is_one ls j l
ready is_one inferred ls j l w a b e p q = record { rule = rule; cites = cites }
  where
    same : (x : Placed) → Agrees ls j x → x.line ≡ l
    same x g = let h : Some x.line ≡ Some l = sym g.line ∙ e in cc

    rule : is_one l.rule ≡ true
    rule = let x = line_placed ls j (λ x. is_one x.line.rule ≡ true) w a b p in subst (λ (y : FlatLine). is_one y.rule ≡ true) (same x.0 x.1) x.2

    cites : HasCites ls j l
    cites = let x = line_placed ls j (λ x. cites_fault x.line.rule x.around.scope x.line.cites ≡ None) w a b q in cites_passed ls j x.0 l w b e (inferred l.rule rule) x.1 x.2

-- equal rules, sentences and subproofs
same_follows : (a b : Rule) (ps qs : List Sent) (bs cs : List Subproof) (s : Sent) → a ≡ b → ps ≡ qs → bs ≡ cs → Follows a ps bs s → Follows b qs cs s
same_follows a b ps qs bs cs s e f g h = subst (λ x. Follows x qs cs s) e (subst (λ xs. Follows a xs cs s) f (subst (λ ys. Follows a ps ys s) g h))

-- where the sentence follows from what is read off the lines, the line follows in its proof
pub follows_at : (ls : List FlatLine) (j : ℕ) (l : FlatLine) (s : Sent) → AreLines ls → j ≤ length ls → HasCites ls j l → l.sentence ≡ Some s → Follows l.rule (sentences_read ls l.cites) (subproofs_read ls l.cites) s → AtLine ls j FollowsAt
follows_at ls j l s w b h e f = where_agrees ls j FollowsAt (λ x a.
    let t : FindsAsRead ls l x = finds_as_read ls j x l w b h a in (
      s,
      ap (λ (y : FlatLine). y.sentence) t.same_line ∙ e,
      same_follows l.rule x.line.rule (sentences_read ls l.cites) (cited_sentences x.around.scope x.line.cites) (subproofs_read ls l.cites) (cited_subproofs x.around.scope x.line.cites) s
          (ap (λ (y : FlatLine). y.rule) (sym t.same_line)) (sym t.sentences) (sym t.subproofs) f,
    ))

-- where it doesn't, the line doesn't
pub not_at : (ls : List FlatLine) (j : ℕ) (l : FlatLine) → AreLines ls → j ≤ length ls → HasCites ls j l → ((s : Sent) → l.sentence ≡ Some s → Follows l.rule (sentences_read ls l.cites) (subproofs_read ls l.cites) s → ⊥) → AtLine ls j (λ x. FollowsAt x → ⊥)
not_at ls j l w b h n = where_agrees ls j (λ x. FollowsAt x → ⊥) (λ x a f.
    let t : FindsAsRead ls l x = finds_as_read ls j x l w b h a in
    n f.0 (ap (λ (y : FlatLine). y.sentence) (sym t.same_line) ∙ f.1)
    (same_follows x.line.rule l.rule (cited_sentences x.around.scope x.line.cites) (sentences_read ls l.cites) (cited_subproofs x.around.scope x.line.cites) (subproofs_read ls l.cites) f.0
    (ap (λ (y : FlatLine). y.rule) t.same_line) t.sentences t.subproofs f.2))
