-- What the tests say of the line in its proof.
use Rattle.std.proofs.Common.{◌≡◌, ℕ, ◌-◌, ◌<◌, ◌≤◌, true, List, length, ap, sym, subst, ◌∙◌, Some, None, inl, inr, ◌⊎◌}
use Rattle.std.specs.Prelude.{slice_get, IfSome, Option}
use Rattle.fol_core.specs.declared.sent.Sent.{Sent}
use Rattle.fol_core.specs.Word.{Word}
use Rattle.deriv_laws.specs.declared.rule.Rule.{Rule}
use Rattle.deriv_laws.specs.declared.line.FlatLine.{FlatLine}
use Rattle.deriv_laws.specs.declared.line.StepFault.{StepFault}
use Rattle.deriv_laws.specs.declared.line.StepFault.TheVariants as fault
use Rattle.nested_proofs.specs.Scope.{Subproof, cited_sentences, cited_subproofs}
use Rattle.nested_proofs.specs.Placed.{Placed, lines_of}
use Rattle.nested_proofs.specs.Limits.{AreLines}
use Rattle.nested_proofs.specs.AtLine.{AtLine}
use Rattle.nested_proofs.specs.CiteTests.{cites_fault}
use Rattle.nested_proofs.specs.Rules.{Follows, StaysArbitrary}
use Rattle.nested_proofs.specs.FollowsAt.{FollowsAt}
use Rattle.nested_proofs.specs.StaysAt.{StaysAt, OneBoxes, BoxesAt}
use Rattle.nested_proofs.specs.ReadOff.{sentences_read, subproofs_read}
use Rattle.nested_proofs.proofs.Reading.{Agrees, where_agrees}
use Rattle.nested_proofs.proofs.VisibleSentences.{both_turn}
use Rattle.nested_proofs.proofs.AtCited.{HasCites, FindsAsRead, finds_as_read}
use Rattle.nested_proofs.proofs.AtStep.{follows_at}
use Rattle.rules_quant.specs.FailsAs.{FailsAs}

same_stays : (a b : Rule) (ps qs : List Sent) (bs cs : List Subproof) (s : Sent) → a ≡ b → ps ≡ qs → bs ≡ cs → StaysArbitrary a ps bs s → StaysArbitrary b qs cs s
same_stays a b ps qs bs cs s e f g h = subst (λ x. StaysArbitrary x qs cs s) e (subst (λ xs. StaysArbitrary a xs cs s) f (subst (λ ys. StaysArbitrary a ps ys s) g h))

if_some : (o : Option Sent) (P : Sent → Type 0) (s : Sent) → o ≡ Some s → P s → IfSome o P
if_some o P s e h = subst (λ y. IfSome y P) (sym e) h

some_if : (o : Option Sent) (P : Sent → Type 0) (s : Sent) → o ≡ Some s → IfSome o P → P s
some_if o P s e h = subst (λ y. IfSome y P) e h

pub stays_at : (ls : List FlatLine) (j : ℕ) (l : FlatLine) (s : Sent) → AreLines ls → j ≤ length ls → HasCites ls j l → l.sentence ≡ Some s → StaysArbitrary l.rule (sentences_read ls l.cites) (subproofs_read ls l.cites) s → AtLine ls j StaysAt
stays_at ls j l s w b h e f = where_agrees ls j StaysAt (λ x a.
    let t : FindsAsRead ls l x = finds_as_read ls j x l w b h a in
    if_some x.line.sentence (λ y. StaysArbitrary x.line.rule (cited_sentences x.around.scope x.line.cites) (cited_subproofs x.around.scope x.line.cites) y) s (ap (λ (y : FlatLine). y.sentence) t.same_line ∙ e)
    (same_stays l.rule x.line.rule (sentences_read ls l.cites) (cited_sentences x.around.scope x.line.cites) (subproofs_read ls l.cites) (cited_subproofs x.around.scope x.line.cites) s
    (ap (λ (y : FlatLine). y.rule) (sym t.same_line)) (sym t.sentences) (sym t.subproofs) f))

-- where the constant isn't arbitrary, it isn't at the line, and it is the box of the one subproof
spoilt_at : (ls : List FlatLine) (j : ℕ) (l : FlatLine) (s : Sent) (c : Word) → AreLines ls → j ≤ length ls → HasCites ls j l → l.sentence ≡ Some s →
    (StaysArbitrary l.rule (sentences_read ls l.cites) (subproofs_read ls l.cites) s → ⊥) × OneBoxes (subproofs_read ls l.cites) c → AtLine ls j (λ x. (StaysAt x → ⊥) × BoxesAt c x)
spoilt_at ls j l s c w b h e f = where_agrees ls j (λ x. (StaysAt x → ⊥) × BoxesAt c x) (λ x a.
    let t : FindsAsRead ls l x = finds_as_read ls j x l w b h a in (
      (λ g. f.0 (same_stays x.line.rule l.rule (cited_sentences x.around.scope x.line.cites) (sentences_read ls l.cites) (cited_subproofs x.around.scope x.line.cites) (subproofs_read ls l.cites) s
          (ap (λ (y : FlatLine). y.rule) t.same_line) t.sentences t.subproofs
          (some_if x.line.sentence (λ y. StaysArbitrary x.line.rule (cited_sentences x.around.scope x.line.cites) (cited_subproofs x.around.scope x.line.cites) y) s (ap (λ (y : FlatLine). y.sentence) t.same_line ∙ e) g))),
      subst (λ xs. OneBoxes xs c) (sym t.subproofs) f.1,
    ))

both_at : (ls : List FlatLine) (j : ℕ) (P Q R : Placed → Type 0) → ((x : Placed) → P x → Q x → R x) → AtLine ls j P → AtLine ls j Q → AtLine ls j R
both_at ls j P Q R f a b p o e = both_turn (λ (x : Placed). x.number ≡ j → P x) (λ (x : Placed). x.number ≡ j → Q x) (λ (x : Placed). x.number ≡ j → R x) (λ x g h n. f x (g n) (h n)) (lines_of p) (a p o e) (b p o e)

-- the fault of a constant that isn't arbitrary
pub fails_fresh : (ls : List FlatLine) (j : ℕ) (l : FlatLine) (s : Sent) (c : Word) (e : StepFault) → AreLines ls → j ≤ length ls → HasCites ls j l → l.sentence ≡ Some s →
    Follows l.rule (sentences_read ls l.cites) (subproofs_read ls l.cites) s → (StaysArbitrary l.rule (sentences_read ls l.cites) (subproofs_read ls l.cites) s → ⊥) × OneBoxes (subproofs_read ls l.cites) c →
    (e ≡ fault.Memory) ⊎ (e ≡ fault.NotFresh c) → AtLine ls j (FailsAs e)
fails_fresh ls j l s c e w b h g f v (inl q) =
    subst (λ y. AtLine ls j (FailsAs y)) (sym q)
    (both_at ls j FollowsAt (λ x. (StaysAt x → ⊥) × BoxesAt c x) (FailsAs fault.Memory) (λ x y z. (y, z.0)) (follows_at ls j l s w b h g f) (spoilt_at ls j l s c w b h g v))
fails_fresh ls j l s c e w b h g f v (inr q) =
    subst (λ y. AtLine ls j (FailsAs y)) (sym q)
    (both_at ls j FollowsAt (λ x. (StaysAt x → ⊥) × BoxesAt c x) (FailsAs (fault.NotFresh c)) (λ x y z. (y, z.0, z.1)) (follows_at ls j l s w b h g f) (spoilt_at ls j l s c w b h g v))
