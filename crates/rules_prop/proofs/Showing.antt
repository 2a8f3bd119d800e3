-- What the rules with subproofs say of what is read off the lines.
use Rattle.std.proofs.Common.{◌≡◌, Bool, true, false, List, [], ◌∷◌, ◌<◌, length, refl, ap, sym, subst, ◌∙◌, cond, Option, Some, None, IsTrue, ◌↔◌, ◌⊎◌, inl, inr, Contains, arith}
use Rattle.std.specs.List.{AllByRecursion}
use Rattle.fol_core.specs.declared.sent.Sent.{Sent}
use Rattle.fol_core.specs.declared.sent.Sent.TheVariants.{And, Or, Iff}
use Rattle.fol_core.proofs.Forms.{and_parts, or_parts}
use Rattle.deriv_laws.specs.declared.rule.Rule.{Rule}
use Rattle.deriv_laws.specs.declared.rule.Rule.TheVariants as r
use Rattle.deriv_laws.specs.declared.line.Cite.{Cite}
use Rattle.deriv_laws.specs.declared.line.FlatLine.{FlatLine}
use Rattle.nested_proofs.specs.Scope.{Subproof, prepend}
use Rattle.nested_proofs.specs.Rules.{Goes, Follows}
use Rattle.nested_proofs.specs.CiteTests.{subproofs_cited}
use Rattle.nested_proofs.specs.ReadOff.{stated_at, subproof_between, sentences_read, subproofs_read}
use Rattle.rules_prop.specs.Shown.{GoesAt, SomeGoes}
use Rattle.rules_prop.specs.inside.Premises.{is_from_two}
use Rattle.rules_prop.proofs.Counting.{few}
use Rattle.nested_proofs.proofs.ReadCites.{no_subproofs, two_read}

-- a conjunction of cited sentences, whose line cites no subproof
pub joined : (ps : List Sent) (bs : List Subproof) (parts : List Sent) (s : Sent) (b : Bool) → bs ≡ [] → s ≡ And parts → IsTrue b ↔ AllByRecursion (λ p. Contains ps p) parts → IsTrue b ↔ Follows r.AndIntro ps bs s
joined ps bs parts s b e f h =
    subst (λ xs. IsTrue b ↔ Follows r.AndIntro ps xs s) (sym e)
    (λ i. (parts, f, h.0 i), λ g. h.1 (subst (λ xs. AllByRecursion (λ p. Contains ps p) xs) (and_parts (sym g.1 ∙ f)) g.2))

-- a disjunction, each part of which has its case
pub split : (ps : List Sent) (bs : List Subproof) (p : Sent) (parts : List Sent) (s : Sent) (b : Bool) → ps ≡ p ∷ [] → p ≡ Or parts → IsTrue b ↔ AllByRecursion (λ q. SomeGoes bs q s) parts → IsTrue b ↔ Follows r.OrElim ps bs s
split ps bs p parts s b e f h =
    subst (λ xs. IsTrue b ↔ Follows r.OrElim xs bs s) (sym e)
    (λ i. (parts, f, h.0 i), λ g. h.1 (subst (λ xs. AllByRecursion (λ q. SomeGoes bs q s) xs) (or_parts (sym g.1 ∙ f)) g.2))

abbrev GoesIn : Option Subproof → Sent → Sent → Type 0
GoesIn o p q = (b : Subproof) × (o ≡ Some b) × Goes b p q

is_it : (x : Subproof) (p q : Sent) → GoesIn (Some x) p q → Goes x p q
is_it x p q g = subst (λ z. Goes z p q) (let e : g.0 ≡ x = cc in e) g.2

ways_of : (o n : Option Subproof) (s : Sent) (b : Bool) → IsTrue b ↔ ((p : Sent) × (q : Sent) × (s ≡ Iff p q) × ((GoesIn o p q × GoesIn n q p) ⊎ (GoesIn o q p × GoesIn n p q))) →
    IsTrue b ↔ Follows r.IffIntro [] (prepend o (prepend n [])) s
ways_of (Some x) (Some y) s b h = (
  λ i. let w = h.0 i in (w.0, w.1, w.2, elim w.3 [ inl v ↦ inl (is_it x w.0 w.1 v.0, is_it y w.1 w.0 v.1) | inr v ↦ inr (is_it x w.1 w.0 v.0, is_it y w.0 w.1 v.1) ]),
  λ f. h.1 (f.0, f.1, f.2, elim f.3 [ inl v ↦ inl ((x, refl, v.0), (y, refl, v.1)) | inr v ↦ inr ((x, refl, v.0), (y, refl, v.1)) ]),
)
ways_of None n s b h = (λ i. absurd (none (h.0 i).3), λ f. absurd (fewer n f))
  where
    none : {p q : Sent} → ((GoesIn None p q × GoesIn n q p) ⊎ (GoesIn None q p × GoesIn n p q)) → ⊥
    none (inl v) = let e = v.0.1 in cc
    none (inr v) = let e = v.0.1 in cc

    fewer : (n : Option Subproof) → Follows r.IffIntro [] (prepend n []) s → ⊥
    fewer None f = f
    fewer (Some y) f = f
ways_of (Some x) None s b h = (λ i. absurd (none (h.0 i).3), λ f. absurd f)
  where
    none : {p q : Sent} → ((GoesIn (Some x) p q × GoesIn None q p) ⊎ (GoesIn (Some x) q p × GoesIn None p q)) → ⊥
    none (inl v) = let e = v.1.1 in cc
    none (inr v) = let e = v.1.1 in cc

-- two subproofs cited, and no line
pub two_subproofs : (one other : Cite) → subproofs_cited (one ∷ other ∷ []) ≡ 2 → (one.sub ≡ true) × (other.sub ≡ true)
two_subproofs one other = go one.sub other.sub
  where
    go : (a b : Bool) → length (cond a (one ∷ cond b (other ∷ []) []) (cond b (other ∷ []) [])) ≡ 2 → (a ≡ true) × (b ≡ true)
    go true true e = (refl, refl)
    go true false e = absurd (omega (arith, e))
    go false true e = absurd (omega (arith, e))
    go false false e = absurd (omega (arith, e))

-- what two cited subproofs show in both directions
pub both_shown : (ls : List FlatLine) (cs : List Cite) (one other : Cite) (s : Sent) (b : Bool) → cs ≡ one ∷ other ∷ [] → subproofs_cited cs ≡ 2 →
    IsTrue b ↔ ((p : Sent) × (q : Sent) × (s ≡ Iff p q) × ((GoesAt ls one p q × GoesAt ls other q p) ⊎ (GoesAt ls one q p × GoesAt ls other p q))) →
    IsTrue b ↔ Follows r.IffIntro (sentences_read ls cs) (subproofs_read ls cs) s
both_shown ls cs one other s b e n h =
    subst (λ xs. IsTrue b ↔ Follows r.IffIntro (sentences_read ls xs) (subproofs_read ls xs) s) (sym e)
    (go one.sub other.sub (two_subproofs one other (subst (λ xs. subproofs_cited xs ≡ 2) e n)))
  where
    go : (u v : Bool) → (u ≡ true) × (v ≡ true) →
        IsTrue b ↔ Follows r.IffIntro (cond u (cond v [] (prepend (stated_at ls other.first) [])) (prepend (stated_at ls one.first) (cond v [] (prepend (stated_at ls other.first) []))))
        (cond u (prepend (subproof_between ls one.first one.last) (cond v (prepend (subproof_between ls other.first other.last) []) [])) (cond v (prepend (subproof_between ls other.first other.last) []) [])) s
    go true true q = ways_of (subproof_between ls one.first one.last) (subproof_between ls other.first other.last) s b h
    go true false q = let x = q.1 in cc
    go false v q = let x = q.0 in cc

-- a rule from two lines gives nothing where the first of them states nothing
pub one_missing : (rule : Rule) (ls : List FlatLine) (cs : List Cite) (one other : Cite) (s : Sent) → is_from_two rule ≡ true → cs ≡ one ∷ other ∷ [] → subproofs_cited cs ≡ 0 → stated_at ls one.first ≡ None →
    Follows rule (sentences_read ls cs) (subproofs_read ls cs) s → ⊥
one_missing rule ls cs one other s t e n m f =
    few rule (prepend None (prepend (stated_at ls other.first) [])) s t (short (stated_at ls other.first))
    (subst (λ ps. Follows rule ps [] s) (two_read ls cs one other e n ∙ ap (λ o. prepend o (prepend (stated_at ls other.first) [])) m)
    (subst (λ bs. Follows rule (sentences_read ls cs) bs s) (no_subproofs ls cs n) f))
  where
    short : (o : Option Sent) → length (prepend None (prepend o [])) < 2
    short None = omega arith
    short (Some x) = omega arith
