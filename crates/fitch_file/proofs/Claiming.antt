-- A text makes one claim at most.
use Rattle.std.proofs.Common.{◌≡◌, ℕ, true, false, List, refl, sym, ap, subst, ◌∙◌, Option, Some, None}
use Rattle.texts.specs.Blanks.{trimmed}
use Rattle.texts.specs.Cuts.{Lacks, IsCut}
use Rattle.texts.proofs.Cutting.{cut_once, lacks_not_cut}
use Rattle.fol_core.specs.Word.{Word}
use Rattle.deriv_laws.specs.declared.rule.Rule.{Rule}
use Rattle.fitch_file.specs.Boxes.{IsBoxed}
use Rattle.fitch_file.specs.RuleNames.{IsRuleName}
use Rattle.fitch_file.specs.Claim.{Claim, IsClaim, IsReason, suits}
use Rattle.fitch_file.proofs.Boxing.{IsSameBox, box_once}
use Rattle.fitch_file.proofs.Naming.{name_once}

pub record IsSameReason (p q : Rule) (cs ds : Option (List ℕ)) : Type 0 where
  pub rule : p ≡ q
  pub cites : cs ≡ ds

pub reason_once : (text : List ℕ) (p q : Rule) (cs ds : Option (List ℕ)) → IsReason text p cs → IsReason text q ds → IsSameReason p q cs ds
reason_once text p q None None h k = record { rule = name_once p q (trimmed text) h.1 k.1; cites = refl }
reason_once text p q None (Some ds) h k = absurd (lacks_not_cut 58 text k.0 ds h.0 k.1)
reason_once text p q (Some cs) None h k = absurd (lacks_not_cut 58 text h.0 cs k.0 h.1)
reason_once text p q (Some cs) (Some ds) h k =
    let e : (h.0 ≡ k.0) × (cs ≡ ds) = cut_once 58 text h.0 cs k.0 ds h.1 k.1 in
    record { rule = name_once p q (trimmed h.0) h.2 (subst (λ t. IsRuleName (trimmed t) q) (sym e.0) k.2); cites = ap Some e.1 }

same_claim : (c d : Claim) → c.boxed ≡ d.boxed → c.stated ≡ d.stated → c.rule ≡ d.rule → c.cites ≡ d.cites → c ≡ d
same_claim c d b s r k =
    ap (λ (x : Option Word). let y : Claim = record { boxed = x; stated = c.stated; rule = c.rule; cites = c.cites } in y) b
    ∙ ap (λ (x : List ℕ). let y : Claim = record { boxed = d.boxed; stated = x; rule = c.rule; cites = c.cites } in y) s
    ∙ ap (λ (x : Rule). let y : Claim = record { boxed = d.boxed; stated = d.stated; rule = x; cites = c.cites } in y) r
    ∙ ap (λ (x : Option (List ℕ)). let y : Claim = record { boxed = d.boxed; stated = d.stated; rule = d.rule; cites = x } in y) k

-- where a claim's sentence and reason stand
pub parts_once : (text rest sentence reason : List ℕ) (b : Option Word) (c : Claim) → IsBoxed text b rest → IsCut 59 rest sentence reason → (h : IsClaim text c) →
    IsSameBox c.boxed b h.rest rest × (h.sentence ≡ sentence) × (h.reason ≡ reason)
parts_once text rest sentence reason b c box cut h =
    let s : IsSameBox c.boxed b h.rest rest = box_once text c.boxed b h.rest rest h.boxed box in
    let e : (h.sentence ≡ sentence) × (h.reason ≡ reason) = cut_once 59 rest h.sentence h.reason sentence reason (subst (λ t. IsCut 59 t h.sentence h.reason) s.rest_is h.parted) cut in
    (s, e.0, e.1)

pub claim_once : (text : List ℕ) (c d : Claim) → IsClaim text c → IsClaim text d → c ≡ d
claim_once text c d h k =
    let e : IsSameBox c.boxed d.boxed h.rest k.rest × (h.sentence ≡ k.sentence) × (h.reason ≡ k.reason) = parts_once text k.rest k.sentence k.reason d.boxed c k.boxed k.parted h in
    let r : IsSameReason c.rule d.rule c.cites d.cites = reason_once h.reason c.rule d.rule c.cites d.cites h.reasoned (subst (λ t. IsReason t d.rule d.cites) (sym e.2) k.reasoned) in
    same_claim c d e.0.name (h.stated ∙ ap trimmed e.1 ∙ sym k.stated) r.rule r.cites

-- Why a text claims nothing.
pub no_semicolon : (text rest : List ℕ) (b : Option Word) (c : Claim) → IsBoxed text b rest → Lacks 59 rest → IsClaim text c → ⊥
no_semicolon text rest b c box lacks h =
    let s : IsSameBox c.boxed b h.rest rest = box_once text c.boxed b h.rest rest h.boxed box in
    lacks_not_cut 59 rest h.sentence h.reason lacks (subst (λ t. IsCut 59 t h.sentence h.reason) s.rest_is h.parted)

pub no_reason : (text rest sentence reason : List ℕ) (b : Option Word) (c : Claim) → IsBoxed text b rest → IsCut 59 rest sentence reason →
    ((rule : Rule) (cites : Option (List ℕ)) → IsReason reason rule cites → ⊥) → IsClaim text c → ⊥
no_reason text rest sentence reason b c box cut none h =
    let e : IsSameBox c.boxed b h.rest rest × (h.sentence ≡ sentence) × (h.reason ≡ reason) = parts_once text rest sentence reason b c box cut h in
    none c.rule c.cites (subst (λ t. IsReason t c.rule c.cites) e.2 h.reasoned)

pub not_suited : (text rest sentence reason stated : List ℕ) (b : Option Word) (rule : Rule) (cites : Option (List ℕ)) (c : Claim) → IsBoxed text b rest → IsCut 59 rest sentence reason →
    stated ≡ trimmed sentence → IsReason reason rule cites → suits rule b stated ≡ false → IsClaim text c → ⊥
not_suited text rest sentence reason stated b rule cites c box cut s r unsuited h =
    let e : IsSameBox c.boxed b h.rest rest × (h.sentence ≡ sentence) × (h.reason ≡ reason) = parts_once text rest sentence reason b c box cut h in
    let q : IsSameReason c.rule rule c.cites cites = reason_once reason c.rule rule c.cites cites (subst (λ t. IsReason t c.rule c.cites) e.2 h.reasoned) r in
    let f : c.stated ≡ stated = h.stated ∙ ap trimmed e.1 ∙ sym s in
    let g : suits rule b stated ≡ true = subst (λ t. suits rule b t ≡ true) f (subst (λ x. suits rule x c.stated ≡ true) e.0.name (subst (λ x. suits x c.boxed c.stated ≡ true) q.rule h.suited)) in
    absurd (cc)

-- where a name behind a colon, or alone, is no rule's
pub not_named_before : (text name tail : List ℕ) → IsCut 58 text name tail → ((p : Rule) → IsRuleName (trimmed name) p → ⊥) → (p : Rule) (cs : Option (List ℕ)) → IsReason text p cs → ⊥
not_named_before text name tail c none p None h = lacks_not_cut 58 text name tail h.0 c
not_named_before text name tail c none p (Some cs) h =
    let e : (h.0 ≡ name) × (cs ≡ tail) = cut_once 58 text h.0 cs name tail h.1 c in
    none p (subst (λ t. IsRuleName (trimmed t) p) e.0 h.2)

pub not_named_alone : (text : List ℕ) → Lacks 58 text → ((p : Rule) → IsRuleName (trimmed text) p → ⊥) → (p : Rule) (cs : Option (List ℕ)) → IsReason text p cs → ⊥
not_named_alone text l none p None h = none p h.1
not_named_alone text l none p (Some cs) h = lacks_not_cut 58 text h.0 cs l h.1
