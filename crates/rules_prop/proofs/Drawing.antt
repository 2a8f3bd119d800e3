-- A sentence that is drawn from the parts of a conjunction.
use Rattle.std.proofs.Common.{◌≡◌, List, inl, inr, ◌⊎◌, sym, subst, ◌∙◌, IsTrue, Bool, Contains, ◌↔◌}
use Rattle.std.specs.List.{AllByRecursion}
use Rattle.fol_core.specs.declared.sent.Sent.{Sent}
use Rattle.fol_core.specs.declared.sent.Sent.TheVariants.{And}
use Rattle.fol_core.proofs.Forms.{and_parts}

-- from the parts, where the sentence is none of them
pub drawn_or : (parts some : List Sent) (s : Sent) (b : Bool) → (Contains parts s → ⊥) → s ≡ And some → IsTrue b ↔ AllByRecursion (λ p. Contains parts p) some →
    IsTrue b ↔ (Contains parts s ⊎ ((other : List Sent) × (s ≡ And other) × AllByRecursion (λ p. Contains parts p) other))
drawn_or parts some s b none e k = (
  λ i. inr (some, e, k.0 i),
  λ h. elim h [ inl i ↦ absurd (none i) | inr j ↦ k.1 (subst (λ ps. AllByRecursion (λ p. Contains parts p) ps) (and_parts (sym j.1 ∙ e)) j.2) ],
)

-- from the conjunction of the parts
pub drawn_from : (parts : List Sent) (p s : Sent) (b : Bool) → p ≡ And parts → IsTrue b ↔ (Contains parts s ⊎ ((some : List Sent) × (s ≡ And some) × AllByRecursion (λ q. Contains parts q) some)) →
    IsTrue b ↔ ((whole : List Sent) × (p ≡ And whole) × (Contains whole s ⊎ ((some : List Sent) × (s ≡ And some) × AllByRecursion (λ q. Contains whole q) some)))
drawn_from parts p s b e k = (
  λ i. (parts, e, k.0 i),
  λ h. k.1 (subst (λ ps. Contains ps s ⊎ ((some : List Sent) × (s ≡ And some) × AllByRecursion (λ q. Contains ps q) some)) (and_parts (sym h.1 ∙ e)) h.2),
)
