-- Each move makes a position lighter, and none makes it wider.
use Rattle.std.proofs.Common.{◌≡◌, ℕ, ◌+◌, ◌<◌, ◌≤◌, max, List, [], ◌∷◌, map, refl, sym, subst, rules, arith}
use Rattle.fol_core.specs.Size.{greatest}
use Rattle.fol_core.specs.declared.sent.Sent.{Sent, out-Sent, roll-Sent, roll-out-Sent, the_lemmas}
use Rattle.fol_core.specs.declared.sent.Sent.TheOpen.{Sent-F}
use Rattle.fol_core.specs.declared.sent.Sent.TheOpen as f
use Rattle.fol_core.specs.declared.sent.Sent.TheVariants as s
use Rattle.fol_core.specs.declared.sent.Sent.TheFolds.{fold-roll-Sent, map-Sent}
use Rattle.worlds.specs.declared.block.Block.{Block}
use Rattle.worlds.specs.Worlds.{numbers}
use Rattle.hintikka_game.specs.declared.position.Position.{Position}
use Rattle.hintikka_game.specs.Positions.{nexts, nexts_at, at_sentence, at_block}
use Rattle.hintikka_game.specs.Weight.{weight, weight_step}
use Rattle.hintikka_game.specs.Width.{widest, widest_step}

weight_not : (p : Sent) → weight (s.Not p) ≡ 1 + weight p
weight_not p = search (rules, the_lemmas)

weight_if : (p q : Sent) → weight (s.If p q) ≡ 2 + max (1 + weight p) (weight q)
weight_if p q = search (rules, the_lemmas)

weight_or : (p q : Sent) → weight (s.Or (p ∷ q ∷ [])) ≡ 1 + max (weight p) (max (weight q) 0)
weight_or p q = search (rules, the_lemmas)

weight_and : (p q : Sent) → weight (s.And (p ∷ q ∷ [])) ≡ 1 + max (weight p) (max (weight q) 0)
weight_and p q = search (rules, the_lemmas)

widest_not : (p : Sent) → widest (s.Not p) ≡ widest p
widest_not p = search (rules, the_lemmas)

widest_if : (p q : Sent) → widest (s.If p q) ≡ max 2 (max (widest p) (widest q))
widest_if p q = search (rules, the_lemmas)

widest_or : (p q : Sent) → widest (s.Or (p ∷ q ∷ [])) ≡ max 2 (max (widest p) (max (widest q) 0))
widest_or p q = search (rules, the_lemmas)

widest_and : (p q : Sent) → widest (s.And (p ∷ q ∷ [])) ≡ max 2 (max (widest p) (max (widest q) 0))
widest_and p q = search (rules, the_lemmas)

-- All the positions are lighter than one weight, and no wider than one width.
abbrev pub Are : ℕ → ℕ → List Position → Type 0
Are n k [] = Unit {0}
Are n k (p ∷ ps) = ((weight p.sentence < n) × (widest p.sentence ≤ k)) × Are n k ps

part_le : (f : Sent → ℕ) (p : Sent) (ps : List Sent) → f p ≤ greatest (map f (p ∷ ps))
part_le f p ps = omega arith

parts_are : (n k : ℕ) (h : Sent → Position) → ((q : Sent) → (h q).sentence ≡ q) → (qs : List Sent) →
    greatest (map weight qs) < n → greatest (map widest qs) ≤ k → Are n k (map h qs)
parts_are n k h e [] l b = tt
parts_are n k h e (q ∷ qs) l b = (
  (subst (λ r. weight r < n) (sym (e q)) (omega (arith, l)), subst (λ r. widest r ≤ k) (sym (e q)) (omega (arith, b))),
  parts_are n k h e qs (omega (arith, l)) (omega (arith, b)),
)

blocks_are : (n k : ℕ) (q : Sent) (h : ℕ → Position) → ((i : ℕ) → (h i).sentence ≡ q) → (is : List ℕ) →
    weight q < n → widest q ≤ k → Are n k (map h is)
blocks_are n k q h e [] l b = tt
blocks_are n k q h e (i ∷ is) l b =
    ((subst (λ r. weight r < n) (sym (e i)) l, subst (λ r. widest r ≤ k) (sym (e i)) b), blocks_are n k q h e is l b)

abbrev weighed : Sent-F Sent → ℕ
weighed y = weight_step (map-Sent Sent ℕ weight y)

abbrev spread : Sent-F Sent → ℕ
spread y = widest_step (map-Sent Sent ℕ widest y)

step : (w : List Block) (p : Position) (y : Sent-F Sent) → Are (weighed y) (spread y) (nexts_at w p y)
step w p (f.Atom q ts) = tt
step w p (f.Eq t u) = tt
step w p f.Bottom = tt
step w p (f.Not q) = ((omega arith, omega arith), tt)
step w p (f.And qs) = parts_are _ _ (at_sentence p) (λ q. refl) qs (omega arith) (omega arith)
step w p (f.Or qs) = parts_are _ _ (at_sentence p) (λ q. refl) qs (omega arith) (omega arith)
step w p (f.If q r) = ((omega (arith, weight_or (s.Not q) r, weight_not q), omega (arith, widest_or (s.Not q) r, widest_not q)), tt)
step w p (f.Iff q r) = (
  (
    omega (arith, weight_and (s.If q r) (s.If r q), weight_if q r, weight_if r q),
    omega (arith, widest_and (s.If q r) (s.If r q), widest_if q r, widest_if r q),
  ),
  tt,
)
step w p (f.All x q) = blocks_are _ _ q (at_block p x q) (λ i. refl) (numbers w) (omega arith) (omega arith)
step w p (f.Ex x q) = blocks_are _ _ q (at_block p x q) (λ i. refl) (numbers w) (omega arith) (omega arith)

-- The positions that a move can lead to are lighter, and no wider.
pub lighter : (w : List Block) (p : Position) → Are (weight p.sentence) (widest p.sentence) (nexts w p)
lighter w p = subst (λ (q : Sent). Are (weight q) (widest q) (nexts_at w p (out-Sent q))) (roll-out-Sent p.sentence) (rolled (out-Sent p.sentence))
  where
    rolled : (y : Sent-F Sent) → Are (weight (roll-Sent y)) (widest (roll-Sent y)) (nexts_at w p (out-Sent (roll-Sent y)))
    rolled y =
        let o : out-Sent (roll-Sent y) ≡ y = search (rules, the_lemmas) in
        subst (λ n. Are n (widest (roll-Sent y)) (nexts_at w p (out-Sent (roll-Sent y)))) (sym (fold-roll-Sent ℕ weight_step y))
        (subst (λ k. Are (weighed y) k (nexts_at w p (out-Sent (roll-Sent y)))) (sym (fold-roll-Sent ℕ widest_step y))
        (subst (λ z. Are (weighed y) (spread y) (nexts_at w p z)) (sym o) (step w p y)))
