-- The block that has a name.
use Rattle.std.proofs.Common.{◌≡◌, ℕ, ◌+◌, ◌<◌, false, List, [], ◌∷◌, arith, refl}
use Rattle.std.proofs.lemmas.Bool.{ne_eqb}
use Rattle.worlds.specs.declared.block.Block.{Block}
use Rattle.worlds.specs.declared.block.Names.{Names}
use Rattle.worlds.specs.Geometry.{bears}
use Rattle.worlds.specs.Worlds.{bearer_from, bearer}

no_name : (n : Names) (l : ℕ) → (l ≡ 97 → ⊥) → (l ≡ 98 → ⊥) → (l ≡ 99 → ⊥) → (l ≡ 100 → ⊥) → (l ≡ 101 → ⊥) → (l ≡ 102 → ⊥) → bears n l ≡ false
no_name n l a b c d e f = rw (ne_eqb l 97 a) (rw (ne_eqb l 98 b) (rw (ne_eqb l 99 c) (rw (ne_eqb l 100 d) (rw (ne_eqb l 101 e) (rw (ne_eqb l 102 f) refl)))))

no_bearer : (n : ℕ) (w : List Block) (l : ℕ) → ((m : Names) → bears m l ≡ false) → bearer_from n w l ≡ 1
no_bearer n [] l h = refl
no_bearer n (b ∷ bs) l h = rw (h b.names) (no_bearer (n + 1) bs l h)

pub none_below : (w : List Block) (l : ℕ) → l < 97 → bearer w l ≡ 1
none_below w l h = no_bearer 1 w l (λ m. no_name m l (λ e. omega (arith, h, e)) (λ e. omega (arith, h, e)) (λ e. omega (arith, h, e)) (λ e. omega (arith, h, e)) (λ e. omega (arith, h, e)) (λ e. omega (arith, h, e)))

pub none_above : (w : List Block) (l : ℕ) → 102 < l → bearer w l ≡ 1
none_above w l h = no_bearer 1 w l (λ m. no_name m l (λ e. omega (arith, h, e)) (λ e. omega (arith, h, e)) (λ e. omega (arith, h, e)) (λ e. omega (arith, h, e)) (λ e. omega (arith, h, e)) (λ e. omega (arith, h, e)))
