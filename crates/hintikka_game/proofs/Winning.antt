-- A position wins exactly where the commitment is the value.
use Rattle.std.proofs.Common.{◌≡◌, ℕ, zero, suc, ◌≤◌, List, [], ◌∷◌, map, refl, ap, ap₂, sym, ◌∙◌, arith}
use Rattle.worlds.specs.declared.block.Block.{Block}
use Rattle.hintikka_game.specs.declared.position.Position.{Position}
use Rattle.hintikka_game.specs.Positions.{side, nexts, is_kept}
use Rattle.hintikka_game.specs.Wins.{wins_by, wins_in, wins, wins_by_turns}
use Rattle.hintikka_game.specs.Weight.{weight}
use Rattle.hintikka_game.specs.Width.{widest}
use Rattle.hintikka_game.proofs.Values.{kept_by_turns}
use Rattle.hintikka_game.proofs.Weights.{Are, lighter}

-- Nothing is lighter than weight 0.
none_below : (k : ℕ) (w : List Block) (ps : List Position) (n : ℕ) → n ≤ 0 → Are n k ps → map (is_kept w) ps ≡ []
none_below k w [] n z h = refl
none_below k w (p ∷ ps) n z h = absurd (omega (arith, h.0.0, z))

in_each : (n : ℕ) (w : List Block) → ((p : Position) → weight p.sentence ≤ n → wins_in n w p ≡ is_kept w p) →
    (m k : ℕ) (ps : List Position) → m ≤ suc n → Are m k ps → map (wins_in n w) ps ≡ map (is_kept w) ps
in_each n w ih m k [] l h = refl
in_each n w ih m k (p ∷ ps) l h = ap₂ ◌∷◌ (ih p (omega (arith, h.0.0, l))) (in_each n w ih m k ps l h.1)

pub in_enough : (n : ℕ) (w : List Block) (p : Position) → weight p.sentence ≤ n → wins_in n w p ≡ is_kept w p
in_enough zero w p l = ap (λ bs. wins_by (side p) bs (is_kept w p)) (sym (none_below (widest p.sentence) w (nexts w p) (weight p.sentence) l (lighter w p)))
    ∙ sym (kept_by_turns w p)
in_enough (suc n) w p l = ap (λ bs. wins_by (side p) bs (is_kept w p))
    (in_each n w (in_enough n w) (weight p.sentence) (widest p.sentence) (nexts w p) l (lighter w p))
    ∙ sym (kept_by_turns w p)

pub wins_is_kept : (w : List Block) (p : Position) → wins w p ≡ is_kept w p
wins_is_kept w p = in_enough (weight p.sentence) w p (omega arith)

wins_each : (w : List Block) (ps : List Position) → map (wins w) ps ≡ map (is_kept w) ps
wins_each w [] = refl
wins_each w (p ∷ ps) = ap₂ ◌∷◌ (wins_is_kept w p) (wins_each w ps)

-- Wins meets the recursion on positions.
pub wins_recursion : (w : List Block) (p : Position) → wins w p ≡ wins_by_turns w p
wins_recursion w p = wins_is_kept w p ∙ kept_by_turns w p ∙ ap (λ bs. wins_by (side p) bs (is_kept w p)) (sym (wins_each w (nexts w p)))
