-- What holds of every play.
use Rattle.std.proofs.Common.{◌≡◌, ℕ, zero, suc, ◌+◌, ◌-◌, ◌<◌, ◌≤◌, List, [], ◌∷◌, ◌++◌, length, get_or, refl, ap, sym, ◌∙◌, subst, Bool, true, false, true≢false, arith}
use Rattle.std.specs.Prelude.{◌&&◌, not, None, Some, IsSome, if◌then◌else◌}
use Rattle.worlds.specs.declared.block.Block.{Block}
use Rattle.hintikka_game.specs.declared.position.Position.{Position}
use Rattle.hintikka_game.specs.declared.turn.Turn.TheVariants as turns
use Rattle.hintikka_game.specs.declared.turn.Move.{Move}
use Rattle.hintikka_game.specs.declared.turn.Move.TheVariants as moves
use Rattle.hintikka_game.specs.Positions.{nexts, is_kept}
use Rattle.hintikka_game.specs.Weight.{weight}
use Rattle.hintikka_game.specs.Width.{widest}
use Rattle.hintikka_game.specs.Wins.{wins}
use Rattle.hintikka_game.specs.Turns.{turn_of}
use Rattle.hintikka_game.specs.Plays.{taken, after, IsAllowed, IsPlay, end_of, is_choice, choices, is_losing, losing_from, or_losing}
use Rattle.hintikka_game.proofs.Weights.{Are, lighter}
use Rattle.hintikka_game.proofs.Winning.{wins_is_kept}
use Rattle.hintikka_game.proofs.Turning.{over_is_kept, allowed_within, lost_stays, kept_stays}

-- A play with one more move.
pub end-append : (w : List Block) (p : Position) (ms : List Move) (m : Move) → end_of w p (ms ++ m ∷ []) ≡ after w (end_of w p ms) m
end-append w p [] m = refl
end-append w p (n ∷ ms) m = end-append w (after w p n) ms m

pub play-append : (w : List Block) (p : Position) (ms : List Move) (m : Move) → IsPlay w p ms → IsAllowed (turn_of w (end_of w p ms)) m →
    IsPlay w p (ms ++ m ∷ [])
play-append w p [] m h a = (a, tt)
play-append w p (n ∷ ms) m h a = (h.0, play-append w (after w p n) ms m h.1 a)

pub choices-append : (ms : List Move) (m : Move) → choices (ms ++ m ∷ []) ≡ choices ms + choices (m ∷ [])
choices-append [] m = omega arith
choices-append (n ∷ ms) m = omega (arith, choices-append ms m)

no_more : (n : ℕ) (w : List Block) (p : Position) (m : Move) → losing_from w n p (m ∷ []) ≡ or_losing None (is_losing w p m) (n + 0 + 1)
no_more n w p m = ap (λ k. if is_losing w p m then Some k else None) (omega arith)

pub losing-append : (w : List Block) (n : ℕ) (p : Position) (ms : List Move) (m : Move) →
    losing_from w n p (ms ++ m ∷ []) ≡ or_losing (losing_from w n p ms) (is_losing w (end_of w p ms) m) (n + choices ms + 1)
losing-append w n p [] m = no_more n w p m
losing-append w n p (k ∷ ms) m = go (is_losing w p k) refl (losing-append w (n + choices (k ∷ [])) (after w p k) ms m)
  where
    go : (b : Bool) → is_losing w p k ≡ b →
        losing_from w (n + choices (k ∷ [])) (after w p k) (ms ++ m ∷ []) ≡ or_losing (losing_from w (n + choices (k ∷ [])) (after w p k) ms) (is_losing w (end_of w (after w p k) ms) m) (n + choices (k ∷ []) + choices ms + 1) →
        losing_from w n p (k ∷ ms ++ m ∷ []) ≡ or_losing (losing_from w n p (k ∷ ms)) (is_losing w (end_of w p (k ∷ ms)) m) (n + choices (k ∷ ms) + 1)
    go true e ih = ap (λ (b : Bool). if b then Some (n + 1) else losing_from w (n + choices (k ∷ [])) (after w p k) (ms ++ m ∷ [])) e
        ∙ ap (λ (b : Bool). or_losing (if b then Some (n + 1) else losing_from w (n + choices (k ∷ [])) (after w p k) ms) (is_losing w (end_of w p (k ∷ ms)) m) (n + choices (k ∷ ms) + 1)) (sym e)
    go false e ih = ap (λ (b : Bool). if b then Some (n + 1) else losing_from w (n + choices (k ∷ [])) (after w p k) (ms ++ m ∷ [])) e
        ∙ ih
        ∙ ap (λ j. or_losing (losing_from w (n + choices (k ∷ [])) (after w p k) ms) (is_losing w (end_of w p (k ∷ ms)) m) j) (omega arith)
        ∙ ap (λ (b : Bool). or_losing (if b then Some (n + 1) else losing_from w (n + choices (k ∷ [])) (after w p k) ms) (is_losing w (end_of w p (k ∷ ms)) m) (n + choices (k ∷ ms) + 1)) (sym e)

-- From a position that isn't kept, no play comes to one that is.
pub never_kept : (w : List Block) (p : Position) (ms : List Move) → IsPlay w p ms → is_kept w p ≡ false → is_kept w (end_of w p ms) ≡ false
never_kept w p [] h e = e
never_kept w p (m ∷ ms) h e = never_kept w (after w p m) ms h.1 (lost_stays w p m h.0 e)

-- So no play ends won.
pub never_won : (w : List Block) (p : Position) (ms : List Move) → IsPlay w p ms → is_kept w p ≡ false → turn_of w (end_of w p ms) ≡ turns.Over true → ⊥
never_won w p ms h e o = true≢false (sym (over_is_kept w (end_of w p ms) true o) ∙ never_kept w p ms h e)

-- One of the positions is lighter, and no wider.
pick : (n k : ℕ) (ps : List Position) (i : ℕ) (d : Position) → Are n k ps → i < length ps → (weight (get_or ps i d).sentence < n) × (widest (get_or ps i d).sentence ≤ k)
pick n k [] i d h l = absurd (omega (arith, l))
pick n k (p ∷ ps) zero d h l = h.0
pick n k (p ∷ ps) (suc i) d h l = pick n k ps i d h.1 (omega (arith, l))

pub after_lighter : (w : List Block) (p : Position) (m : Move) → IsAllowed (turn_of w p) m →
    (weight (after w p m).sentence < weight p.sentence) × (widest (after w p m).sentence ≤ widest p.sentence)
after_lighter w p m h =
    let i = allowed_within w p m h in
    pick (weight p.sentence) (widest p.sentence) (nexts w p) (taken m - 1) p (lighter w p) (omega (arith, i.0, i.1))

-- With what its end weighs, a play has no more moves than its opening weighs.
pub play_is_short : (w : List Block) (p : Position) (ms : List Move) → IsPlay w p ms → length ms + weight (end_of w p ms).sentence ≤ weight p.sentence
play_is_short w p [] h = omega arith
play_is_short w p (m ∷ ms) h = omega (arith, (after_lighter w p m h.0).0, play_is_short w (after w p m) ms h.1)

pub play_is_narrow : (w : List Block) (p : Position) (ms : List Move) → IsPlay w p ms → widest (end_of w p ms).sentence ≤ widest p.sentence
play_is_narrow w p [] h = omega arith
play_is_narrow w p (m ∷ ms) h = omega (arith, (after_lighter w p m h.0).1, play_is_narrow w (after w p m) ms h.1)

pub few_choices : (ms : List Move) → choices ms ≤ length ms
few_choices [] = omega arith
few_choices (m ∷ ms) = one (is_choice m) (few_choices ms)
  where
    one : (b : Bool) → choices ms ≤ length ms → (if b then 1 else 0) + choices ms ≤ length (m ∷ ms)
    one true h = omega (arith, h)
    one false h = omega (arith, h)

-- From a position that isn't kept there is no losing choice.
not_losing : (w : List Block) (p : Position) (m : Move) → is_kept w p ≡ false → is_losing w p m ≡ false
not_losing w p (moves.You n) e = ap (λ (b : Bool). b && not (wins w (after w p (moves.You n)))) (wins_is_kept w p ∙ e)
not_losing w p (moves.Machine n) e = refl
not_losing w p moves.Flip e = refl
not_losing w p moves.Rewrite e = refl

pub none_to_lose : (w : List Block) (n : ℕ) (p : Position) (ms : List Move) → IsPlay w p ms → is_kept w p ≡ false → losing_from w n p ms ≡ None
none_to_lose w n p [] h e = refl
none_to_lose w n p (m ∷ ms) h e =
    ap (λ (b : Bool). if b then Some (n + 1) else losing_from w (n + choices (m ∷ [])) (after w p m) ms) (not_losing w p m e)
    ∙ none_to_lose w (n + choices (m ∷ [])) (after w p m) ms h.1 (lost_stays w p m h.0 e)

-- A move from a kept position that isn't a losing choice leads to a kept one.
still_kept : (w : List Block) (p : Position) (m : Move) → IsAllowed (turn_of w p) m → is_kept w p ≡ true → is_losing w p m ≡ false →
    is_kept w (after w p m) ≡ true
still_kept w p (moves.You n) h e l = sym (wins_is_kept w (after w p (moves.You n))) ∙ go (wins w p) (wins w (after w p (moves.You n))) (wins_is_kept w p ∙ e) l
  where
    go : (b c : Bool) → b ≡ true → (b && not c) ≡ false → c ≡ true
    go true true f g = refl
    go true false f g = sym g
    go false c f g = absurd (true≢false (sym f))
still_kept w p (moves.Machine n) h e l = kept_stays w p (moves.Machine n) h e refl
still_kept w p moves.Flip h e l = kept_stays w p moves.Flip h e refl
still_kept w p moves.Rewrite h e l = kept_stays w p moves.Rewrite h e refl

-- A play from a kept position whose end isn't kept has a losing choice.
pub some_to_lose : (w : List Block) (n : ℕ) (p : Position) (ms : List Move) → IsPlay w p ms → is_kept w p ≡ true →
    is_kept w (end_of w p ms) ≡ false → IsSome (losing_from w n p ms)
some_to_lose w n p [] h e l = absurd (true≢false (sym e ∙ l))
some_to_lose w n p (m ∷ ms) h e l = go (is_losing w p m) refl (λ k. some_to_lose w (n + choices (m ∷ [])) (after w p m) ms h.1 k l)
  where
    go : (b : Bool) → is_losing w p m ≡ b → (is_kept w (after w p m) ≡ true → IsSome (losing_from w (n + choices (m ∷ [])) (after w p m) ms)) →
        IsSome (losing_from w n p (m ∷ ms))
    go true k ih = subst (λ (b : Bool). IsSome (if b then Some (n + 1) else losing_from w (n + choices (m ∷ [])) (after w p m) ms)) (sym k) refl
    go false k ih = subst (λ (b : Bool). IsSome (if b then Some (n + 1) else losing_from w (n + choices (m ∷ [])) (after w p m) ms)) (sym k)
        (ih (still_kept w p m h.0 e k))
