-- What a turn says of the value, and where an allowed move leads.
use Rattle.std.proofs.Common.{◌≡◌, ℕ, zero, suc, ◌+◌, ◌-◌, ◌<◌, ◌≤◌, List, [], ◌∷◌, length, get_or, map, refl, ap, sym, ◌∙◌, subst, Bool, true, false, true≢false, arith, rules}
use Rattle.std.specs.Prelude.{◌||◌, ◌&&◌, if◌then◌else◌}
use Rattle.std.specs.List.{list_any, list_all}
use Rattle.fol_core.specs.Subst.{itself}
use Rattle.fol_core.specs.declared.sent.Sent.{Sent, out-Sent}
use Rattle.fol_core.specs.declared.sent.Sent.TheOpen.{Sent-F}
use Rattle.fol_core.specs.declared.sent.Sent.TheOpen as f
use Rattle.worlds.specs.declared.block.Block.{Block}
use Rattle.hintikka_game.specs.declared.position.Position.{Position}
use Rattle.hintikka_game.specs.declared.turn.Turn.TheVariants as turns
use Rattle.hintikka_game.specs.declared.turn.Move.{Move}
use Rattle.hintikka_game.specs.declared.turn.Move.TheVariants as moves
use Rattle.hintikka_game.specs.Positions.{Side, Player, Computer, Negation, Conditional, Value, side, side_at, nexts, nexts_at, is_kept}
use Rattle.hintikka_game.specs.Wins.{wins, wins_by}
use Rattle.hintikka_game.specs.Turns.{first_lost, turn_by, turn_of}
use Rattle.hintikka_game.specs.Plays.{taken, after, is_choice, IsAllowed}
use Rattle.hintikka_game.proofs.Values.{kept_by_turns}
use Rattle.hintikka_game.proofs.Winning.{wins_is_kept}

-- Where nobody chooses there is one next position.
abbrev is_forced : Side → Bool
is_forced Player = false
is_forced Computer = false
is_forced Negation = true
is_forced Conditional = true
is_forced Value = false

one_next : (w : List Block) (p : Position) (c : Bool) (y : Sent-F Sent) → is_forced (side_at c y) ≡ true → length (nexts_at w p y) ≡ 1
one_next w p c (f.Atom q ts) e = absurd (true≢false (sym e))
one_next w p c (f.Eq t u) e = absurd (true≢false (sym e))
one_next w p c f.Bottom e = absurd (true≢false (sym e))
one_next w p c (f.Not q) e = refl
one_next w p true (f.And qs) e = absurd (true≢false (sym e))
one_next w p false (f.And qs) e = absurd (true≢false (sym e))
one_next w p true (f.Or qs) e = absurd (true≢false (sym e))
one_next w p false (f.Or qs) e = absurd (true≢false (sym e))
one_next w p c (f.If q r) e = refl
one_next w p c (f.Iff q r) e = refl
one_next w p true (f.All x q) e = absurd (true≢false (sym e))
one_next w p false (f.All x q) e = absurd (true≢false (sym e))
one_next w p true (f.Ex x q) e = absurd (true≢false (sym e))
one_next w p false (f.Ex x q) e = absurd (true≢false (sym e))

-- What stands at a side whose move it is among these positions: no positions but one where nobody chooses.
abbrev Fits : Side → List Position → Type 0
Fits s ps = is_forced s ≡ true → length ps ≡ 1

fits : (w : List Block) (p : Position) → Fits (side p) (nexts w p)
fits w p = one_next w p p.commitment (out-Sent p.sentence)

-- The value of a position whose turn is over.
over_by : (w : List Block) (p : Position) (s : Side) (ps : List Position) (b : Bool) → turn_by w p s ps ≡ turns.Over b →
    wins_by s (map (is_kept w) ps) (is_kept w p) ≡ b
over_by w p Player [] b e = search (rules, e)
over_by w p Player (q ∷ qs) b e = search (rules, e)
over_by w p Computer [] b e = search (rules, e)
over_by w p Computer (q ∷ qs) b e = search (rules, e)
over_by w p Negation ps b e = search (rules, e)
over_by w p Conditional ps b e = search (rules, e)
over_by w p Value ps b e = search (rules, e)

-- A position that is over is won exactly where the commitment is the value.
pub over_is_kept : (w : List Block) (p : Position) (b : Bool) → turn_of w p ≡ turns.Over b → is_kept w p ≡ b
over_is_kept w p b e = kept_by_turns w p ∙ over_by w p (side p) (nexts w p) b e

-- A choice by a test keeps what both sides have.
if_both : (P : ℕ → Type 0) (b : Bool) (x y : ℕ) → P x → P y → P (if b then x else y)
if_both P true x y h k = h
if_both P false x y h k = k

-- The first position that isn't won, counted from n, is one of the list.
first_from : (w : List Block) (n : ℕ) (q : Position) (ps : List Position) → 1 ≤ n →
    (1 ≤ first_lost w n (q ∷ ps)) × (first_lost w n (q ∷ ps) + 1 ≤ n + length (q ∷ ps))
first_from w n q [] h = if_both (λ k. (1 ≤ k) × (k + 1 ≤ n + 1)) (wins w q) 1 n (omega arith, omega (arith, h)) (h, omega arith)
first_from w n q (r ∷ ps) h =
    let i = first_from w (n + 1) r ps (omega arith) in
    if_both (λ k. (1 ≤ k) × (k + 1 ≤ n + length (q ∷ r ∷ ps))) (wins w q) (first_lost w (n + 1) (r ∷ ps)) n
    (i.0, omega (arith, i.1)) (h, omega arith)

not_over : (b : Bool) (m : Move) → IsAllowed (turns.Over b) m → ⊥
not_over b (moves.You n) h = h
not_over b (moves.Machine n) h = h
not_over b moves.Flip h = h
not_over b moves.Rewrite h = h

-- An allowed move takes one of the alternatives.
within_by : (w : List Block) (p : Position) (s : Side) (ps : List Position) (m : Move) → Fits s ps → IsAllowed (turn_by w p s ps) m →
    (1 ≤ taken m) × (taken m ≤ length ps)
within_by w p Player [] m g h = absurd (not_over false m h)
within_by w p Player (q ∷ qs) (moves.You n) g h = h
within_by w p Player (q ∷ qs) (moves.Machine n) g h = absurd h
within_by w p Player (q ∷ qs) moves.Flip g h = absurd h
within_by w p Player (q ∷ qs) moves.Rewrite g h = absurd h
within_by w p Computer [] m g h = absurd (not_over true m h)
within_by w p Computer (q ∷ qs) (moves.You n) g h = absurd h
within_by w p Computer (q ∷ qs) (moves.Machine n) g h =
    let i = first_from w 1 q qs (omega arith) in (omega (arith, h, i.0), omega (arith, h, i.1))
within_by w p Computer (q ∷ qs) moves.Flip g h = absurd h
within_by w p Computer (q ∷ qs) moves.Rewrite g h = absurd h
within_by w p Negation ps (moves.You n) g h = absurd h
within_by w p Negation ps (moves.Machine n) g h = absurd h
within_by w p Negation ps moves.Flip g h = (omega arith, omega (arith, g refl))
within_by w p Negation ps moves.Rewrite g h = absurd h
within_by w p Conditional ps (moves.You n) g h = absurd h
within_by w p Conditional ps (moves.Machine n) g h = absurd h
within_by w p Conditional ps moves.Flip g h = absurd h
within_by w p Conditional ps moves.Rewrite g h = (omega arith, omega (arith, g refl))
within_by w p Value ps m g h = absurd (not_over (is_kept w p) m h)

pub allowed_within : (w : List Block) (p : Position) (m : Move) → IsAllowed (turn_of w p) m → (1 ≤ taken m) × (taken m ≤ length (nexts w p))
allowed_within w p m h = within_by w p (side p) (nexts w p) m (fits w p) h

or_left : (b c : Bool) → (b || c) ≡ false → b ≡ false
or_left false c e = refl
or_left true c e = e

or_right : (b c : Bool) → (b || c) ≡ false → c ≡ false
or_right false c e = e
or_right true c e = absurd (true≢false e)

and_left : (b c : Bool) → (b && c) ≡ true → b ≡ true
and_left true c e = refl
and_left false c e = e

and_right : (b c : Bool) → (b && c) ≡ true → c ≡ true
and_right true c e = e
and_right false c e = absurd (true≢false (sym e))

and_one : (b : Bool) → (b && true) ≡ false → b ≡ false
and_one true e = e
and_one false e = refl

-- Where none is kept, none of the list is; where all are kept, each of the list is.
none_at : (w : List Block) (ps : List Position) (i : ℕ) (d : Position) → list_any itself (map (is_kept w) ps) ≡ false → i < length ps →
    is_kept w (get_or ps i d) ≡ false
none_at w [] i d e l = absurd (omega (arith, l))
none_at w (p ∷ ps) zero d e l = or_left (is_kept w p) _ e
none_at w (p ∷ ps) (suc i) d e l = none_at w ps i d (or_right (is_kept w p) _ e) (omega (arith, l))

all_at : (w : List Block) (ps : List Position) (i : ℕ) (d : Position) → list_all itself (map (is_kept w) ps) ≡ true → i < length ps →
    is_kept w (get_or ps i d) ≡ true
all_at w [] i d e l = absurd (omega (arith, l))
all_at w (p ∷ ps) zero d e l = and_left (is_kept w p) _ e
all_at w (p ∷ ps) (suc i) d e l = all_at w ps i d (and_right (is_kept w p) _ e) (omega (arith, l))

-- Where not all are kept, the first position that isn't won isn't kept.
abbrev IsFound : List Block → ℕ → List Position → Position → ℕ → Type 0
IsFound w n ps d k = (n ≤ k) × (is_kept w (get_or ps (k - n) d) ≡ false)

shifted : (w : List Block) (n : ℕ) (p : Position) (ps : List Position) (d : Position) (k : ℕ) → IsFound w (n + 1) ps d k → IsFound w n (p ∷ ps) d k
shifted w n p ps d k h =
    let e : k - n ≡ suc (k - (n + 1)) = omega (arith, h.0) in
    (omega (arith, h.0), ap (λ i. is_kept w (get_or (p ∷ ps) i d)) e ∙ h.1)

first_is_lost : (w : List Block) (n : ℕ) (ps : List Position) (d : Position) → list_all itself (map (is_kept w) ps) ≡ false →
    IsFound w n ps d (first_lost w n ps)
first_is_lost w n [] d e = absurd (true≢false e)
first_is_lost w n (p ∷ ps) d e = go (is_kept w p) refl (first_is_lost w (n + 1) ps d)
  where
    go : (b : Bool) → is_kept w p ≡ b → (list_all itself (map (is_kept w) ps) ≡ false → IsFound w (n + 1) ps d (first_lost w (n + 1) ps)) →
        IsFound w n (p ∷ ps) d (first_lost w n (p ∷ ps))
    go true k ih =
        let rest : list_all itself (map (is_kept w) ps) ≡ false = sym (ap (λ (b : Bool). b && list_all itself (map (is_kept w) ps)) k) ∙ e in
        subst (λ (b : Bool). IsFound w n (p ∷ ps) d (if b then first_lost w (n + 1) ps else n)) (sym (wins_is_kept w p ∙ k))
        (shifted w n p ps d (first_lost w (n + 1) ps) (ih rest))
    go false k ih =
        let here : n - n ≡ 0 = omega arith in
        subst (λ (b : Bool). IsFound w n (p ∷ ps) d (if b then first_lost w (n + 1) ps else n)) (sym (wins_is_kept w p ∙ k))
        (omega arith, ap (λ i. is_kept w (get_or (p ∷ ps) i d)) here ∙ k)

-- The one position where nobody chooses.
forced_lost : (w : List Block) (ps : List Position) (d : Position) → length ps ≡ 1 → list_all itself (map (is_kept w) ps) ≡ false →
    is_kept w (get_or ps 0 d) ≡ false
forced_lost w [] d l e = absurd (true≢false e)
forced_lost w (p ∷ []) d l e = and_one (is_kept w p) e
forced_lost w (p ∷ q ∷ ps) d l e = absurd (omega (arith, l))

-- After any allowed move from a position that isn't kept, the next one isn't kept.
lost_by : (w : List Block) (p : Position) (s : Side) (ps : List Position) (m : Move) → Fits s ps → IsAllowed (turn_by w p s ps) m →
    wins_by s (map (is_kept w) ps) (is_kept w p) ≡ false → is_kept w (get_or ps (taken m - 1) p) ≡ false
lost_by w p Player [] m g h e = absurd (not_over false m h)
lost_by w p Player (q ∷ qs) (moves.You n) g h e = none_at w (q ∷ qs) (n - 1) p e (omega (arith, h.0, h.1))
lost_by w p Player (q ∷ qs) (moves.Machine n) g h e = absurd h
lost_by w p Player (q ∷ qs) moves.Flip g h e = absurd h
lost_by w p Player (q ∷ qs) moves.Rewrite g h e = absurd h
lost_by w p Computer [] m g h e = absurd (not_over true m h)
lost_by w p Computer (q ∷ qs) (moves.You n) g h e = absurd h
lost_by w p Computer (q ∷ qs) (moves.Machine n) g h e =
    ap (λ k. is_kept w (get_or (q ∷ qs) (k - 1) p)) h ∙ (first_is_lost w 1 (q ∷ qs) p e).1
lost_by w p Computer (q ∷ qs) moves.Flip g h e = absurd h
lost_by w p Computer (q ∷ qs) moves.Rewrite g h e = absurd h
lost_by w p Negation ps (moves.You n) g h e = absurd h
lost_by w p Negation ps (moves.Machine n) g h e = absurd h
lost_by w p Negation ps moves.Flip g h e = forced_lost w ps p (g refl) e
lost_by w p Negation ps moves.Rewrite g h e = absurd h
lost_by w p Conditional ps (moves.You n) g h e = absurd h
lost_by w p Conditional ps (moves.Machine n) g h e = absurd h
lost_by w p Conditional ps moves.Flip g h e = absurd h
lost_by w p Conditional ps moves.Rewrite g h e = forced_lost w ps p (g refl) e
lost_by w p Value ps m g h e = absurd (not_over (is_kept w p) m h)

pub lost_stays : (w : List Block) (p : Position) (m : Move) → IsAllowed (turn_of w p) m → is_kept w p ≡ false → is_kept w (after w p m) ≡ false
lost_stays w p m h e = lost_by w p (side p) (nexts w p) m (fits w p) h (sym (kept_by_turns w p) ∙ e)

-- After a move from a kept position that the player doesn't choose, the next one is kept.
kept_by : (w : List Block) (p : Position) (s : Side) (ps : List Position) (m : Move) → Fits s ps → IsAllowed (turn_by w p s ps) m →
    wins_by s (map (is_kept w) ps) (is_kept w p) ≡ true → is_choice m ≡ false → is_kept w (get_or ps (taken m - 1) p) ≡ true
kept_by w p Player [] m g h e c = absurd (not_over false m h)
kept_by w p Player (q ∷ qs) (moves.You n) g h e c = absurd (true≢false c)
kept_by w p Player (q ∷ qs) (moves.Machine n) g h e c = absurd h
kept_by w p Player (q ∷ qs) moves.Flip g h e c = absurd h
kept_by w p Player (q ∷ qs) moves.Rewrite g h e c = absurd h
kept_by w p Computer [] m g h e c = absurd (not_over true m h)
kept_by w p Computer (q ∷ qs) (moves.You n) g h e c = absurd h
kept_by w p Computer (q ∷ qs) (moves.Machine n) g h e c =
    let i = within_by w p Computer (q ∷ qs) (moves.Machine n) g h in all_at w (q ∷ qs) (n - 1) p e (omega (arith, i.0, i.1))
kept_by w p Computer (q ∷ qs) moves.Flip g h e c = absurd h
kept_by w p Computer (q ∷ qs) moves.Rewrite g h e c = absurd h
kept_by w p Negation ps (moves.You n) g h e c = absurd h
kept_by w p Negation ps (moves.Machine n) g h e c = absurd h
kept_by w p Negation ps moves.Flip g h e c = all_at w ps 0 p e (omega (arith, g refl))
kept_by w p Negation ps moves.Rewrite g h e c = absurd h
kept_by w p Conditional ps (moves.You n) g h e c = absurd h
kept_by w p Conditional ps (moves.Machine n) g h e c = absurd h
kept_by w p Conditional ps moves.Flip g h e c = absurd h
kept_by w p Conditional ps moves.Rewrite g h e c = all_at w ps 0 p e (omega (arith, g refl))
kept_by w p Value ps m g h e c = absurd (not_over (is_kept w p) m h)

pub kept_stays : (w : List Block) (p : Position) (m : Move) → IsAllowed (turn_of w p) m → is_kept w p ≡ true → is_choice m ≡ false →
    is_kept w (after w p m) ≡ true
kept_stays w p m h e c = kept_by w p (side p) (nexts w p) m (fits w p) h (sym (kept_by_turns w p) ∙ e) c
