-- A game goes on by one move, and keeps what it keeps.
use Rattle.std.proofs.Common.{◌≡◌, ℕ, ◌+◌, ◌≤◌, List, [], ◌∷◌, ◌++◌, length, refl, ap, ap₂, sym, ◌∙◌, subst, Bool, true, false, true≢false, arith, rules}
use Rattle.std.specs.Prelude.{◌↔◌, ◌&&◌, not, Option, None, IsSome, is_some, Ok}
use Rattle.fol_core.specs.declared.sent.Sent.{Sent}
use Rattle.fol_core.specs.Size.{within_limits}
use Rattle.worlds.specs.declared.block.Block.{Block}
use Rattle.hintikka_game.specs.declared.position.Position.{Position}
use Rattle.hintikka_game.specs.declared.turn.Turn.{Turn}
use Rattle.hintikka_game.specs.declared.turn.Turn.TheVariants as turns
use Rattle.hintikka_game.specs.declared.turn.Move.{Move}
use Rattle.hintikka_game.specs.Positions.{nexts, is_kept}
use Rattle.hintikka_game.specs.Weight.{weight}
use Rattle.hintikka_game.specs.Width.{widest}
use Rattle.hintikka_game.specs.Wins.{wins}
use Rattle.hintikka_game.specs.Turns.{turn_of}
use Rattle.hintikka_game.specs.Plays.{taken, after, IsAllowed, IsPlay, end_of, is_choice, choices, is_losing, losing_from, or_losing, where_lost, first_losing_of}
use Rattle.hintikka_game.specs.Games.{Course, opened, standing, turn_in, with_moves, IsRunning}
use Rattle.hintikka_game.proofs.Bounds.{light, narrow}
use Rattle.hintikka_game.proofs.Winning.{wins_is_kept}
use Rattle.hintikka_game.proofs.Turning.{over_is_kept, allowed_within}
use Rattle.hintikka_game.proofs.Playing.{end-append, play-append, choices-append, losing-append, play_is_short, play_is_narrow, few_choices, after_lighter, none_to_lose, some_to_lose, never_won}

-- The game before any move.
pub begun : (w : List Block) (s : Sent) (c : Bool) → within_limits s ≡ Ok tt →
    IsRunning (record { world = w; opening = opened s c; made = [] }) (opened s c) (turn_of w (opened s c)) None 0
begun w s c h = record { play = tt; here_is = refl; next_is = refl; lost_is = refl; chosen_is = refl; light = light s h; narrow = narrow s h }

pub wide_enough : (s : Sent) → within_limits s ≡ Ok tt → widest s ≤ 4294967295
wide_enough s h = omega (arith, narrow s h)

-- Where the opening commitment is false, the game isn't over and won.
pub never_over_won : (w : List Block) (p : Position) (ms : List Move) (t : Turn) → IsPlay w p ms → t ≡ turn_of w (end_of w p ms) →
    is_kept w p ≡ false → t ≡ turns.Over true → ⊥
never_over_won w p ms t h e k o = never_won w p ms h k (sym e ∙ o)

pub is_short : (w : List Block) (p : Position) (ms : List Move) → IsPlay w p ms → length ms ≤ weight p.sentence
is_short w p ms h = omega (arith, play_is_short w p ms h)

-- The move that was made is a losing choice exactly where the values say so.
pub losing_by_value : (w : List Block) (p q : Position) (m : Move) → q ≡ after w p m → is_losing w p m ≡ (is_choice m && (is_kept w p && not (is_kept w q)))
losing_by_value w p q m e = ap₂ (λ b c. is_choice m && (b && not c)) (wins_is_kept w p) (ap (wins w) (sym e) ∙ wins_is_kept w q)

or_alike : (w : List Block) (o o' : Option ℕ) (p p' : Position) (k k' : ℕ) (m : Move) → o ≡ o' → p ≡ p' → k ≡ k' →
    or_losing o (is_losing w p m) k ≡ or_losing o' (is_losing w p' m) k'
or_alike w o o' p p' k k' m a b c = ap₂ (λ x y. or_losing x (is_losing w y m) k) a b ∙ ap (λ z. or_losing o' (is_losing w p' m) z) c

pub went_on : (g : Course) (here next : Position) (turn turn' : Turn) (lost : Option ℕ) (chosen : ℕ) (m : Move) → IsRunning g here turn lost chosen →
    IsAllowed (turn_in g) m → next ≡ after g.world here m → turn' ≡ turn_of g.world next →
    IsRunning (with_moves g (m ∷ [])) next turn' (or_losing lost (is_losing g.world here m) (chosen + 1)) (chosen + choices (m ∷ []))
went_on g here next turn turn' lost chosen m r a e t =
    let stands : next ≡ end_of g.world g.opening (g.made ++ m ∷ []) = e ∙ ap (λ p. after g.world p m) r.here_is ∙ sym (end-append g.world g.opening g.made m) in
    record {
      play = play-append g.world g.opening g.made m r.play a;
      here_is = stands;
      next_is = t ∙ ap (turn_of g.world) stands;
      lost_is = or_alike g.world lost _ here _ (chosen + 1) (0 + choices g.made + 1) m r.lost_is r.here_is (omega (arith, r.chosen_is))
          ∙ sym (losing-append g.world 0 g.opening g.made m);
      chosen_is = ap (λ k. k + choices (m ∷ [])) r.chosen_is ∙ sym (choices-append g.made m);
      light = r.light;
      narrow = r.narrow;
    }

-- The same, from what was computed.
pub keeps_on : (g : Course) (here next : Position) (turn turn' : Turn) (lost lost' : Option ℕ) (chosen chosen' : ℕ) (m : Move) (ms : List Move) (b : Bool) →
    IsRunning g here turn lost chosen → IsAllowed (turn_in g) m → next ≡ after g.world here m → turn' ≡ turn_of g.world next → ms ≡ g.made ++ m ∷ [] →
    b ≡ (is_choice m && (is_kept g.world here && not (is_kept g.world next))) → lost' ≡ or_losing lost b (chosen + 1) → chosen' ≡ chosen + choices (m ∷ []) →
    IsRunning (record { world = g.world; opening = g.opening; made = ms }) next turn' lost' chosen'
keeps_on g here next turn turn' lost lost' chosen chosen' m ms b r a e t s l o k =
    let same : b ≡ is_losing g.world here m = l ∙ sym (losing_by_value g.world here next m e) in
    let found : lost' ≡ or_losing lost (is_losing g.world here m) (chosen + 1) = o ∙ ap (λ (x : Bool). or_losing lost x (chosen + 1)) same in
    subst (λ (ns : List Move). IsRunning (record { world = g.world; opening = g.opening; made = ns }) next turn' lost' chosen') (sym s)
    (subst (λ (x : Option ℕ). IsRunning (with_moves g (m ∷ [])) next turn' x chosen') (sym found)
    (subst (λ (j : ℕ). IsRunning (with_moves g (m ∷ [])) next turn' (or_losing lost (is_losing g.world here m) (chosen + 1)) j) (sym k)
    (went_on g here next turn turn' lost chosen m r a e t)))

-- The next position is narrow, and a choice more can be counted.
pub narrow_next : (g : Course) (here next : Position) (turn : Turn) (lost : Option ℕ) (chosen : ℕ) (m : Move) → IsRunning g here turn lost chosen →
    IsAllowed (turn_in g) m → next ≡ after g.world here m → widest next.sentence ≤ 4294967295
narrow_next g here next turn lost chosen m r a e =
    let one = after_lighter g.world (standing g) m a in
    let w : widest (after g.world here m).sentence ≤ widest (standing g).sentence = subst (λ p. widest (after g.world p m).sentence ≤ widest (standing g).sentence) (sym r.here_is) one.1 in
    subst (λ q. widest q.sentence ≤ 4294967295) (sym e) (omega (arith, w, play_is_narrow g.world g.opening g.made r.play, r.narrow))

pub countable : (g : Course) (here : Position) (turn : Turn) (lost : Option ℕ) (chosen : ℕ) → IsRunning g here turn lost chosen → chosen ≤ 2000
countable g here turn lost chosen r = omega (arith, r.chosen_is, few_choices g.made, play_is_short g.world g.opening g.made r.play, r.light)

-- The move takes an alternative of the position in which the game stands.
pub takes_one : (g : Course) (here : Position) (turn : Turn) (lost : Option ℕ) (chosen : ℕ) (m : Move) → IsRunning g here turn lost chosen →
    IsAllowed (turn_in g) m → (1 ≤ taken m) × (taken m ≤ length (nexts g.world here))
takes_one g here turn lost chosen m r a = subst (λ p. (1 ≤ taken m) × (taken m ≤ length (nexts g.world p))) (sym r.here_is) (allowed_within g.world (standing g) m a)

-- There is a first losing choice exactly in a game that is over and lost and whose opening commitment was the value.
pub lost_exactly : (w : List Block) (p : Position) (ms : List Move) → IsPlay w p ms →
    IsSome (first_losing_of w p ms) ↔ ((turn_of w (end_of w p ms) ≡ turns.Over false) × (is_kept w p ≡ true))
lost_exactly w p ms h = go (turn_of w (end_of w p ms)) refl (is_kept w p) refl
  where
    go : (t : Turn) → turn_of w (end_of w p ms) ≡ t → (b : Bool) → is_kept w p ≡ b →
        IsSome (where_lost (turn_of w (end_of w p ms)) (losing_from w 0 p ms)) ↔ ((turn_of w (end_of w p ms) ≡ turns.Over false) × (is_kept w p ≡ true))
    go (turns.Over false) e true k = (λ _. (e, k), λ _. subst (λ t. IsSome (where_lost t (losing_from w 0 p ms))) (sym e) (some_to_lose w 0 p ms h k (over_is_kept w (end_of w p ms) false e)))
    go (turns.Over false) e false k = (
      λ i. let j : IsSome (losing_from w 0 p ms) = subst (λ t. IsSome (where_lost t (losing_from w 0 p ms))) e i in
          absurd (true≢false (sym j ∙ ap is_some (none_to_lose w 0 p ms h k))),
      λ z. absurd (true≢false (sym z.1 ∙ k)),
    )
    go (turns.Over true) e b k = (λ i. absurd (true≢false (sym (subst (λ t. IsSome (where_lost t (losing_from w 0 p ms))) e i))), λ z. search (rules, e, z.0))
    go (turns.You n) e b k = (λ i. absurd (true≢false (sym (subst (λ t. IsSome (where_lost t (losing_from w 0 p ms))) e i))), λ z. search (rules, e, z.0))
    go (turns.Machine n) e b k = (λ i. absurd (true≢false (sym (subst (λ t. IsSome (where_lost t (losing_from w 0 p ms))) e i))), λ z. search (rules, e, z.0))
    go turns.Flip e b k = (λ i. absurd (true≢false (sym (subst (λ t. IsSome (where_lost t (losing_from w 0 p ms))) e i))), λ z. search (rules, e, z.0))
    go turns.Rewrite e b k = (λ i. absurd (true≢false (sym (subst (λ t. IsSome (where_lost t (losing_from w 0 p ms))) e i))), λ z. search (rules, e, z.0))
