-- Games in which the player's choices are given beforehand.
use Rattle.std.proofs.Common.{◌≡◌, ℕ, ◌+◌, ◌<◌, ◌≤◌, List, [], ◌∷◌, ◌++◌, length, get_or, take, drop, take-append-drop, refl, ap, ap₂, sym, ◌∙◌, subst, Bool, true, false, true≢false, arith, rules, inl, inr}
use Rattle.std.proofs.lemmas.List.{get_or_default, take_more, drop_more}
use Rattle.std.specs.Prelude.{◌↔◌, ◌⊎◌, ◌||◌, ◌==◌, nat_lt, Option, None, Some, IsSome, if◌then◌else◌}
use Rattle.worlds.specs.declared.block.Block.{Block}
use Rattle.hintikka_game.specs.declared.game.GameFault.{GameFault}
use Rattle.hintikka_game.specs.declared.game.GameFault.TheVariants as faults
use Rattle.hintikka_game.specs.declared.position.Position.{Position}
use Rattle.hintikka_game.specs.declared.replaying.PlayEnd.{PlayEnd}
use Rattle.hintikka_game.specs.declared.replaying.PlayEnd.TheVariants.{Won, Lost, Waiting}
use Rattle.hintikka_game.specs.declared.replaying.Played.{Played}
use Rattle.hintikka_game.specs.declared.turn.Turn.{Turn}
use Rattle.hintikka_game.specs.declared.turn.Turn.TheVariants as turns
use Rattle.hintikka_game.specs.declared.turn.Move.{Move}
use Rattle.hintikka_game.specs.declared.turn.Move.TheVariants as moves
use Rattle.hintikka_game.specs.Positions.{is_kept}
use Rattle.hintikka_game.specs.Weight.{weight}
use Rattle.hintikka_game.specs.Turns.{turn_of, is_settled}
use Rattle.hintikka_game.specs.Plays.{IsAllowed, IsPlay, end_of, chosen, forced, first_losing_of}
use Rattle.hintikka_game.specs.Games.{Course, standing, turn_in, with_moves, WentOn, IsSettled}
use Rattle.hintikka_game.specs.Refusals.{choice_fault}
use Rattle.hintikka_game.specs.Replays.{EndsAs, IsReplay, IsRefused, IsStopped, HasReplayCause}
use Rattle.hintikka_game.proofs.Playing.{end-append, after_lighter, never_won, play_is_short}
use Rattle.hintikka_game.proofs.Running.{lost_exactly}

chosen-append : (ms ns : List Move) → chosen (ms ++ ns) ≡ chosen ms ++ chosen ns
chosen-append [] ns = refl
chosen-append (moves.You n ∷ ms) ns = ap (λ cs. n ∷ cs) (chosen-append ms ns)
chosen-append (moves.Machine n ∷ ms) ns = chosen-append ms ns
chosen-append (moves.Flip ∷ ms) ns = chosen-append ms ns
chosen-append (moves.Rewrite ∷ ms) ns = chosen-append ms ns

no_choice : (ms : List Move) (t : Turn) → chosen (ms ++ forced t) ≡ chosen ms
no_choice ms t = chosen-append ms (forced t) ∙ go t
  where
    nil_right : (cs : List ℕ) → cs ++ [] ≡ cs
    nil_right [] = refl
    nil_right (c ∷ cs) = ap (λ ds. c ∷ ds) (nil_right cs)

    go : (t : Turn) → chosen ms ++ chosen (forced t) ≡ chosen ms
    go (turns.You k) = nil_right (chosen ms)
    go (turns.Over b) = nil_right (chosen ms)
    go (turns.Machine k) = nil_right (chosen ms)
    go turns.Flip = nil_right (chosen ms)
    go turns.Rewrite = nil_right (chosen ms)

-- A move that the player doesn't make leaves the choices as they are.
pub forced_chosen : (g h : Course) → h ≡ with_moves g (forced (turn_in g)) → chosen h.made ≡ chosen g.made
forced_chosen g h e = ap (λ (c : Course). chosen c.made) e ∙ no_choice g.made (turn_in g)

lighter_by : (g : Course) (m : Move) → IsAllowed (turn_in g) m → weight (standing (with_moves g (m ∷ []))).sentence < weight (standing g).sentence
lighter_by g m a = subst (λ (p : Position). weight p.sentence < weight (standing g).sentence) (sym (end-append g.world g.opening g.made m)) (after_lighter g.world (standing g) m a).0

-- It makes the position lighter.
pub forced_lighter : (g h : Course) → h ≡ with_moves g (forced (turn_in g)) → is_settled (turn_in g) ≡ false →
    weight (standing h).sentence < weight (standing g).sentence
forced_lighter g h e s = subst (λ (c : Course). weight (standing c).sentence < weight (standing g).sentence) (sym e) (go (turn_in g) refl s)
  where
    go : (t : Turn) → turn_in g ≡ t → is_settled t ≡ false → weight (standing (with_moves g (forced (turn_in g)))).sentence < weight (standing g).sentence
    go (turns.You k) f s = absurd (true≢false s)
    go (turns.Over b) f s = absurd (true≢false s)
    go (turns.Machine k) f s = subst (λ t. weight (standing (with_moves g (forced t))).sentence < weight (standing g).sentence) (sym f)
        (lighter_by g (moves.Machine k) (subst (λ t. IsAllowed t (moves.Machine k)) (sym f) refl))
    go turns.Flip f s = subst (λ t. weight (standing (with_moves g (forced t))).sentence < weight (standing g).sentence) (sym f)
        (lighter_by g moves.Flip (subst (λ t. IsAllowed t moves.Flip) (sym f) tt))
    go turns.Rewrite f s = subst (λ t. weight (standing (with_moves g (forced t))).sentence < weight (standing g).sentence) (sym f)
        (lighter_by g moves.Rewrite (subst (λ t. IsAllowed t moves.Rewrite) (sym f) tt))

-- One more choice was made.
pub chosen_one : (given : List ℕ) (i n : ℕ) (g h : Course) → i < length given → n ≡ get_or given i n → chosen g.made ≡ take i given →
    h ≡ with_moves g (moves.You n ∷ []) → chosen h.made ≡ take (i + 1) given
chosen_one given i n g h l e c f = ap (λ (c : Course). chosen c.made) f ∙ chosen-append g.made (moves.You n ∷ [])
    ∙ ap (λ cs. cs ++ n ∷ []) c ∙ ap (λ k. take i given ++ k ∷ []) e ∙ sym (take_more given i n l)

some_is : {x y : GameFault} → Some x ≡ Some y → x ≡ y
some_is e = cc

none_is : {y : GameFault} → None ≡ Some y → ⊥
none_is e = cc

refused_by : (t : Turn) (n : ℕ) (e : GameFault) → is_settled t ≡ true → choice_fault t n ≡ Some e → IsRefused t n e
refused_by t n e s f = search (rules, s, f)

stopped_by : (w : List Block) (p : Position) (given : List ℕ) (i n : ℕ) (e : GameFault) (g : Course) → i < length given → n ≡ get_or given i n →
    IsSettled w p (take i given) g → choice_fault (turn_in g) n ≡ Some e → IsStopped w p given e
stopped_by w p given i n e g l k s f = record {
  moves = g.made;
  refused = n;
  rest = drop (i + 1) given;
  play = subst (λ v. IsPlay v p g.made) s.world (subst (λ q. IsPlay g.world q g.made) s.opening s.play);
  used = sym (take-append-drop i given) ∙ ap₂ (λ cs ds. cs ++ ds) (sym s.choices) (drop_more given i n l ∙ ap (λ m. m ∷ drop (i + 1) given) (sym k));
  why = subst (λ v. IsRefused (turn_of v (end_of v p g.made)) n e) s.world
      (subst (λ q. IsRefused (turn_of g.world (end_of g.world q g.made)) n e) s.opening (refused_by (turn_in g) n e s.settled f));
}

fault_cases : (w : List Block) (p : Position) (given : List ℕ) (t : Turn) (n : ℕ) (e : GameFault) → is_settled t ≡ true → choice_fault t n ≡ Some e →
    IsStopped w p given e → HasReplayCause w p given e
fault_cases w p given (turns.Over b) n e s f x = subst (λ (d : GameFault). IsStopped w p given d → HasReplayCause w p given d) (some_is f) (λ y. y) x
fault_cases w p given (turns.Machine k) n e s f x = absurd (true≢false (sym s))
fault_cases w p given turns.Flip n e s f x = absurd (true≢false (sym s))
fault_cases w p given turns.Rewrite n e s f x = absurd (true≢false (sym s))
fault_cases w p given (turns.You k) n e s f x = go (n == 0 || nat_lt k n) f
  where
    go : (b : Bool) → (if b then Some (faults.NoSuchChoice k) else None) ≡ Some e → HasReplayCause w p given e
    go true g = subst (λ (d : GameFault). IsStopped w p given d → HasReplayCause w p given d) (some_is g) (λ y. y) x
    go false g = absurd (none_is g)

-- The cause of a choice that is refused.
pub stopped_at : (w : List Block) (p : Position) (given : List ℕ) (i : ℕ) (e : GameFault) (g : Course) → i < length given →
    IsSettled w p (take i given) g → (e ≡ faults.Memory) ⊎ (choice_fault (turn_in g) (get_or given i 0) ≡ Some e) → HasReplayCause w p given e
stopped_at w p given i e g l s (inl m) = subst (HasReplayCause w p given) (sym m) tt
stopped_at w p given i e g l s (inr f) = fault_cases w p given (turn_in g) (get_or given i 0) e s.settled f
    (stopped_by w p given i (get_or given i 0) e g l (get_or_default given i 0 (get_or given i 0) l) s f)

-- A settled game is a replay.
pub replayed : (w : List Block) (p : Position) (given : List ℕ) (g : Course) (played : Played) → IsSettled w p given g → played.moves ≡ g.made →
    EndsAs (turn_in g) played.end → played.first_losing ≡ first_losing_of g.world g.opening g.made → IsReplay w p given played
replayed w p given g played s m e f = search (rules, s, m, e, f)

pub replay_never_won : (w : List Block) (p : Position) (given : List ℕ) (played : Played) → IsReplay w p given played →
    is_kept w p ≡ false → played.end ≡ Won → ⊥
replay_never_won w p given played r k e = go (turn_of w (end_of w p played.moves)) refl (subst (EndsAs (turn_of w (end_of w p played.moves))) e r.ends)
  where
    go : (t : Turn) → turn_of w (end_of w p played.moves) ≡ t → EndsAs (turn_of w (end_of w p played.moves)) Won → ⊥
    go (turns.Over true) f x = never_won w p played.moves r.play k f
    go (turns.Over false) f x = subst (λ t. EndsAs t Won) f x
    go (turns.You n) f x = subst (λ t. EndsAs t Won) f x
    go (turns.Machine n) f x = subst (λ t. EndsAs t Won) f x
    go turns.Flip f x = subst (λ t. EndsAs t Won) f x
    go turns.Rewrite f x = subst (λ t. EndsAs t Won) f x

lost_turn : (t : Turn) (e : PlayEnd) → EndsAs t e → (t ≡ turns.Over false) ↔ (e ≡ Lost)
lost_turn (turns.Over true) Won h = search (rules, h)
lost_turn (turns.Over false) Lost h = (λ _. refl, λ _. refl)
lost_turn (turns.You k) (Waiting n) h = search (rules, h)
lost_turn t e h = search (rules, h)

pub replay_loses : (w : List Block) (p : Position) (given : List ℕ) (played : Played) → IsReplay w p given played →
    IsSome played.first_losing ↔ ((played.end ≡ Lost) × (is_kept w p ≡ true))
replay_loses w p given played r =
    let x = lost_exactly w p played.moves r.play in
    let l = lost_turn (turn_of w (end_of w p played.moves)) played.end r.ends in (
      λ i. let y = x.0 (subst (λ o. IsSome o) r.losing i) in (l.0 y.0, y.1),
      λ y. subst (λ o. IsSome o) (sym r.losing) (x.1 (l.1 y.0, y.1)),
    )

pub replay_is_short : (w : List Block) (p : Position) (given : List ℕ) (played : Played) → IsReplay w p given played → length played.moves ≤ weight p.sentence
replay_is_short w p given played r = omega (arith, play_is_short w p played.moves r.play)

-- One more choice was made, and then the moves that need none.
pub settled_next : (w : List Block) (p : Position) (given : List ℕ) (i : ℕ) (g k : Course) → i < length given → IsSettled w p (take i given) g →
    WentOn (with_moves g (moves.You (get_or given i 0) ∷ [])) k → is_settled (turn_in k) ≡ true → IsSettled w p (take (i + 1) given) k
settled_next w p given i g k l s t z = record {
  world = t.world ∙ s.world;
  opening = t.opening ∙ s.opening;
  choices = t.choices ∙ chosen_one given i (get_or given i 0) g _ l (get_or_default given i 0 (get_or given i 0) l) s.choices refl;
  play = t.play;
  settled = z;
}

pub final_never_won : (w : List Block) (p : Position) (given : List ℕ) (g : Course) (e : PlayEnd) → IsSettled w p given g → EndsAs (turn_in g) e →
    is_kept w p ≡ false → e ≡ Won → ⊥
final_never_won w p given g e s h k o = replay_never_won w p given (record { moves = g.made; end = e; first_losing = first_losing_of g.world g.opening g.made })
    (replayed w p given g _ s refl h refl) k o

pub final_loses : (w : List Block) (p : Position) (given : List ℕ) (g : Course) (e : PlayEnd) (lost : Option ℕ) → IsSettled w p given g → EndsAs (turn_in g) e →
    lost ≡ first_losing_of g.world g.opening g.made → IsSome lost ↔ ((e ≡ Lost) × (is_kept w p ≡ true))
final_loses w p given g e lost s h f = replay_loses w p given (record { moves = g.made; end = e; first_losing = lost }) (replayed w p given g _ s refl h f)
