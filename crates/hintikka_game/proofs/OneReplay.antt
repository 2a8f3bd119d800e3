-- A play is fixed by the player's choices, as far as these go.
use Rattle.std.proofs.Common.{◌≡◌, ℕ, ◌+◌, ◌<◌, ◌≤◌, true, false, List, [], ◌∷◌, ◌++◌, refl, ap, ap₂, sym, subst, ◌∙◌, arith, inl, inr, append-nil}
use Rattle.std.specs.Prelude.{◌⊎◌}
use Rattle.worlds.specs.declared.block.Block.{Block}
use Rattle.hintikka_game.specs.declared.game.GameFault.{GameFault}
use Rattle.hintikka_game.specs.declared.game.GameFault.TheVariants as faults
use Rattle.hintikka_game.specs.declared.position.Position.{Position}
use Rattle.hintikka_game.specs.declared.replaying.PlayEnd.{PlayEnd}
use Rattle.hintikka_game.specs.declared.replaying.PlayEnd.TheVariants.{Won, Lost, Waiting}
use Rattle.hintikka_game.specs.declared.replaying.Played.{Played}
use Rattle.hintikka_game.specs.declared.turn.Turn.{Turn}
use Rattle.hintikka_game.specs.declared.turn.Turn.TheVariants as turns
use Rattle.hintikka_game.specs.declared.turn.Move.{Move}
use Rattle.hintikka_game.specs.declared.turn.Move.TheVariants as moves
use Rattle.hintikka_game.specs.Turns.{turn_of}
use Rattle.hintikka_game.specs.Plays.{IsAllowed, IsPlay, after, end_of, chosen, first_losing_of}
use Rattle.hintikka_game.specs.Replays.{EndsAs, IsReplay, IsRefused}
use Rattle.hintikka_game.specs.ReplayLaws.{OneReplay, OneRefusal, NeverBoth}

-- one move, and the choices behind it
abbrev Same : Move → Move → List ℕ → List ℕ → Type 0
Same m n cs ds = (m ≡ n) × (cs ≡ ds)

-- two moves that a turn allows are one, where the same choices are left
same_move : (t : Turn) (m n : Move) (ms ns : List Move) (r s : List ℕ) → IsAllowed t m → IsAllowed t n → chosen (m ∷ ms) ++ r ≡ chosen (n ∷ ns) ++ s → Same m n (chosen ms ++ r) (chosen ns ++ s)
same_move (turns.You k) (moves.You i) (moves.You j) ms ns r s a b e = (let h : i ≡ j = cc in ap moves.You h, let h : chosen ms ++ r ≡ chosen ns ++ s = cc in h)
same_move (turns.You k) (moves.You i) (moves.Machine j) ms ns r s a b e = absurd b
same_move (turns.You k) (moves.You i) moves.Flip ms ns r s a b e = absurd b
same_move (turns.You k) (moves.You i) moves.Rewrite ms ns r s a b e = absurd b
same_move (turns.You k) (moves.Machine i) n ms ns r s a b e = absurd a
same_move (turns.You k) moves.Flip n ms ns r s a b e = absurd a
same_move (turns.You k) moves.Rewrite n ms ns r s a b e = absurd a
same_move (turns.Machine k) (moves.Machine i) (moves.Machine j) ms ns r s a b e = (ap moves.Machine (a ∙ sym b), e)
same_move (turns.Machine k) (moves.Machine i) (moves.You j) ms ns r s a b e = absurd b
same_move (turns.Machine k) (moves.Machine i) moves.Flip ms ns r s a b e = absurd b
same_move (turns.Machine k) (moves.Machine i) moves.Rewrite ms ns r s a b e = absurd b
same_move (turns.Machine k) (moves.You i) n ms ns r s a b e = absurd a
same_move (turns.Machine k) moves.Flip n ms ns r s a b e = absurd a
same_move (turns.Machine k) moves.Rewrite n ms ns r s a b e = absurd a
same_move turns.Flip moves.Flip moves.Flip ms ns r s a b e = (refl, e)
same_move turns.Flip moves.Flip (moves.You j) ms ns r s a b e = absurd b
same_move turns.Flip moves.Flip (moves.Machine j) ms ns r s a b e = absurd b
same_move turns.Flip moves.Flip moves.Rewrite ms ns r s a b e = absurd b
same_move turns.Flip (moves.You i) n ms ns r s a b e = absurd a
same_move turns.Flip (moves.Machine i) n ms ns r s a b e = absurd a
same_move turns.Flip moves.Rewrite n ms ns r s a b e = absurd a
same_move turns.Rewrite moves.Rewrite moves.Rewrite ms ns r s a b e = (refl, e)
same_move turns.Rewrite moves.Rewrite (moves.You j) ms ns r s a b e = absurd b
same_move turns.Rewrite moves.Rewrite (moves.Machine j) ms ns r s a b e = absurd b
same_move turns.Rewrite moves.Rewrite moves.Flip ms ns r s a b e = absurd b
same_move turns.Rewrite (moves.You i) n ms ns r s a b e = absurd a
same_move turns.Rewrite (moves.Machine i) n ms ns r s a b e = absurd a
same_move turns.Rewrite moves.Flip n ms ns r s a b e = absurd a
same_move (turns.Over v) m n ms ns r s a b e = absurd a

-- what stops a play at a turn, with the choices that are left: none, where it is told as it stands; or one that is refused
abbrev StopsAt : Turn → List ℕ → Type 0
StopsAt t [] = (e : PlayEnd) × EndsAs t e
StopsAt t (n ∷ rest) = (e : GameFault) × IsRefused t n e

-- a choice can't both be refused and allowed
outside : (n i k : ℕ) → n ≡ i → (1 ≤ i) × (i ≤ k) → (n ≡ 0) ⊎ (k < n) → ⊥
outside n i k q a (inl z) = absurd (omega (arith, q, a.0, z))
outside n i k q a (inr l) = absurd (omega (arith, q, a.1, l))

-- where a play stops, no move goes on with the same choices
no_further : (t : Turn) (r : List ℕ) (m : Move) (ms : List Move) (s : List ℕ) → StopsAt t r → IsAllowed t m → r ≡ chosen (m ∷ ms) ++ s → ⊥
no_further (turns.Over v) r m ms s h a e = a
no_further (turns.You k) [] (moves.You i) ms s h a e = cc
no_further (turns.You k) (n ∷ rest) (moves.You i) ms s (faults.NoSuchChoice j, h) a e = let q : n ≡ i = cc in outside n i k q a h.1
no_further (turns.You k) (n ∷ rest) (moves.You i) ms s (faults.Over, h) a e = h
no_further (turns.You k) (n ∷ rest) (moves.You i) ms s (faults.NotYourTurn, h) a e = h
no_further (turns.You k) (n ∷ rest) (moves.You i) ms s (faults.NotMyTurn, h) a e = h
no_further (turns.You k) (n ∷ rest) (moves.You i) ms s (faults.Truth f, h) a e = h
no_further (turns.You k) (n ∷ rest) (moves.You i) ms s (faults.Memory, h) a e = h
no_further (turns.You k) r (moves.Machine i) ms s h a e = a
no_further (turns.You k) r moves.Flip ms s h a e = a
no_further (turns.You k) r moves.Rewrite ms s h a e = a
no_further (turns.Machine k) [] m ms s (Won, h) a e = h
no_further (turns.Machine k) [] m ms s (Lost, h) a e = h
no_further (turns.Machine k) [] m ms s (Waiting n, h) a e = h
no_further (turns.Machine k) (n ∷ rest) m ms s h a e = h.1
no_further turns.Flip [] m ms s (Won, h) a e = h
no_further turns.Flip [] m ms s (Lost, h) a e = h
no_further turns.Flip [] m ms s (Waiting n, h) a e = h
no_further turns.Flip (n ∷ rest) m ms s h a e = h.1
no_further turns.Rewrite [] m ms s (Won, h) a e = h
no_further turns.Rewrite [] m ms s (Lost, h) a e = h
no_further turns.Rewrite [] m ms s (Waiting n, h) a e = h
no_further turns.Rewrite (n ∷ rest) m ms s h a e = h.1

-- two plays that stop with the choices that are left are one, and the same choices are left
pub record IsSamePlay (ms ns : List Move) (r s : List ℕ) : Type 0 where
  pub moves_are : ms ≡ ns
  pub left_is : r ≡ s

pub same_play : (w : List Block) (p : Position) (ms ns : List Move) (r s : List ℕ) → IsPlay w p ms → IsPlay w p ns → StopsAt (turn_of w (end_of w p ms)) r → StopsAt (turn_of w (end_of w p ns)) s →
    chosen ms ++ r ≡ chosen ns ++ s → IsSamePlay ms ns r s
same_play w p [] [] r s h k a b e = record { moves_are = refl; left_is = e }
same_play w p [] (n ∷ ns) r s h k a b e = absurd (no_further (turn_of w p) r n ns s a k.0 e)
same_play w p (m ∷ ms) [] r s h k a b e = absurd (no_further (turn_of w p) s m ms r b h.0 (sym e))
same_play w p (m ∷ ms) (n ∷ ns) r s h k a b e =
    let q : Same m n (chosen ms ++ r) (chosen ns ++ s) = same_move (turn_of w p) m n ms ns r s h.0 k.0 e in
    let back : after w p n ≡ after w p m = ap (after w p) (sym q.0) in
    let rest : IsSamePlay ms ns r s =
    same_play w (after w p m) ms ns r s h.1 (subst (λ x. IsPlay w x ns) back k.1) a (subst (λ x. StopsAt (turn_of w (end_of w x ns)) s) back b) q.1 in
    record { moves_are = ap₂ ◌∷◌ q.0 rest.moves_are; left_is = rest.left_is }

-- how a play ends at a turn is one thing
one_end : (t : Turn) (e f : PlayEnd) → EndsAs t e → EndsAs t f → e ≡ f
one_end (turns.Over true) Won Won h k = refl
one_end (turns.Over true) Won Lost h k = absurd k
one_end (turns.Over true) Won (Waiting n) h k = absurd k
one_end (turns.Over true) Lost f h k = absurd h
one_end (turns.Over true) (Waiting n) f h k = absurd h
one_end (turns.Over false) Lost Lost h k = refl
one_end (turns.Over false) Lost Won h k = absurd k
one_end (turns.Over false) Lost (Waiting n) h k = absurd k
one_end (turns.Over false) Won f h k = absurd h
one_end (turns.Over false) (Waiting n) f h k = absurd h
one_end (turns.You j) (Waiting m) (Waiting n) h k = ap Waiting (h ∙ sym k)
one_end (turns.You j) (Waiting m) Won h k = absurd k
one_end (turns.You j) (Waiting m) Lost h k = absurd k
one_end (turns.You j) Won f h k = absurd h
one_end (turns.You j) Lost f h k = absurd h
one_end (turns.Machine j) Won f h k = absurd h
one_end (turns.Machine j) Lost f h k = absurd h
one_end (turns.Machine j) (Waiting n) f h k = absurd h
one_end turns.Flip Won f h k = absurd h
one_end turns.Flip Lost f h k = absurd h
one_end turns.Flip (Waiting n) f h k = absurd h
one_end turns.Rewrite Won f h k = absurd h
one_end turns.Rewrite Lost f h k = absurd h
one_end turns.Rewrite (Waiting n) f h k = absurd h

-- why a choice is refused at a turn is one thing
one_reason : (t : Turn) (n : ℕ) (e f : GameFault) → IsRefused t n e → IsRefused t n f → e ≡ f
one_reason (turns.Over v) n faults.Over f h k = go f k
  where
    go : (f : GameFault) → IsRefused (turns.Over v) n f → faults.Over ≡ f
    go faults.Over k = refl
    go faults.NotYourTurn k = absurd k
    go (faults.NoSuchChoice i) k = absurd k
    go faults.NotMyTurn k = absurd k
    go (faults.Truth i) k = absurd k
    go faults.Memory k = absurd k
one_reason (turns.Over v) n faults.NotYourTurn f h k = absurd h
one_reason (turns.Over v) n (faults.NoSuchChoice i) f h k = absurd h
one_reason (turns.Over v) n faults.NotMyTurn f h k = absurd h
one_reason (turns.Over v) n (faults.Truth i) f h k = absurd h
one_reason (turns.Over v) n faults.Memory f h k = absurd h
one_reason (turns.You j) n (faults.NoSuchChoice a) f h k = go f k
  where
    go : (f : GameFault) → IsRefused (turns.You j) n f → faults.NoSuchChoice a ≡ f
    go (faults.NoSuchChoice b) k = ap faults.NoSuchChoice (h.0 ∙ sym k.0)
    go faults.Over k = absurd k
    go faults.NotYourTurn k = absurd k
    go faults.NotMyTurn k = absurd k
    go (faults.Truth i) k = absurd k
    go faults.Memory k = absurd k
one_reason (turns.You j) n faults.Over f h k = absurd h
one_reason (turns.You j) n faults.NotYourTurn f h k = absurd h
one_reason (turns.You j) n faults.NotMyTurn f h k = absurd h
one_reason (turns.You j) n (faults.Truth i) f h k = absurd h
one_reason (turns.You j) n faults.Memory f h k = absurd h
one_reason (turns.Machine j) n e f h k = absurd h
one_reason turns.Flip n e f h k = absurd h
one_reason turns.Rewrite n e f h k = absurd h

-- what was played is its moves, its end and its first losing choice
same_played : (a b : Played) → a.moves ≡ b.moves → a.end ≡ b.end → a.first_losing ≡ b.first_losing → a ≡ b
same_played a b m e l =
    ap (λ ms. let x : Played = record { moves = ms; end = a.end; first_losing = a.first_losing } in x) m
    ∙ ap (λ f. let x : Played = record { moves = b.moves; end = f; first_losing = a.first_losing } in x) e
    ∙ ap (λ f. let x : Played = record { moves = b.moves; end = b.end; first_losing = f } in x) l

-- choices that are played are used up
used_up : (w : List Block) (p : Position) (given : List ℕ) (a : Played) → IsReplay w p given a → chosen a.moves ++ [] ≡ given
used_up w p given a h = append-nil (chosen a.moves) ∙ h.used

pub one_replay : OneReplay
one_replay w p given a b h k =
    let s : IsSamePlay a.moves b.moves [] [] =
    same_play w p a.moves b.moves [] [] h.play k.play (a.end, h.ends) (b.end, k.ends) (used_up w p given a h ∙ sym (used_up w p given b k)) in
    let e : a.end ≡ b.end = one_end (turn_of w (end_of w p b.moves)) a.end b.end (subst (λ ms. EndsAs (turn_of w (end_of w p ms)) a.end) s.moves_are h.ends) k.ends in
    let l : a.first_losing ≡ b.first_losing = h.losing ∙ ap (first_losing_of w p) s.moves_are ∙ sym k.losing in
    same_played a b s.moves_are e l

pub one_refusal : OneRefusal
one_refusal w p given e f h k =
    let s : IsSamePlay h.moves k.moves (h.refused ∷ h.rest) (k.refused ∷ k.rest) =
    same_play w p h.moves k.moves (h.refused ∷ h.rest) (k.refused ∷ k.rest) h.play k.play (e, h.why) (f, k.why) (sym h.used ∙ k.used) in
    let n : h.refused ≡ k.refused = (let q = s.left_is in cc) in
    one_reason (turn_of w (end_of w p k.moves)) k.refused e f
    (subst (λ ms. IsRefused (turn_of w (end_of w p ms)) k.refused e) s.moves_are (subst (λ x. IsRefused (turn_of w (end_of w p h.moves)) x e) n h.why)) k.why

pub never_both : NeverBoth
never_both w p given a e h k =
    let s : IsSamePlay a.moves k.moves [] (k.refused ∷ k.rest) =
    same_play w p a.moves k.moves [] (k.refused ∷ k.rest) h.play k.play (a.end, h.ends) (e, k.why) (used_up w p given a h ∙ k.used) in
    let q = s.left_is in cc
