-- Plays: lists of moves from an opening position.
use Rattle.std.specs.Prelude.{◌≡◌, ℕ, ◌+◌, ◌-◌, ◌≤◌, Bool, true, false, not, ◌&&◌, List, [], ◌∷◌, get_or, Option, None, Some, if◌then◌else◌, ⊤}
use Rattle.worlds.specs.declared.block.Block.{Block}
use Rattle.hintikka_game.specs.declared.position.Position.{Position}
use Rattle.hintikka_game.specs.declared.turn.Turn.{Turn}
use Rattle.hintikka_game.specs.declared.turn.Turn.TheVariants as turns
use Rattle.hintikka_game.specs.declared.turn.Move.{Move}
use Rattle.hintikka_game.specs.declared.turn.Move.TheVariants as moves
use Rattle.hintikka_game.specs.Positions.{nexts}
use Rattle.hintikka_game.specs.Wins.{wins}
use Rattle.hintikka_game.specs.Turns.{turn_of}

-- The number of the alternative that a move takes.
abbrev pub taken : Move → ℕ
taken (moves.You n) = n
taken (moves.Machine n) = n
taken moves.Flip = 1
taken moves.Rewrite = 1

-- The position after a move: the alternative of that number, counted from 1.
abbrev pub after : List Block → Position → Move → Position
after w p m = get_or (nexts w p) (taken m - 1) p

-- The move is one that the position's turn allows: the player's choice is one of the alternatives, and the machine's is the
-- one that it takes.
abbrev pub IsAllowed : Turn → Move → Type 0
IsAllowed (turns.You k) (moves.You n) = (1 ≤ n) × (n ≤ k)
IsAllowed (turns.Machine k) (moves.Machine n) = n ≡ k
IsAllowed turns.Flip moves.Flip = ⊤
IsAllowed turns.Rewrite moves.Rewrite = ⊤
IsAllowed t m = ⊥

-- The move that is made without the player, where there is one.
abbrev pub forced : Turn → List Move
forced (turns.You k) = []
forced (turns.Over won) = []
forced (turns.Machine k) = moves.Machine k ∷ []
forced turns.Flip = moves.Flip ∷ []
forced turns.Rewrite = moves.Rewrite ∷ []

-- The moves are a play from the position on: each of them is allowed where it is made.
abbrev pub IsPlay : List Block → Position → List Move → Type 0
IsPlay w p [] = ⊤
IsPlay w p (m ∷ ms) = IsAllowed (turn_of w p) m × IsPlay w (after w p m) ms

-- The position in which the moves end.
abbrev pub end_of : List Block → Position → List Move → Position
end_of w p [] = p
end_of w p (m ∷ ms) = end_of w (after w p m) ms

-- The move is a choice of the player.
abbrev pub is_choice : Move → Bool
is_choice (moves.You n) = true
is_choice (moves.Machine n) = false
is_choice moves.Flip = false
is_choice moves.Rewrite = false

-- How many of the moves are choices of the player.
abbrev pub choices : List Move → ℕ
choices [] = 0
choices (m ∷ ms) = (if is_choice m then 1 else 0) + choices ms

-- The player's choices among the moves, in their order.
abbrev pub chosen : List Move → List ℕ
chosen [] = []
chosen (moves.You n ∷ ms) = n ∷ chosen ms
chosen (moves.Machine n ∷ ms) = chosen ms
chosen (moves.Flip ∷ ms) = chosen ms
chosen (moves.Rewrite ∷ ms) = chosen ms

-- A losing choice of the player: the position before it wins, and the one after it doesn't.
abbrev pub is_losing : List Block → Position → Move → Bool
is_losing w p m = is_choice m && (wins w p && not (wins w (after w p m)))

-- The number of the first losing choice among the choices of the player, of which n were made before these moves.
abbrev pub losing_from : List Block → ℕ → Position → List Move → Option ℕ
losing_from w n p [] = None
losing_from w n p (m ∷ ms) = if is_losing w p m then Some (n + 1) else losing_from w (n + choices (m ∷ [])) (after w p m) ms

-- The first losing choice once one more move is made, which is a losing choice or isn't; as a choice it has this number.
abbrev pub or_losing : Option ℕ → Bool → ℕ → Option ℕ
or_losing (Some i) losing n = Some i
or_losing None losing n = if losing then Some n else None

-- Only of a game that is over and lost is there a losing choice to be named.
abbrev pub where_lost : Turn → Option ℕ → Option ℕ
where_lost (turns.Over false) found = found
where_lost t found = None

-- The first losing choice of a game that is over and lost.
abbrev pub first_losing_of : List Block → Position → List Move → Option ℕ
first_losing_of w p ms = where_lost (turn_of w (end_of w p ms)) (losing_from w 0 p ms)
