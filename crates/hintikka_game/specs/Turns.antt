-- What comes next in a position.
use Rattle.std.specs.Prelude.{ℕ, ◌+◌, Bool, true, false, List, [], ◌∷◌, length, if◌then◌else◌}
use Rattle.worlds.specs.declared.block.Block.{Block}
use Rattle.hintikka_game.specs.declared.position.Position.{Position}
use Rattle.hintikka_game.specs.declared.turn.Turn.{Turn}
use Rattle.hintikka_game.specs.declared.turn.Turn.TheVariants as turns
use Rattle.hintikka_game.specs.Positions.{Side, Player, Computer, Negation, Conditional, Value, side, nexts, is_kept}
use Rattle.hintikka_game.specs.Wins.{wins}

-- The number of the first position of the list that the player doesn't win, where its first one has number n; 1 where the
-- player wins each.
abbrev pub first_lost : List Block → ℕ → List Position → ℕ
first_lost w n [] = 1
first_lost w n (p ∷ ps) = if wins w p then first_lost w (n + 1) ps else n

-- The machine's choice: the least alternative that the player doesn't win, else alternative 1.
abbrev pub machine_choice : List Block → List Position → ℕ
machine_choice w ps = first_lost w 1 ps

-- What comes next where it is this side's move among these alternatives. Where there is none, the side that must choose
-- loses; where the value decides, the player wins if the commitment is the value.
abbrev pub turn_by : List Block → Position → Side → List Position → Turn
turn_by w p Player [] = turns.Over false
turn_by w p Player (q ∷ qs) = turns.You (length (q ∷ qs))
turn_by w p Computer [] = turns.Over true
turn_by w p Computer (q ∷ qs) = turns.Machine (machine_choice w (q ∷ qs))
turn_by w p Negation qs = turns.Flip
turn_by w p Conditional qs = turns.Rewrite
turn_by w p Value qs = turns.Over (is_kept w p)

-- What comes next in a position.
abbrev pub turn_of : List Block → Position → Turn
turn_of w p = turn_by w p (side p) (nexts w p)

-- No move is made without the player: the player must choose, or the game is over.
abbrev pub is_settled : Turn → Bool
is_settled (turns.You k) = true
is_settled (turns.Over won) = true
is_settled (turns.Machine k) = false
is_settled turns.Flip = false
is_settled turns.Rewrite = false
