-- When a game refuses a call.
use Rattle.std.specs.Prelude.{◌≡◌, ℕ, ◌||◌, ◌==◌, nat_lt, List, Option, None, Some, Err, if◌then◌else◌, ⊤}
use Rattle.fol_core.specs.declared.sent.Sent.{Sent}
use Rattle.worlds.specs.declared.block.Block.{Block}
use Rattle.world_truth.specs.Answers.{truth_of}
use Rattle.hintikka_game.specs.declared.game.GameFault.{GameFault}
use Rattle.hintikka_game.specs.declared.game.GameFault.TheVariants as faults
use Rattle.hintikka_game.specs.declared.turn.Turn.{Turn}
use Rattle.hintikka_game.specs.declared.turn.Turn.TheVariants as turns

-- Why the player can't choose n at a turn: the game is over; it isn't the player's turn; there is no such alternative.
abbrev pub choice_fault : Turn → ℕ → Option GameFault
choice_fault (turns.Over won) n = Some faults.Over
choice_fault (turns.Machine k) n = Some faults.NotYourTurn
choice_fault turns.Flip n = Some faults.NotYourTurn
choice_fault turns.Rewrite n = Some faults.NotYourTurn
choice_fault (turns.You k) n = if n == 0 || nat_lt k n then Some (faults.NoSuchChoice k) else None

-- Why the game can't go on by itself at a turn: it is over, or the player must choose.
abbrev pub step_fault : Turn → Option GameFault
step_fault (turns.Over won) = Some faults.Over
step_fault (turns.You k) = Some faults.NotMyTurn
step_fault (turns.Machine k) = None
step_fault turns.Flip = None
step_fault turns.Rewrite = None

-- Why a game about the sentence can't begin: the sentence has no value in the world. Want of memory may come at any time.
abbrev pub HasStartCause : List Block → Sent → GameFault → Type 0
HasStartCause w s (faults.Truth f) = truth_of w s ≡ Err f
HasStartCause w s faults.Memory = ⊤
HasStartCause w s faults.NotYourTurn = ⊥
HasStartCause w s (faults.NoSuchChoice k) = ⊥
HasStartCause w s faults.Over = ⊥
HasStartCause w s faults.NotMyTurn = ⊥
