-- Games in which the player's choices are given beforehand.
use Rattle.std.specs.Prelude.{◌≡◌, ℕ, ◌<◌, ◌⊎◌, true, false, List, ◌∷◌, ◌++◌, Err, ⊤}
use Rattle.worlds.specs.declared.block.Block.{Block}
use Rattle.world_truth.specs.Answers.{truth_of}
use Rattle.hintikka_game.specs.declared.game.GameFault.{GameFault}
use Rattle.hintikka_game.specs.declared.game.GameFault.TheVariants as faults
use Rattle.hintikka_game.specs.declared.position.Position.{Position}
use Rattle.hintikka_game.specs.declared.replaying.PlayEnd.{PlayEnd}
use Rattle.hintikka_game.specs.declared.replaying.PlayEnd.TheVariants.{Won, Lost, Waiting}
use Rattle.hintikka_game.specs.declared.replaying.Played.{Played}
use Rattle.hintikka_game.specs.declared.turn.Turn.{Turn}
use Rattle.hintikka_game.specs.declared.turn.Turn.TheVariants as turns
use Rattle.hintikka_game.specs.declared.turn.Move.{Move}
use Rattle.hintikka_game.specs.Turns.{turn_of}
use Rattle.hintikka_game.specs.Plays.{IsPlay, end_of, chosen, first_losing_of}

-- How a play ends that stands at this turn: won or lost where it is over, waiting where the player must choose.
abbrev pub EndsAs : Turn → PlayEnd → Type 0
EndsAs (turns.Over true) Won = ⊤
EndsAs (turns.Over false) Lost = ⊤
EndsAs (turns.You k) (Waiting n) = n ≡ k
EndsAs t e = ⊥

-- A replay: a play from the position on in which the player made just these choices, all moves that need no choice were
-- made, and the end and the first losing choice are told.
pub record IsReplay (w : List Block) (p : Position) (given : List ℕ) (played : Played) : Type 0 where
  pub play : IsPlay w p played.moves
  pub used : chosen played.moves ≡ given
  pub ends : EndsAs (turn_of w (end_of w p played.moves)) played.end
  pub losing : played.first_losing ≡ first_losing_of w p played.moves

-- The choice n is refused at this turn: the game is over, or there is no alternative of that number.
abbrev pub IsRefused : Turn → ℕ → GameFault → Type 0
IsRefused (turns.Over won) n faults.Over = ⊤
IsRefused (turns.You k) n (faults.NoSuchChoice j) = (j ≡ k) × ((n ≡ 0) ⊎ (k < n))
IsRefused t n e = ⊥

-- A play in which the player made the first choices leads to where the next one is refused.
pub record IsStopped (w : List Block) (p : Position) (given : List ℕ) (e : GameFault) : Type 0 where
  pub moves : List Move
  pub refused : ℕ
  pub rest : List ℕ
  pub play : IsPlay w p moves
  pub used : given ≡ chosen moves ++ refused ∷ rest
  pub why : IsRefused (turn_of w (end_of w p moves)) refused e

-- The cause of each refusal of a replay. Want of memory may come at any time.
abbrev pub HasReplayCause : List Block → Position → List ℕ → GameFault → Type 0
HasReplayCause w p given (faults.Truth f) = truth_of w p.sentence ≡ Err f
HasReplayCause w p given faults.Over = IsStopped w p given faults.Over
HasReplayCause w p given (faults.NoSuchChoice k) = IsStopped w p given (faults.NoSuchChoice k)
HasReplayCause w p given faults.NotYourTurn = ⊥
HasReplayCause w p given faults.NotMyTurn = ⊥
HasReplayCause w p given faults.Memory = ⊤
