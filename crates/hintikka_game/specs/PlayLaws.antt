-- What holds of every play, and of every position.
use Rattle.std.specs.Prelude.{◌≡◌, ◌↔◌, ◌≤◌, true, false, List, length, IsSome}
use Rattle.worlds.specs.declared.block.Block.{Block}
use Rattle.hintikka_game.specs.declared.position.Position.{Position}
use Rattle.hintikka_game.specs.declared.turn.Move.{Move}
use Rattle.hintikka_game.specs.declared.turn.Turn.TheVariants.{Over}
use Rattle.hintikka_game.specs.Plays.{IsPlay, end_of, first_losing_of}
use Rattle.hintikka_game.specs.Positions.{is_kept}
use Rattle.hintikka_game.specs.Turns.{turn_of}
use Rattle.hintikka_game.specs.Weight.{weight}
use Rattle.hintikka_game.specs.Wins.{wins, wins_by_turns}

-- From a position whose commitment isn't the value, no play is won.
abbrev pub NeverWon : Type 0
NeverWon = (w : List Block) (p : Position) (ms : List Move) → IsPlay w p ms → is_kept w p ≡ false → turn_of w (end_of w p ms) ≡ Over true → ⊥

-- A play has no more moves than the weight of its opening sentence.
abbrev pub FewMoves : Type 0
FewMoves = (w : List Block) (p : Position) (ms : List Move) → IsPlay w p ms → length ms ≤ weight p.sentence

-- The player wins a position exactly where its commitment is the value.
abbrev pub WinsExactly : Type 0
WinsExactly = (w : List Block) (p : Position) → wins w p ≡ is_kept w p

-- Which positions the player wins meets the recursion on positions.
abbrev pub WinsByTurns : Type 0
WinsByTurns = (w : List Block) (p : Position) → wins w p ≡ wins_by_turns w p

-- There is a first losing choice exactly in a play that is lost from an opening whose commitment is the value.
abbrev pub LosesExactly : Type 0
LosesExactly = (w : List Block) (p : Position) (ms : List Move) → IsPlay w p ms → IsSome (first_losing_of w p ms) ↔ ((turn_of w (end_of w p ms) ≡ Over false) × (is_kept w p ≡ true))
