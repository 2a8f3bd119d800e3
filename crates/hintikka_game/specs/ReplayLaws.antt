-- What holds of replays: given the choices, there is one at most, or one refusal at most, and never both.
use Rattle.std.specs.Prelude.{◌≡◌, ℕ, List}
use Rattle.worlds.specs.declared.block.Block.{Block}
use Rattle.hintikka_game.specs.declared.game.GameFault.{GameFault}
use Rattle.hintikka_game.specs.declared.position.Position.{Position}
use Rattle.hintikka_game.specs.declared.replaying.Played.{Played}
use Rattle.hintikka_game.specs.Replays.{IsReplay, IsStopped}

-- The choices are played in one way at most.
abbrev pub OneReplay : Type 0
OneReplay = (w : List Block) (p : Position) (given : List ℕ) (a b : Played) → IsReplay w p given a → IsReplay w p given b → a ≡ b

-- The choices are refused in one way at most.
abbrev pub OneRefusal : Type 0
OneRefusal = (w : List Block) (p : Position) (given : List ℕ) (e f : GameFault) → IsStopped w p given e → IsStopped w p given f → e ≡ f

-- Choices that are refused aren't played.
abbrev pub NeverBoth : Type 0
NeverBoth = (w : List Block) (p : Position) (given : List ℕ) (a : Played) (e : GameFault) → IsReplay w p given a → IsStopped w p given e → ⊥
