-- What callers see of a game, and what it keeps.
use Rattle.std.specs.Prelude.{◌≡◌, ℕ, ◌≤◌, Bool, true, List, [], ◌++◌, Option}
use Rattle.fol_core.specs.declared.sent.Sent.{Sent}
use Rattle.worlds.specs.declared.block.Block.{Block}
use Rattle.hintikka_game.specs.declared.position.Position.{Position}
use Rattle.hintikka_game.specs.declared.turn.Turn.{Turn}
use Rattle.hintikka_game.specs.declared.turn.Move.{Move}
use Rattle.hintikka_game.specs.Turns.{turn_of, is_settled}
use Rattle.hintikka_game.specs.Weight.{weight}
use Rattle.hintikka_game.specs.Width.{widest}
use Rattle.hintikka_game.specs.Plays.{IsPlay, end_of, chosen, choices, losing_from}

-- A game: the world, the opening position, and the moves that were made.
pub record Course : Type 0 where
  pub world : List Block
  pub opening : Position
  pub made : List Move

-- The opening position of a closed sentence.
abbrev pub opened : Sent → Bool → Position
opened s commitment = record { sentence = s; places = []; commitment = commitment }

-- The position in which a game stands.
abbrev pub standing : Course → Position
standing g = end_of g.world g.opening g.made

-- What comes next in a game.
abbrev pub turn_in : Course → Turn
turn_in g = turn_of g.world (standing g)

-- The game once these moves are made.
abbrev pub with_moves : Course → List Move → Course
with_moves g ms = record { world = g.world; opening = g.opening; made = g.made ++ ms }

-- What a game keeps beside its course: the position in which it stands and what comes next there, the first losing choice
-- so far, and the number of choices. Its moves are a play from an opening that is light and narrow.
pub record IsRunning (g : Course) (here : Position) (next : Turn) (lost : Option ℕ) (chosen : ℕ) : Type 0 where
  pub play : IsPlay g.world g.opening g.made
  pub here_is : here ≡ standing g
  pub next_is : next ≡ turn_in g
  pub lost_is : lost ≡ losing_from g.world 0 g.opening g.made
  pub chosen_is : chosen ≡ choices g.made
  pub light : weight g.opening.sentence ≤ 2000
  pub narrow : widest g.opening.sentence ≤ 401

-- The game went on from the first to the second by moves of which none is the player's, and its moves are a play.
pub record WentOn (old new : Course) : Type 0 where
  pub world : new.world ≡ old.world
  pub opening : new.opening ≡ old.opening
  pub choices : chosen new.made ≡ chosen old.made
  pub play : IsPlay new.world new.opening new.made

-- A game about a position in which the player made just these choices, and which can't go on without another one.
pub record IsSettled (w : List Block) (p : Position) (given : List ℕ) (g : Course) : Type 0 where
  pub world : g.world ≡ w
  pub opening : g.opening ≡ p
  pub choices : chosen g.made ≡ given
  pub play : IsPlay g.world g.opening g.made
  pub settled : is_settled (turn_in g) ≡ true
