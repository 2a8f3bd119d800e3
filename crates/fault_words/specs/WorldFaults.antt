-- What is printed of the faults of worlds, plays and games.
use Rattle.std.specs.Prelude.{ℕ, List, codes}
use Rattle.world_truth.specs.declared.answer.TruthFault.{TruthFault}
use Rattle.world_truth.specs.declared.answer.TruthFault.TheVariants as truth
use Rattle.world_text.specs.declared.reading.WorldFault.{WorldFault}
use Rattle.world_text.specs.declared.reading.WorldFault.TheVariants as world
use Rattle.hintikka_game.specs.declared.game.GameFault.{GameFault}
use Rattle.hintikka_game.specs.declared.game.GameFault.TheVariants as game
use Rattle.play_text.specs.declared.play.PlayFault.{PlayFault}
use Rattle.play_text.specs.declared.play.PlayFault.TheVariants as play
use Rattle.fault_words.specs.Numbered.{with_number}

-- Why a sentence has no value in a world, by its name.
abbrev pub truth_fault_text : TruthFault → List ℕ
truth_fault_text truth.NotBlocks = codes "NotBlocks"
truth_fault_text truth.NoSuchName = codes "NoSuchName"
truth_fault_text truth.TooLarge = codes "TooLarge"

-- The fault of a world text by its name.
abbrev pub world_fault_text : WorldFault → List ℕ
world_fault_text world.Header = codes "Header"
world_fault_text world.Form = codes "Form"
world_fault_text world.SquareTaken = codes "SquareTaken"
world_fault_text world.NameTaken = codes "NameTaken"
world_fault_text world.OffBoard = codes "OffBoard"
world_fault_text world.Memory = codes "Memory"

-- The fault of a play text by its name. A refused sentence is told without its refusal.
abbrev pub play_fault_text : PlayFault → List ℕ
play_fault_text play.Header = codes "Header"
play_fault_text play.Form = codes "Form"
play_fault_text play.Sentence = codes "Sentence"
play_fault_text (play.World f) = world_fault_text f
play_fault_text play.Memory = codes "Memory"

-- Why a game or a choice is refused, by its name.
abbrev pub game_fault_text : GameFault → List ℕ
game_fault_text game.NotYourTurn = codes "NotYourTurn"
game_fault_text (game.NoSuchChoice n) = with_number (codes "NoSuchChoice") n
game_fault_text game.Over = codes "Over"
game_fault_text game.NotMyTurn = codes "NotMyTurn"
game_fault_text (game.Truth f) = truth_fault_text f
game_fault_text game.Memory = codes "Memory"
