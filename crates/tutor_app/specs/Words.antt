-- What the words of a command line ask for.
use Rattle.std.specs.Prelude.{◌≡◌, ◌≢◌, ◌==◌, ℕ, List, [], ◌∷◌, Bool, false, not, IsTrue}
use Rattle.tutor_app.specs.Check.{check_words}
use Rattle.tutor_app.specs.Table.{table_words}
use Rattle.tutor_app.specs.Play.{play_words}
use Rattle.tutor_app.specs.World.{world_words}
use Rattle.tutor_app.specs.declared.words.Command.{Command}
use Rattle.tutor_app.specs.declared.words.Command.TheVariants.{Check, Table, Play, World, Refused}

-- What may be asked for: each command, with the text of the shelf that it names; or nothing that the program knows.
pub data Request : Type 0 where
  to_check : Request
  to_tabulate : Request
  to_play : Request
  to_evaluate : List ℕ → Request
  nothing : Request

-- The word may be a name: it isn't empty, and doesn't begin with `-`.
abbrev pub is_name : List ℕ → Bool
is_name [] = false
is_name (byte ∷ bytes) = not (byte == 45)

-- The words ask for no command.
pub record AskForNothing (words : List (List ℕ)) : Type 0 where
  pub no_check : words ≢ check_words
  pub no_table : words ≢ table_words
  pub no_play : words ≢ play_words
  pub no_world : (name : List ℕ) → IsTrue (is_name name) → words ≢ world_words name

-- The words ask for this. Any words ask for one thing and no other.
abbrev pub AskFor : List (List ℕ) → Request → Type 0
AskFor words to_check = words ≡ check_words
AskFor words to_tabulate = words ≡ table_words
AskFor words to_play = words ≡ play_words
AskFor words (to_evaluate name) = (words ≡ world_words name) × IsTrue (is_name name)
AskFor words nothing = AskForNothing words

-- What the program takes a command line to ask for.
abbrev pub request_of : Command → Request
request_of Check = to_check
request_of Table = to_tabulate
request_of Play = to_play
request_of (World name) = to_evaluate name.now
request_of Refused = nothing

-- The request names no text of the shelf.
abbrev pub NamesNoText : Request → Type 0
NamesNoText asked = (name : List ℕ) → asked ≢ to_evaluate name
