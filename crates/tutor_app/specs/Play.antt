-- The command `play`: the game that the input describes is played with the choices that it gives.
use Rattle.std.specs.Prelude.{◌≡◌, ℕ, Bool, List, [], ◌∷◌, ◌++◌, Option, Some, None, Ok, Err, codes}
use Rattle.std.specs.List.{flat_map}
use Rattle.world_truth.specs.declared.answer.TruthFault.{TruthFault}
use Rattle.world_truth.specs.Answers.{truth_of}
use Rattle.hintikka_game.specs.declared.game.GameFault.{GameFault}
use Rattle.hintikka_game.specs.declared.replaying.PlayEnd.{PlayEnd}
use Rattle.hintikka_game.specs.declared.replaying.PlayEnd.TheVariants.{Won, Lost, Waiting}
use Rattle.hintikka_game.specs.declared.replaying.Played.{Played}
use Rattle.hintikka_game.specs.declared.turn.Move.{Move}
use Rattle.hintikka_game.specs.declared.turn.Move.TheVariants as moves
use Rattle.hintikka_game.specs.Games.{opened}
use Rattle.hintikka_game.specs.Replays.{IsReplay, IsStopped}
use Rattle.play_text.specs.declared.play.Play.{Play}
use Rattle.play_text.specs.declared.play.PlayFault.{PlayFault}
use Rattle.play_text.specs.PlayText.{SpellsPlay}
use Rattle.play_text.specs.PlayFaults.{IsFirstPlayFault}
use Rattle.fault_words.specs.Numbered.{with_number}
use Rattle.fault_words.specs.WorldFaults.{game_fault_text, play_fault_text, truth_fault_text}
use Rattle.tutor_app.specs.Report.{unreadable_reply}
use Rattle.tutor_app.specs.declared.tool.Reply.{Reply}

-- the words that ask for it
abbrev pub play_words : List (List ℕ)
play_words = codes "play" ∷ []

-- A move, with the alternative that was taken.
abbrev pub move_text : Move → List ℕ
move_text (moves.You n) = with_number (codes "you") n
move_text (moves.Machine n) = with_number (codes "machine") n
move_text moves.Flip = codes "flip"
move_text moves.Rewrite = codes "rewrite"

-- The end of a play, with the number of alternatives where the player must choose.
abbrev pub end_text : PlayEnd → List ℕ
end_text Won = codes "won"
end_text Lost = codes "lost"
end_text (Waiting n) = with_number (codes "waiting") n

-- A line with the first losing choice, where there is one.
abbrev pub losing_line : Option ℕ → List ℕ
losing_line None = []
losing_line (Some n) = with_number (codes "first losing choice") n ++ 10 ∷ []

-- A line for each move.
abbrev pub moves_text : List Move → List ℕ
moves_text ms = flat_map (λ m. move_text m ++ 10 ∷ []) ms

-- A line for each move, a line for the end, and one for the first losing choice, where there is one.
abbrev pub played_text : Played → List ℕ
played_text a = moves_text a.moves ++ (end_text a.end ++ 10 ∷ []) ++ losing_line a.first_losing

-- the reply with what was played
abbrev pub played_reply : Played → Reply
played_reply a = record { code = 0; text = played_text a }

-- the reply that names a refusal
abbrev pub refused_reply : List ℕ → Reply
refused_reply name = record { code = 3; text = codes "refused " ++ name ++ 10 ∷ [] }

-- The reply to a play: its sentence has no value in its world, and the refusal is named; or else one of its choices is
-- refused; or it was played.
pub data IsPlayReply : Play → Reply → Type 0 where
  no_value : (play : Play) (f : TruthFault) → truth_of play.world play.sentence ≡ Err f → IsPlayReply play (refused_reply (truth_fault_text f))
  no_choice : (play : Play) (v : Bool) (e : GameFault) → truth_of play.world play.sentence ≡ Ok v → IsStopped play.world (opened play.sentence play.commitment) play.choices e → IsPlayReply play (refused_reply (game_fault_text e))
  was_played : (play : Play) (v : Bool) (a : Played) → truth_of play.world play.sentence ≡ Ok v → IsReplay play.world (opened play.sentence play.commitment) play.choices a → IsPlayReply play (played_reply a)

-- The reply to these bytes: they are no play text, and the reply names the least faulty line with its fault; or they are a
-- play, and the reply is the one to it.
pub data play_answers : List ℕ → Reply → Type 0 where
  faulty_play : (bytes : List ℕ) (n : ℕ) (fault : PlayFault) → IsFirstPlayFault bytes n fault → play_answers bytes (unreadable_reply n (play_fault_text fault))
  of_play : (bytes : List ℕ) (play : Play) (reply : Reply) → SpellsPlay bytes play → IsPlayReply play reply → play_answers bytes reply
