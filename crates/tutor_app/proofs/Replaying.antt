-- The reply of the command `play`, from what its parts answer.
use Rattle.std.proofs.Common.{◌≡◌, ◌≢◌, ℕ, Bool, List, sym, subst, refl, Result, Ok, Err, IfOk, inl, inr}
use Rattle.std.specs.Prelude.{◌⊎◌, IsTrue}
use Rattle.fol_core.specs.Closed.{closed}
use Rattle.fol_core.specs.Size.{within_limits}
use Rattle.std.specs.declared.alloc.AllocError.{AllocError}
use Rattle.world_truth.specs.declared.answer.TruthFault.{TruthFault}
use Rattle.world_truth.specs.Answers.{truth_of}
use Rattle.hintikka_game.specs.declared.game.GameFault.{GameFault}
use Rattle.hintikka_game.specs.declared.game.GameFault.TheVariants as game
use Rattle.hintikka_game.specs.declared.replaying.Played.{Played}
use Rattle.hintikka_game.specs.Games.{opened}
use Rattle.hintikka_game.specs.Replays.{IsReplay, HasReplayCause}
use Rattle.play_text.specs.declared.play.Play.{Play}
use Rattle.play_text.specs.declared.play.PlayFault.{PlayFault}
use Rattle.play_text.specs.declared.play.PlayFault.TheVariants.{Memory}
use Rattle.play_text.specs.PlayText.{SpellsPlay}
use Rattle.play_text.specs.PlayFaults.{IsFirstPlayFault}
use Rattle.tutor_app.specs.Play.{play_answers, faulty_play, of_play, IsPlayReply, no_value, no_choice, was_played, refused_reply, played_reply}
use Rattle.fault_words.specs.WorldFaults.{game_fault_text, play_fault_text}
use Rattle.tutor_app.specs.Report.{unreadable_reply}
use Rattle.tutor_app.specs.declared.tool.Reply.{Reply}

-- a play that isn't refused for its sentence has a value
has_value : (play : Play) (r : Result Played GameFault) → ((f : TruthFault) → truth_of play.world play.sentence ≡ Err f → r ≡ Err (game.Truth f)) → ((f : TruthFault) → r ≡ Err (game.Truth f) → ⊥) → (v : Bool) × (truth_of play.world play.sentence ≡ Ok v)
has_value play r t n = go (truth_of play.world play.sentence) (λ f e. n f (t f e))
  where
    go : (o : Result Bool TruthFault) → ((f : TruthFault) → o ≡ Err f → ⊥) → (v : Bool) × (o ≡ Ok v)
    go (Ok v) h = (v, refl)
    go (Err f) h = absurd (h f refl)

-- what was played
pub played_is : (play : Play) (a : Played) (o : Result Reply AllocError) → ((f : TruthFault) → truth_of play.world play.sentence ≡ Err f → ◌≡◌ {A = Result Played GameFault} (Ok a) (Err (game.Truth f))) →
    IsReplay play.world (opened play.sentence play.commitment) play.choices a → IfOk o (λ reply. reply ≡ played_reply a) → IfOk o (λ reply. IsPlayReply play reply)
played_is play a (Err e) t h k = tt
played_is play a (Ok reply) t h k =
    let v = has_value play (Ok a) t (λ f e. cc) in
    subst (λ r. IsPlayReply play r) (sym k) (was_played play v.0 a v.1 h)

-- what was refused
pub refused_is : (play : Play) (e : GameFault) (o : Result Reply AllocError) → ((f : TruthFault) → truth_of play.world play.sentence ≡ Err f → ◌≡◌ {A = Result Played GameFault} (Err e) (Err (game.Truth f))) →
    HasReplayCause play.world (opened play.sentence play.commitment) play.choices e → IfOk o (λ (reply : Reply). (e ≢ game.Memory) × (reply ≡ refused_reply (game_fault_text e))) → IfOk o (λ reply. IsPlayReply play reply)
refused_is play e (Err x) t h k = tt
refused_is play (game.Truth f) (Ok reply) t h k = subst (λ r. IsPlayReply play r) (sym k.1) (no_value play f h)
refused_is play game.Over (Ok reply) t h k =
    let v = has_value play (Err game.Over) t (λ f e. cc) in
    subst (λ r. IsPlayReply play r) (sym k.1) (no_choice play v.0 game.Over v.1 h)
refused_is play (game.NoSuchChoice j) (Ok reply) t h k =
    let v = has_value play (Err (game.NoSuchChoice j)) t (λ f e. cc) in
    subst (λ r. IsPlayReply play r) (sym k.1) (no_choice play v.0 (game.NoSuchChoice j) v.1 h)
refused_is play game.NotYourTurn (Ok reply) t h k = absurd h
refused_is play game.NotMyTurn (Ok reply) t h k = absurd h
refused_is play game.Memory (Ok reply) t h k = absurd (k.0 refl)

-- a text that is read
pub play_answer : (bytes : List ℕ) (play : Play) (o : Result Reply AllocError) → SpellsPlay bytes play → IfOk o (λ reply. IsPlayReply play reply) → IfOk o (λ reply. play_answers bytes reply)
play_answer bytes play (Err e) h k = tt
play_answer bytes play (Ok reply) h k = of_play bytes play reply h k

-- and one that isn't
pub faulty_answer : (bytes : List ℕ) (n : ℕ) (fault : PlayFault) (o : Result Reply AllocError) → (fault ≡ Memory) ⊎ IsFirstPlayFault bytes n fault →
    IfOk o (λ (reply : Reply). (fault ≢ Memory) × (reply ≡ unreadable_reply n (play_fault_text fault))) → IfOk o (λ reply. play_answers bytes reply)
faulty_answer bytes n fault (Err e) f h = tt
faulty_answer bytes n fault (Ok reply) (inl f) h = absurd (h.0 f)
faulty_answer bytes n fault (Ok reply) (inr f) h = subst (λ r. play_answers bytes r) (sym h.1) (faulty_play bytes n fault f)

-- the sentence of a play is closed and within the limits
pub sentence_closed : (bytes : List ℕ) (play : Play) → SpellsPlay bytes play → IsTrue (closed play.sentence)
sentence_closed bytes play h = h.on.is.holds.fit.closed

pub sentence_within : (bytes : List ℕ) (play : Play) → SpellsPlay bytes play → within_limits play.sentence ≡ Ok tt
sentence_within bytes play h = h.on.is.holds.fit.within
