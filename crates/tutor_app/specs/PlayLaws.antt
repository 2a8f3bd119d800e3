-- The laws that a tool owes, for the command `play`.
use Rattle.std.specs.Prelude.{◌≡◌, ℕ, List, refl}
use Rattle.std.proofs.Common.{ap, ap₂, sym, subst, ◌∙◌, inl, inr}
use Rattle.hintikka_game.specs.Games.{opened}
use Rattle.hintikka_game.proofs.OneReplay.{one_replay, one_refusal, never_both as never_played}
use Rattle.play_text.specs.declared.play.Play.{Play}
use Rattle.play_text.proofs.Once.{play_once, fault_once, never_both}
use Rattle.tutor_app.specs.Play.{IsPlayReply, no_value, no_choice, was_played, play_answers, faulty_play, of_play, refused_reply, played_reply}
use Rattle.fault_words.specs.WorldFaults.{game_fault_text, play_fault_text}
use Rattle.tutor_app.specs.World.{answer_word}
use Rattle.tutor_app.specs.Report.{unreadable_reply}
use Rattle.tutor_app.specs.Reply.{IsReplyCode}
use Rattle.tutor_app.specs.declared.tool.Reply.{Reply}

-- The reply to a play has the status 0 or 3.
reply_known : (play : Play) (reply : Reply) → IsPlayReply play reply → IsReplyCode reply.code
reply_known _ _ (no_value play f h) = inr (inr refl)
reply_known _ _ (no_choice play v e h k) = inr (inr refl)
reply_known _ _ (was_played play v a h k) = inl refl

-- Each reply has such a status.
pub play_known : (bytes : List ℕ) (reply : Reply) → play_answers bytes reply → IsReplyCode reply.code
play_known _ _ (faulty_play bytes n f h) = inr (inr refl)
play_known _ _ (of_play bytes play reply h k) = reply_known play reply k

-- There is one reply at most to a play.
one_reply : (play : Play) (r q : Reply) → IsPlayReply play r → IsPlayReply play q → r ≡ q
one_reply _ _ _ (no_value play f h) (no_value _ g k) = ap (λ x. refused_reply (answer_word x)) (sym h ∙ k)
one_reply _ _ _ (no_value play f h) (no_choice _ v e k l) = let c = sym h ∙ k in cc
one_reply _ _ _ (no_value play f h) (was_played _ v a k l) = let c = sym h ∙ k in cc
one_reply _ _ _ (no_choice play v e h l) (no_value _ g k) = let c = sym h ∙ k in cc
one_reply _ _ _ (no_choice play v e h l) (no_choice _ u f k m) = ap (λ x. refused_reply (game_fault_text x)) (one_refusal play.world (opened play.sentence play.commitment) play.choices e f l m)
one_reply _ _ _ (no_choice play v e h l) (was_played _ u a k m) = absurd (never_played play.world (opened play.sentence play.commitment) play.choices a e m l)
one_reply _ _ _ (was_played play v a h l) (no_value _ g k) = let c = sym h ∙ k in cc
one_reply _ _ _ (was_played play v a h l) (no_choice _ u e k m) = absurd (never_played play.world (opened play.sentence play.commitment) play.choices a e l m)
one_reply _ _ _ (was_played play v a h l) (was_played _ u b k m) = ap played_reply (one_replay play.world (opened play.sentence play.commitment) play.choices a b l m)

-- There is one reply at most to the same bytes.
pub play_only : (bytes : List ℕ) (r q : Reply) → play_answers bytes r → play_answers bytes q → r ≡ q
play_only _ _ _ (faulty_play bytes n f h) (faulty_play _ m g k) = let e = fault_once bytes n m f g h k in ap₂ (λ i x. unreadable_reply i (play_fault_text x)) e.place e.is
play_only _ _ _ (faulty_play bytes n f h) (of_play _ play q k l) = absurd (never_both bytes play n f k h)
play_only _ _ _ (of_play bytes play r h l) (faulty_play _ n f k) = absurd (never_both bytes play n f h k)
play_only _ _ _ (of_play bytes play r h l) (of_play _ other q k m) = one_reply other r q (subst (λ x. IsPlayReply x r) (play_once bytes play other h k) l) m
