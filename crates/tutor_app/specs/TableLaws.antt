-- The laws that a tool owes, for the command `table`.
use Rattle.std.specs.Prelude.{◌≡◌, ℕ, List, refl}
use Rattle.std.specs.Str.Lines.{lines}
use Rattle.std.proofs.Common.{arith, ap₂, subst, inl, inr}
use Rattle.fol_core.specs.declared.sent.Sent.{Sent}
use Rattle.sentence_lists.proofs.Once.{list_once, fault_once, never_both}
use Rattle.tutor_app.specs.Table.{IsTableReply, no_sentence, many_letters, tabulated, table_answers, faulty_list, of_list, most_sentences}
use Rattle.fault_words.specs.SentenceFaults.{list_fault_text}
use Rattle.tutor_app.specs.Report.{unreadable_reply}
use Rattle.tutor_app.specs.Reply.{IsReplyCode}
use Rattle.tutor_app.specs.declared.tool.Reply.{Reply}

-- The reply to a list has the status 0 or 3.
reply_known : (ss : List Sent) (reply : Reply) → IsTableReply ss reply → IsReplyCode reply.code
reply_known _ _ no_sentence = inr (inr refl)
reply_known _ _ (many_letters s ss m) = inr (inr refl)
reply_known _ _ (tabulated s ss f) = inl refl

-- Each reply has such a status.
pub table_known : (bytes : List ℕ) (reply : Reply) → table_answers bytes reply → IsReplyCode reply.code
table_known _ _ (faulty_list bytes n f h) = inr (inr refl)
table_known _ _ (of_list bytes ss reply h k) = reply_known ss reply k

-- There is one reply at most to a list.
one_reply : (ss : List Sent) (r q : Reply) → IsTableReply ss r → IsTableReply ss q → r ≡ q
one_reply _ _ _ no_sentence no_sentence = refl
one_reply _ _ _ (many_letters s ss m) (many_letters _ _ n) = refl
one_reply _ _ _ (many_letters s ss m) (tabulated _ _ f) = absurd (omega (arith, m, f))
one_reply _ _ _ (tabulated s ss f) (many_letters _ _ m) = absurd (omega (arith, m, f))
one_reply _ _ _ (tabulated s ss f) (tabulated _ _ g) = refl

-- There is one reply at most to the same bytes.
pub table_only : (bytes : List ℕ) (r q : Reply) → table_answers bytes r → table_answers bytes q → r ≡ q
table_only _ _ _ (faulty_list bytes n f h) (faulty_list _ m g k) = let e = fault_once most_sentences 1 (lines bytes) n m f g h k in ap₂ (λ i x. unreadable_reply i (list_fault_text x)) e.place e.is
table_only _ _ _ (faulty_list bytes n f h) (of_list _ ss q k l) = absurd (never_both most_sentences 1 (lines bytes) ss n f k h)
table_only _ _ _ (of_list bytes ss r h k) (faulty_list _ m g l) = absurd (never_both most_sentences 1 (lines bytes) ss m g h l)
table_only _ _ _ (of_list bytes ss r h k) (of_list _ ts q l m) = one_reply ts r q (subst (λ xs. IsTableReply xs r) (list_once (lines bytes) ss ts h.spell l.spell) k) m
