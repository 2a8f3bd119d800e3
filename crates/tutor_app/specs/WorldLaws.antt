-- The laws that a tool owes, for the command `world`.
use Rattle.std.specs.Prelude.{◌≡◌, ℕ, List, refl}
use Rattle.std.specs.Str.Lines.{lines}
use Rattle.std.proofs.Common.{ap, ap₂, inl, inr}
use Rattle.worlds.specs.declared.block.Block.{Block}
use Rattle.sentence_lists.specs.declared.list.ListFault.TheVariants.{Sentence}
use Rattle.sentence_lists.proofs.Once.{list_once, fault_once, never_both}
use Rattle.tutor_app.specs.World.{world_answers, answered_each, refused_line, answers_reply}
use Rattle.fault_words.specs.SentenceFaults.{list_fault_text}
use Rattle.tutor_app.specs.Report.{unreadable_reply}
use Rattle.tutor_app.specs.Transfer.{input_limit}
use Rattle.tutor_app.specs.Reply.{IsReplyCode}
use Rattle.tutor_app.specs.declared.tool.Reply.{Reply}

-- Each reply has the status 0 or 3.
pub world_known : (w : List Block) (bytes : List ℕ) (reply : Reply) → world_answers w bytes reply → IsReplyCode reply.code
world_known _ _ _ (answered_each w bytes ss h) = inl refl
world_known _ _ _ (refused_line w bytes n why h) = inr (inr refl)

-- There is one reply at most to the same bytes.
pub world_only : (w : List Block) (bytes : List ℕ) (r q : Reply) → world_answers w bytes r → world_answers w bytes q → r ≡ q
world_only _ _ _ _ (answered_each w bytes ss h) (answered_each _ _ ts k) = ap (answers_reply w) (list_once (lines bytes) ss ts h.spell k.spell)
world_only _ _ _ _ (answered_each w bytes ss h) (refused_line _ _ m g k) = absurd (never_both input_limit 1 (lines bytes) ss m (Sentence g) h k)
world_only _ _ _ _ (refused_line w bytes n f h) (answered_each _ _ ts k) = absurd (never_both input_limit 1 (lines bytes) ts n (Sentence f) k h)
world_only _ _ _ _ (refused_line w bytes n f h) (refused_line _ _ m g k) = let e = fault_once input_limit 1 (lines bytes) n m (Sentence f) (Sentence g) h k in ap₂ (λ i x. unreadable_reply i (list_fault_text x)) e.place e.is
