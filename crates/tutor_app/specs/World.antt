-- The command `world NAME`: the truth of the sentences that the input lists, in a world of the shelf.
use Rattle.std.specs.Prelude.{◌≡◌, ℕ, Bool, true, false, List, [], ◌∷◌, ◌++◌, None, Result, Ok, Err, codes}
use Rattle.std.specs.List.{flat_map}
use Rattle.std.specs.Str.Lines.{lines}
use Rattle.fol_core.specs.declared.sent.Sent.{Sent}
use Rattle.fol_text.specs.declared.fault.ReadFault.{ReadFault}
use Rattle.worlds.specs.declared.block.Block.{Block}
use Rattle.world_truth.specs.declared.answer.TruthFault.{TruthFault}
use Rattle.fault_words.specs.WorldFaults.{truth_fault_text}
use Rattle.world_truth.specs.Answers.{truth_of}
use Rattle.world_text.specs.WorldText.{world_fault, world_of}
use Rattle.sentence_lists.specs.declared.list.ListFault.TheVariants.{Sentence}
use Rattle.sentence_lists.specs.SentenceLines.{SpellAtMost, ListFails}
use Rattle.fault_words.specs.SentenceFaults.{list_fault_text}
use Rattle.tutor_app.specs.Report.{unreadable_reply}
use Rattle.tutor_app.specs.Transfer.{input_limit}
use Rattle.tutor_app.specs.declared.tool.Reply.{Reply}

-- the words that ask for it, with the name of the world
abbrev pub world_words : List ℕ → List (List ℕ)
world_words name = codes "world" ∷ name ∷ []

-- The text is that of a world.
abbrev pub IsWorldText : List ℕ → Type 0
IsWorldText text = world_fault text ≡ None

-- the word for an answer on a sentence
abbrev pub answer_word : Result Bool TruthFault → List ℕ
answer_word (Ok true) = codes "true"
answer_word (Ok false) = codes "false"
answer_word (Err f) = truth_fault_text f

-- A line for each sentence, in order, with the answer on it in the world.
abbrev pub answer_lines : List Block → List Sent → List ℕ
answer_lines w ss = flat_map (λ s. answer_word (truth_of w s) ++ 10 ∷ []) ss

-- the reply with these lines
abbrev pub answers_reply : List Block → List Sent → Reply
answers_reply w ss = record { code = 0; text = answer_lines w ss }

-- The reply to these bytes: they list sentences, and the reply has the answer on each in the world; or a line is refused as
-- a sentence, and the reply names the least such line with its refusal. No input within the limit has more sentences than
-- the limit has bytes.
pub data world_answers : List Block → List ℕ → Reply → Type 0 where
  answered_each : (w : List Block) (bytes : List ℕ) (ss : List Sent) → SpellAtMost input_limit (lines bytes) ss → world_answers w bytes (answers_reply w ss)
  refused_line : (w : List Block) (bytes : List ℕ) (n : ℕ) (why : ReadFault) → ListFails input_limit 1 (lines bytes) n (Sentence why) → world_answers w bytes (unreadable_reply n (list_fault_text (Sentence why)))

-- The same where this text is that of the world.
abbrev pub text_answers : List ℕ → List ℕ → Reply → Type 0
text_answers text = world_answers (world_of text)
