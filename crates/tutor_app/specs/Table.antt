-- The command `table`: the truth table of the sentences that the input lists.
use Rattle.std.specs.Prelude.{ℕ, ◌<◌, ◌≤◌, List, [], ◌∷◌, ◌++◌, length, codes}
use Rattle.std.specs.Fmt.{decimal}
use Rattle.std.specs.Str.Lines.{lines}
use Rattle.fol_core.specs.declared.sent.Sent.{Sent}
use Rattle.sentence_lists.specs.declared.list.ListFault.{ListFault}
use Rattle.sentence_lists.specs.SentenceLines.{SpellAtMost, ListFails}
use Rattle.taut_con.specs.Letters.{letters}
use Rattle.boole_table.specs.StandardTable.{standard_table}
use Rattle.boole_table.specs.PrintedTable.{printed_table}
use Rattle.fault_words.specs.SentenceFaults.{list_fault_text}
use Rattle.tutor_app.specs.Report.{unreadable_reply}
use Rattle.tutor_app.specs.declared.tool.Reply.{Reply}

-- the words that ask for it
abbrev pub table_words : List (List ℕ)
table_words = codes "table" ∷ []

-- the most sentences of which a table is made, and the most letters
abbrev pub most_sentences : ℕ
most_sentences = 8

abbrev pub most_letters : ℕ
most_letters = 12

-- The reply that names how many letters there are, which are too many.
abbrev pub letters_reply : ℕ → Reply
letters_reply n = record { code = 3; text = codes "refused TooManyLetters " ++ decimal n ++ 10 ∷ [] }

-- The reply with the table of these sentences.
abbrev pub table_reply : List Sent → Reply
table_reply ss = record { code = 0; text = printed_table (standard_table ss) }

-- The reply to a list of sentences: that there is none; or that they have too many letters; or their table.
pub data IsTableReply : List Sent → Reply → Type 0 where
  no_sentence : IsTableReply [] (unreadable_reply 1 (codes "NoSentence"))
  many_letters : (s : Sent) (ss : List Sent) → most_letters < length (letters (s ∷ ss)) → IsTableReply (s ∷ ss) (letters_reply (length (letters (s ∷ ss))))
  tabulated : (s : Sent) (ss : List Sent) → length (letters (s ∷ ss)) ≤ most_letters → IsTableReply (s ∷ ss) (table_reply (s ∷ ss))

-- The reply to these bytes: they are no list of at most eight sentences, and the reply names the least faulty line with its
-- fault; or they are such a list, and the reply is the one to it.
pub data table_answers : List ℕ → Reply → Type 0 where
  faulty_list : (bytes : List ℕ) (n : ℕ) (fault : ListFault) → ListFails most_sentences 1 (lines bytes) n fault → table_answers bytes (unreadable_reply n (list_fault_text fault))
  of_list : (bytes : List ℕ) (ss : List Sent) (reply : Reply) → SpellAtMost most_sentences (lines bytes) ss → IsTableReply ss reply → table_answers bytes reply
