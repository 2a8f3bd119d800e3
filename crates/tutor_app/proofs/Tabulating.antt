-- The reply of the command `table`, from what its parts answer.
use Rattle.std.proofs.Common.{◌≡◌, ◌≢◌, ℕ, ◌*◌, ◌<◌, ◌≤◌, List, [], ◌∷◌, length, map, arith, refl, ap, sym, subst, ◌∙◌, Result, Ok, Err, IfOk, inl, inr, codes}
use Rattle.std.specs.Prelude.{◌⊎◌}
use Rattle.std.specs.Str.Lines.{lines}
use Rattle.std.specs.declared.alloc.AllocError.{AllocError}
use Rattle.fol_core.specs.declared.sent.Sent.{Sent}
use Rattle.fol_core.specs.Size.{total, nodes}
use Rattle.sentence_lists.specs.declared.list.ListFault.{ListFault}
use Rattle.sentence_lists.specs.declared.list.ListFault.TheVariants.{Memory}
use Rattle.sentence_lists.specs.SentenceLines.{SpellSentences, no_more, blank_line, sentence_line, SpellAtMost, ListFails}
use Rattle.taut_con.specs.Letters.{letters}
use Rattle.proof_check.proofs.Cited.{within_nodes}
use Rattle.std.proofs.lemmas.Bool.{cases_lt}
use Rattle.boole_table.specs.declared.table.Table.{Table}
use Rattle.boole_table.specs.declared.fault.TableFault.{TableFault}
use Rattle.boole_table.specs.declared.fault.TableFault.TheVariants.{TooManyLetters, Memory as NoMemory}
use Rattle.boole_table.specs.StandardTable.{standard_table}
use Rattle.boole_table.specs.PrintedTable.{printed_table}
use Rattle.tutor_app.specs.Table.{IsTableReply, no_sentence, many_letters, tabulated, table_answers, faulty_list, of_list, most_sentences, most_letters, letters_reply, table_reply}
use Rattle.fault_words.specs.SentenceFaults.{list_fault_text}
use Rattle.tutor_app.specs.Report.{unreadable_reply}
use Rattle.tutor_app.specs.declared.tool.Reply.{Reply}

-- without a sentence
pub none_listed : (ss : List Sent) (o : Result Reply AllocError) → length ss ≡ 0 → IfOk o (λ reply. reply ≡ unreadable_reply 1 (codes "NoSentence")) → IfOk o (λ reply. IsTableReply ss reply)
none_listed ss (Err e) n r = tt
none_listed [] (Ok reply) n r = subst (λ q. IsTableReply [] q) (sym r) no_sentence
none_listed (s ∷ ss) (Ok reply) n r = absurd (omega (arith, n))

-- with few letters
pub few_listed : (ss : List Sent) (o : Result Reply AllocError) → (length ss ≡ 0 → ⊥) → length (letters ss) ≤ most_letters → IfOk o (λ reply. reply ≡ table_reply ss) → IfOk o (λ reply. IsTableReply ss reply)
few_listed ss (Err e) n f r = tt
few_listed [] (Ok reply) n f r = absurd (n refl)
few_listed (s ∷ ss) (Ok reply) n f r = subst (λ q. IsTableReply (s ∷ ss) q) (sym r) (tabulated s ss f)

-- with too many
pub many_listed : (ss : List Sent) (o : Result Reply AllocError) → (length ss ≡ 0 → ⊥) → most_letters < length (letters ss) → IfOk o (λ reply. reply ≡ letters_reply (length (letters ss))) → IfOk o (λ reply. IsTableReply ss reply)
many_listed ss (Err e) n m r = tt
many_listed [] (Ok reply) n m r = absurd (n refl)
many_listed (s ∷ ss) (Ok reply) n m r = subst (λ q. IsTableReply (s ∷ ss) q) (sym r) (many_letters s ss m)

-- a table that was made and printed
pub made_listed : (ss : List Sent) (t : Table) (text : List ℕ) → (length ss ≡ 0 → ⊥) → t ≡ standard_table ss →
    (most_letters < length (letters ss) → ◌≡◌ {A = Result Table TableFault} (Ok t) (Err (TooManyLetters (length (letters ss)))) ⊎ ◌≡◌ {A = Result Table TableFault} (Ok t) (Err NoMemory)) →
    text ≡ printed_table t → IsTableReply ss (record { code = 0; text = text })
made_listed ss t text n e m p = go (cases_lt most_letters (length (letters ss)))
  where
    same : (r : Reply) → r ≡ table_reply ss → IsTableReply ss r
    same r q = few_listed ss (Ok r) n (few (cases_lt most_letters (length (letters ss)))) q
      where
        few : (most_letters < length (letters ss)) ⊎ (length (letters ss) ≤ most_letters) → length (letters ss) ≤ most_letters
        few (inl l) = absurd (never (m l))
          where
            never : ◌≡◌ {A = Result Table TableFault} (Ok t) (Err (TooManyLetters (length (letters ss)))) ⊎ ◌≡◌ {A = Result Table TableFault} (Ok t) (Err NoMemory) → ⊥
            never (inl f) = cc
            never (inr f) = cc
        few (inr l) = l

    go : (most_letters < length (letters ss)) ⊎ (length (letters ss) ≤ most_letters) → IsTableReply ss (record { code = 0; text = text })
    go b = same (record { code = 0; text = text }) (ap (λ (x : List ℕ). let r : Reply = record { code = 0; text = x } in r) (p ∙ ap printed_table e))

-- letters that were counted and are too many
pub letters_named : (ss : List Sent) (fault : TableFault) (count : ℕ) (o : Result Reply AllocError) → (length ss ≡ 0 → ⊥) → fault ≡ TooManyLetters count → (length (letters ss) ≤ most_letters → fault ≡ NoMemory) →
    (most_letters < length (letters ss) → ◌≡◌ {A = Result Table TableFault} (Err fault) (Err (TooManyLetters (length (letters ss)))) ⊎ ◌≡◌ {A = Result Table TableFault} (Err fault) (Err NoMemory)) →
    IfOk o (λ reply. reply ≡ letters_reply count) → IfOk o (λ reply. IsTableReply ss reply)
letters_named ss fault count (Err e) n i f m r = tt
letters_named ss fault count (Ok reply) n i f m r = go (cases_lt most_letters (length (letters ss)))
  where
    counted : ◌≡◌ {A = Result Table TableFault} (Err fault) (Err (TooManyLetters (length (letters ss)))) ⊎ ◌≡◌ {A = Result Table TableFault} (Err fault) (Err NoMemory) → count ≡ length (letters ss)
    counted (inl e) = cc
    counted (inr e) = cc

    go : (most_letters < length (letters ss)) ⊎ (length (letters ss) ≤ most_letters) → IsTableReply ss reply
    go (inl l) = many_listed ss (Ok reply) n l (r ∙ ap letters_reply (counted (m l)))
    go (inr l) = let e = f l in cc

-- a list that is read
pub list_answer : (bytes : List ℕ) (ss : List Sent) (o : Result Reply AllocError) → SpellAtMost most_sentences (lines bytes) ss → IfOk o (λ reply. IsTableReply ss reply) → IfOk o (λ reply. table_answers bytes reply)
list_answer bytes ss (Err e) h k = tt
list_answer bytes ss (Ok reply) h k = of_list bytes ss reply h k

-- and one that isn't
pub unlisted_answer : (bytes : List ℕ) (n : ℕ) (fault : ListFault) (o : Result Reply AllocError) → (fault ≡ Memory) ⊎ ListFails most_sentences 1 (lines bytes) n fault →
    IfOk o (λ (reply : Reply). (fault ≢ Memory) × (reply ≡ unreadable_reply n (list_fault_text fault))) → IfOk o (λ reply. table_answers bytes reply)
unlisted_answer bytes n fault (Err e) f h = tt
unlisted_answer bytes n fault (Ok reply) (inl f) h = absurd (h.0 f)
unlisted_answer bytes n fault (Ok reply) (inr f) h = subst (λ r. table_answers bytes r) (sym h.1) (faulty_list bytes n fault f)

-- the sentences of a list have at most 400 nodes each
spelled_few : (ls : List (List ℕ)) (ss : List Sent) → SpellSentences ls ss → total (map nodes ss) ≤ 400 * length ss
spelled_few _ _ no_more = omega arith
spelled_few _ _ (blank_line line ls ss b h) = spelled_few ls ss h
spelled_few _ _ (sentence_line line ls s ss l h) = omega (arith, spelled_few ls ss h, within_nodes s l.readable.fit.within)

pub listed_few : (ls : List (List ℕ)) (ss : List Sent) → SpellAtMost most_sentences ls ss → total (map nodes ss) < 4294967296
listed_few ls ss h = omega (arith, spelled_few ls ss h.spell, h.few)
