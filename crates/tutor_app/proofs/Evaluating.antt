-- The reply of the command `world`, from what its parts answer.
use Rattle.std.proofs.Common.{◌≡◌, ◌≢◌, ℕ, suc, ◌+◌, ◌<◌, ◌≤◌, List, [], ◌∷◌, ◌++◌, length, take, get_or, arith, ap, refl, sym, subst, ◌∙◌, cond, Bool, true, false, Result, Ok, Err, IfOk, inl, inr}
use Rattle.std.specs.Prelude.{◌⊎◌, ◌==◌}
use Rattle.std.specs.List.{slice_split, onto_first}
use Rattle.std.specs.Str.Lines.{lines, lines_of_parts}
use Rattle.std.specs.declared.alloc.AllocError.{AllocError}
use Rattle.std.proofs.lemmas.Bool.Decides.{nat_tests}
use Rattle.fol_core.specs.declared.sent.Sent.{Sent}
use Rattle.deriv_laws.proofs.Lists.{flat_more}
use Rattle.worlds.specs.declared.block.Block.{Block}
use Rattle.world_truth.specs.declared.answer.TruthFault.{TruthFault}
use Rattle.world_truth.specs.Answers.{truth_of}
use Rattle.sentence_lists.specs.declared.list.ListFault.{ListFault}
use Rattle.sentence_lists.specs.declared.list.ListFault.TheVariants.{Sentence, TooManySentences, Memory}
use Rattle.sentence_lists.specs.SentenceLines.{SpellAtMost, ListFails, refused_line as refused_here, one_too_many, past_blank, past_sentence}
use Rattle.tutor_app.specs.World.{world_answers, answered_each, refused_line, answer_word, answer_lines}
use Rattle.fault_words.specs.SentenceFaults.{list_fault_text}
use Rattle.tutor_app.specs.Report.{unreadable_reply}
use Rattle.tutor_app.specs.Transfer.{input_limit}
use Rattle.tutor_app.specs.declared.tool.Reply.{Reply}

-- an empty part in front is a line more at most
front_few : (parts : List (List ℕ)) → length (lines_of_parts ([] ∷ parts)) ≤ length (lines_of_parts parts) + 1
front_few [] = omega arith
front_few (p ∷ ps) = omega arith

one_part : (part : List ℕ) → 0 < length part → lines_of_parts (part ∷ []) ≡ part ∷ []
one_part part h = grind (arith, nat_tests)

-- a byte more in the first part is a line more at most
onto_few : (b : ℕ) (parts : List (List ℕ)) → length (lines_of_parts (onto_first b parts)) ≤ length (lines_of_parts parts) + 1
onto_few b [] = omega arith
onto_few b (p ∷ []) = let one : lines_of_parts ((b ∷ p) ∷ []) ≡ (b ∷ p) ∷ [] = one_part (b ∷ p) (omega arith) in omega (arith, ap length one)
onto_few b (p ∷ q ∷ ps) = omega arith

-- a text has no more lines than bytes
pub lines_few : (bytes : List ℕ) → length (lines bytes) ≤ length bytes
lines_few [] = omega arith
lines_few (b ∷ bs) =
    let rest = slice_split (λ c. c == 10) bs in
    let few : length (lines_of_parts rest) ≤ length bs = lines_few bs in
    elim (b == 10) as (λ t. length (lines_of_parts (cond t ([] ∷ rest) (onto_first b rest))) ≤ suc (length bs)) [
      | true ↦ omega (arith, few, front_few rest)
      | false ↦ omega (arith, few, onto_few b rest)
    ]

-- where there is a sentence too many, there are more lines than sentences may be
too_many : (room place : ℕ) (ls : List (List ℕ)) (n : ℕ) (f : ListFault) → ListFails room place ls n f → f ≡ TooManySentences → room < length ls
too_many _ _ _ _ _ (refused_here room place line ls f r) e = absurd cc
too_many _ _ _ _ _ (one_too_many place line ls s l) e = omega arith
too_many _ _ _ _ _ (past_blank room place line ls n f b h) e = omega (arith, too_many room (place + 1) ls n f h e)
too_many _ _ _ _ _ (past_sentence room place line ls s n f l h) e = omega (arith, too_many room (place + 1) ls n f h e)

-- where the sentences aren't read, the reply names the least line that is refused as a sentence
pub refused_answer : (w : List Block) (bytes : List ℕ) (n : ℕ) (fault : ListFault) (o : Result Reply AllocError) → length bytes ≤ input_limit → (fault ≡ Memory) ⊎ ListFails input_limit 1 (lines bytes) n fault →
    IfOk o (λ (reply : Reply). (fault ≢ Memory) × (reply ≡ unreadable_reply n (list_fault_text fault))) → IfOk o (λ reply. world_answers w bytes reply)
refused_answer w bytes n fault (Err e) k f h = tt
refused_answer w bytes n fault (Ok reply) k (inl f) h = absurd (h.0 f)
refused_answer w bytes n (Sentence why) (Ok reply) k (inr f) h = subst (λ r. world_answers w bytes r) (sym h.1) (refused_line w bytes n why f)
refused_answer w bytes n TooManySentences (Ok reply) k (inr f) h = let m : input_limit < length (lines bytes) = too_many input_limit 1 (lines bytes) n TooManySentences f refl in absurd (omega (arith, k, m, lines_few bytes))
refused_answer w bytes n Memory (Ok reply) k (inr f) h = absurd (h.0 refl)

-- where the sentences are read, the reply has the answers
pub each_answered : (w : List Block) (bytes : List ℕ) (ss ts : List Sent) (text : List ℕ) → SpellAtMost input_limit (lines bytes) ss → ts ≡ ss → text ≡ answer_lines w ts → world_answers w bytes (record { code = 0; text = text })
each_answered w bytes ss ts text h e f =
    let g : text ≡ answer_lines w ss = f ∙ ap (answer_lines w) e in
    subst (λ (t : List ℕ). world_answers w bytes (record { code = 0; text = t })) (sym g) (answered_each w bytes ss h)

-- one answer more
pub lines_step : (t u : List ℕ) (w : List Block) (ss : List Sent) (i : ℕ) (s : Sent) (answer : Result Bool TruthFault) → i < length ss → s ≡ get_or ss i s → t ≡ answer_lines w (take i ss) → answer ≡ truth_of w s →
    u ≡ t ++ (answer_word answer ++ 10 ∷ []) → u ≡ answer_lines w (take (i + 1) ss)
lines_step t u w ss i s answer h e ht ha hu =
    hu ∙ ap (λ x. x ++ (answer_word answer ++ 10 ∷ [])) ht ∙ ap (λ a. answer_lines w (take i ss) ++ (answer_word a ++ 10 ∷ [])) ha
    ∙ sym (flat_more (λ p. answer_word (truth_of w p) ++ 10 ∷ []) ss i s h e)
