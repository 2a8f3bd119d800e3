-- A text is one list of sentences at most, or it has one first fault.
use Rattle.std.proofs.Common.{◌≡◌, ℕ, ◌+◌, ◌≤◌, List, ◌∷◌, length, arith, refl, ap, ap₂, Result, Ok, Err, inl, inr}
use Rattle.std.specs.Prelude.{◌⊎◌, IsErrAnd, IfErr, IfOk}
use Rattle.fol_core.specs.declared.sent.Sent.{Sent}
use Rattle.fol_text.specs.declared.fault.ReadFault.{ReadFault}
use Rattle.fol_text.specs.Readable.{IsReadable, SpellsText}
use Rattle.fol_text.proofs.Reading.{spells_once}
use Rattle.fol_text.proofs.OneFault.{refused_once}
use Rattle.fol_text.proofs.Refused.{readable_not_refused}
use Rattle.texts.specs.Blanks.{trimmed}
use Rattle.sentence_lists.specs.declared.list.ListFault.{ListFault}
use Rattle.sentence_lists.specs.declared.list.ListFault.TheVariants.{Sentence, Memory}
use Rattle.sentence_lists.specs.SentenceLines.{IsSentenceLine, IsRefusedLine, SpellSentences, no_more, blank_line, sentence_line, SpellAtMost, ListFails, refused_line, one_too_many, past_blank, past_sentence}
use Rattle.sentence_lists.specs.Laws.{OneList, OneFault, NeverBoth}

as_text : (text : List ℕ) (s : Sent) → IsReadable text s → SpellsText text s
as_text text s h = record { tokens = h.tokens; are_tokens = h.are_tokens; room = 120; spells = h.spells }

one_sentence : (line : List ℕ) (s t : Sent) → IsSentenceLine line s → IsSentenceLine line t → s ≡ t
one_sentence line s t h k = spells_once (trimmed line) s t (as_text (trimmed line) s h.readable) (as_text (trimmed line) t k.readable)

apart : (line : List ℕ) (s : Sent) (f : ReadFault) → IsSentenceLine line s → IsRefusedLine line f → ⊥
apart line s f h k = readable_not_refused k.refused s h.readable

pub list_once : OneList
list_once _ _ _ no_more no_more = refl
list_once _ _ _ (blank_line line ls ss b h) (blank_line _ _ ts c k) = list_once ls ss ts h k
list_once _ _ _ (blank_line line ls ss b h) (sentence_line _ _ t ts l k) = absurd (l.written b)
list_once _ _ _ (sentence_line line ls s ss l h) (blank_line _ _ ts c k) = absurd (l.written c)
list_once _ _ _ (sentence_line line ls s ss l h) (sentence_line _ _ t ts m k) = ap₂ ◌∷◌ (one_sentence line s t l m) (list_once ls ss ts h k)

pub fault_once : OneFault
fault_once _ _ _ _ _ _ _ (refused_line room place line ls f r) (refused_line _ _ _ _ g q) = record { place = refl; is = ap Sentence (refused_once r.refused g q.refused) }
fault_once _ _ _ _ _ _ _ (refused_line _ place line ls f r) (one_too_many _ _ _ s l) = absurd (apart line s f l r)
fault_once _ _ _ _ _ _ _ (refused_line room place line ls f r) (past_blank _ _ _ _ m g b k) = absurd (r.written b)
fault_once _ _ _ _ _ _ _ (refused_line _ place line ls f r) (past_sentence room _ _ _ s m g l k) = absurd (apart line s f l r)
fault_once _ _ _ _ _ _ _ (one_too_many place line ls s l) (refused_line _ _ _ _ g q) = absurd (apart line s g l q)
fault_once _ _ _ _ _ _ _ (one_too_many place line ls s l) (one_too_many _ _ _ t m) = record { place = refl; is = refl }
fault_once _ _ _ _ _ _ _ (one_too_many place line ls s l) (past_blank _ _ _ _ m g b k) = absurd (l.written b)
fault_once _ _ _ _ _ _ _ (past_blank room place line ls n f b h) (refused_line _ _ _ _ g q) = absurd (q.written b)
fault_once _ _ _ _ _ _ _ (past_blank _ place line ls n f b h) (one_too_many _ _ _ t l) = absurd (l.written b)
fault_once _ _ _ _ _ _ _ (past_blank room place line ls n f b h) (past_blank _ _ _ _ m g c k) = fault_once room (place + 1) ls n m f g h k
fault_once _ _ _ _ _ _ _ (past_blank _ place line ls n f b h) (past_sentence room _ _ _ s m g l k) = absurd (l.written b)
fault_once _ _ _ _ _ _ _ (past_sentence room place line ls s n f l h) (refused_line _ _ _ _ g q) = absurd (apart line s g l q)
fault_once _ _ _ _ _ _ _ (past_sentence room place line ls s n f l h) (past_blank _ _ _ _ m g b k) = absurd (l.written b)
fault_once _ _ _ _ _ _ _ (past_sentence room place line ls s n f l h) (past_sentence _ _ _ _ t m g p k) = fault_once room (place + 1) ls n m f g h k

never : (room place : ℕ) (ls : List (List ℕ)) (ss : List Sent) (n : ℕ) (f : ListFault) → SpellSentences ls ss → length ss ≤ room → ListFails room place ls n f → ⊥
never room place _ _ n f no_more e x = elim x [ ]
never _ _ _ _ _ _ (blank_line line ls ss b h) e (refused_line _ _ _ _ g q) = q.written b
never _ _ _ _ _ _ (blank_line line ls ss b h) e (one_too_many _ _ _ t l) = l.written b
never _ _ _ _ _ _ (blank_line line ls ss b h) e (past_blank room place _ _ n f c k) = never room (place + 1) ls ss n f h e k
never _ _ _ _ _ _ (blank_line line ls ss b h) e (past_sentence room place _ _ s n f l k) = absurd (l.written b)
never _ _ _ _ _ _ (sentence_line line ls s ss l h) e (refused_line _ _ _ _ g q) = apart line s g l q
never _ _ _ _ _ _ (sentence_line line ls s ss l h) e (one_too_many _ _ _ t m) = absurd (omega (arith, e))
never _ _ _ _ _ _ (sentence_line line ls s ss l h) e (past_blank room place _ _ n f c k) = absurd (l.written c)
never _ _ _ _ _ _ (sentence_line line ls s ss l h) e (past_sentence room place _ _ t n f m k) = never room (place + 1) ls ss n f h (omega (arith, e)) k

pub never_both : NeverBoth
never_both room place ls ss n f h k = never room place ls ss n f h.spell h.few k

-- what a list says of each list that the lines are
pub read_exactly : (most : ℕ) (ls : List (List ℕ)) (r : Result (List Sent) (ℕ × ListFault)) → IfOk r (λ ss. SpellAtMost most ls ss) → IfErr r (λ e. (e.1 ≡ Memory) ⊎ ListFails most 1 ls e.0 e.1) →
    (ss : List Sent) → SpellAtMost most ls ss → (r ≡ Ok ss) ⊎ IsErrAnd r (λ e. e.1 ≡ Memory)
read_exactly most ls (Ok ts) h k ss s = inl (ap Ok (list_once ls ts ss h.spell s.spell))
read_exactly most ls (Err e) h (inl m) ss s = inr m
read_exactly most ls (Err e) h (inr f) ss s = absurd (never_both most 1 ls ss e.0 e.1 s f)
