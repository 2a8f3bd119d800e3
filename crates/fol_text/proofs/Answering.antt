-- What the reader of a text answers: the sentence, or the first refusal.
use Rattle.std.proofs.Common.{◌≡◌, ℕ, ◌<◌, ◌≤◌, List, ◌⊎◌, inl, inr, length, Result, Ok, Err, sym, subst}
use Rattle.fol_core.specs.declared.sent.Sent.{Sent}
use Rattle.fol_text.specs.declared.fault.ReadFault.{ReadFault}
use Rattle.fol_text.specs.declared.fault.ReadFault.TheVariants.{BadByte, TooLong, Memory}
use Rattle.fol_text.specs.declared.token.Placed.{Placed}
use Rattle.fol_text.specs.Tokens.{tokens_of, AreTokens, IsBadAt}
use Rattle.fol_text.specs.Grammar.{Spells}
use Rattle.fol_text.specs.Readable.{IsReadable, IsFit}
use Rattle.fol_text.specs.Refusals.{IsStopped, IsUnfit, IsRefused, too_long, bad_byte, stopped, unfit}
use Rattle.fol_text.proofs.Refused.{exactly}

-- A fault that the reader may answer with.
abbrev pub Says : List ℕ → ReadFault → Type 0
Says text fault = (fault ≡ Memory) ⊎ IsRefused text fault

pub long_refused : (text : List ℕ) → 4000 < length text → Says text (TooLong (length text))
long_refused text h = inr (too_long text h)

pub byte_refused : (text : List ℕ) (fault : ReadFault) → length text ≤ 4000 → (fault ≡ Memory) ⊎ ((p : ℕ) × ((fault ≡ BadByte p) × IsBadAt 0 text p)) → Says text fault
byte_refused text fault h (inl m) = inl m
byte_refused text fault h (inr (p, (e, b))) = subst (λ (f : ReadFault). Says text f) (sym e) (inr (bad_byte text p h b))

pub stop_refused : (text : List ℕ) (ks js : List Placed) (fault : ReadFault) → length text ≤ 4000 → AreTokens 0 text ks → js ≡ ks → (fault ≡ Memory) ⊎ IsStopped (length text) js fault → Says text fault
stop_refused text ks js fault h t e (inl m) = inl m
stop_refused text ks js fault h t e (inr d) = inr (stopped text js fault h (subst (λ (ls : List Placed). AreTokens 0 text ls) (sym e) t) d)

pub unfit_refused : (text : List ℕ) (ks js ls : List Placed) (s : Sent) (fault : ReadFault) → length text ≤ 4000 → AreTokens 0 text ks → js ≡ ks → ls ≡ ks → Spells 120 (tokens_of js) s
    → (fault ≡ Memory) ⊎ IsUnfit ls s fault → Says text fault
unfit_refused text ks js ls s fault h t e d q (inl m) = inl m
unfit_refused text ks js ls s fault h t e d q (inr u) =
    inr (unfit text ks s fault h t (subst (λ (is : List Placed). Spells 120 (tokens_of is) s) e q) (subst (λ (is : List Placed). IsUnfit is s fault) d u))

pub is_readable : (text : List ℕ) (ks js : List Placed) (s : Sent) → length text ≤ 4000 → AreTokens 0 text ks → js ≡ ks → Spells 120 (tokens_of js) s → IsFit s → IsReadable text s
is_readable text ks js s h t e q f = record { short = h; tokens = ks; are_tokens = t; spells = subst (λ (ls : List Placed). Spells 120 (tokens_of ls) s) e q; fit = f }

-- The answer is the sentence, unless memory was refused.
abbrev pub Answers : Result Sent ReadFault → Sent → Type 0
Answers r s = (r ≡ Ok s) ⊎ (r ≡ Err Memory)

-- Where the answer is a refusal, the text spells nothing, unless memory was refused.
pub exact_fault : (text : List ℕ) (fault : ReadFault) → Says text fault → (s : Sent) → IsReadable text s → Answers (Err fault) s
exact_fault text fault f s r = exactly text (Err fault) tt f s r

-- Where it is a sentence, it is the one that the text spells.
pub exact_sentence : (text : List ℕ) (t : Sent) → IsReadable text t → (s : Sent) → IsReadable text s → Answers (Ok t) s
exact_sentence text t q s r = exactly text (Ok t) q tt s r
