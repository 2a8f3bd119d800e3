-- What a line says behind its keyword is one thing at most.
use Rattle.std.proofs.Common.{◌≡◌, ℕ, ◌≤◌, eqb, eq-eqb, Bool, true, false, List, [], ◌∷◌, ◌++◌, length, map, get_or, arith, refl, sym, ap, ap₂, subst, ◌∙◌, Some, inl, inr, length-append}
use Rattle.std.proofs.lemmas.List.{append_cancel_left}
use Rattle.texts.specs.Blanks.{trimmed}
use Rattle.physical_lines.proofs.Lengths.{trimmed_fits}
use Rattle.fol_core.specs.declared.sent.Sent.{Sent}
use Rattle.fol_text.specs.Readable.{IsReadable, SpellsText}
use Rattle.fol_text.proofs.Reading.{spells_once}
use Rattle.fol_text.proofs.Refused.{readable_not_refused}
use Rattle.play_text.specs.declared.play.PlayFault.{PlayFault}
use Rattle.play_text.specs.Keywords.{ends_word, IsBehind, Says}
use Rattle.play_text.specs.PlayLines.{sentence_word, commit_word, choices_word, truth_word, IsChoices, IsSentenceLine, IsCommitLine, IsChoicesLine}
use Rattle.play_text.specs.PlayFaults.{IsRefusedText, SentenceFails}

pub text_once : (keyword line text other : List ℕ) → IsBehind keyword line text → IsBehind keyword line other → text ≡ other
text_once keyword line text other h k = h.is ∙ ap trimmed (append_cancel_left keyword h.tail k.tail (sym h.begins ∙ k.begins)) ∙ sym k.is

pub not_behind : (keyword line tail : List ℕ) → line ≡ keyword ++ tail → ends_word tail ≡ false → (text : List ℕ) → IsBehind keyword line text → ⊥
not_behind keyword line tail e f text h =
    let g : ends_word tail ≡ true = subst (λ t. ends_word t ≡ true) (append_cancel_left keyword h.tail tail (sym h.begins ∙ e)) h.parted in
    absurd (cc)

pub behind_fits : (keyword line text : List ℕ) → IsBehind keyword line text → length text ≤ length line
behind_fits keyword line text h = omega (arith, ap length h.begins, length-append keyword h.tail, ap length h.is, trimmed_fits h.tail)

as_text : (text : List ℕ) (s : Sent) → IsReadable text s → SpellsText text s
as_text text s h = record { tokens = h.tokens; are_tokens = h.are_tokens; room = 120; spells = h.spells }

pub sentence_once : (line : List ℕ) (s t : Sent) → IsSentenceLine s line → IsSentenceLine t line → s ≡ t
sentence_once line s t h k =
    let e : h.text ≡ k.text = text_once sentence_word line h.text k.text h.behind k.behind in
    spells_once h.text s t (as_text h.text s h.holds) (as_text h.text t (subst (λ x. IsReadable x t) (sym e) k.holds))

pub sentence_apart : (line : List ℕ) (s : Sent) (f : PlayFault) → IsSentenceLine s line → SentenceFails line f → ⊥
sentence_apart line s f h (inl k) = k.1 h.text h.behind
sentence_apart line s f h (inr k) =
    let r : Says sentence_word IsRefusedText line = k.1 in
    let e : h.text ≡ r.text = text_once sentence_word line h.text r.text h.behind r.behind in
    readable_not_refused r.holds.1 s (subst (λ x. IsReadable x s) e h.holds)

pub sentence_fault_once : (line : List ℕ) (f g : PlayFault) → SentenceFails line f → SentenceFails line g → f ≡ g
sentence_fault_once line f g (inl h) (inl k) = h.0 ∙ sym k.0
sentence_fault_once line f g (inl h) (inr k) = let r : Says sentence_word IsRefusedText line = k.1 in absurd (h.1 r.text r.behind)
sentence_fault_once line f g (inr h) (inl k) = let r : Says sentence_word IsRefusedText line = h.1 in absurd (k.1 r.text r.behind)
sentence_fault_once line f g (inr h) (inr k) = h.0 ∙ sym k.0

two : (m n : ℕ) → m ≡ n → eqb m n ≡ false → ⊥
two m n e f = let g : eqb m n ≡ true = eq-eqb m n e in cc

truth_once : (b c : Bool) → truth_word b ≡ truth_word c → b ≡ c
truth_once true true e = refl
truth_once true false e = absurd (two 116 102 (ap (λ (xs : List ℕ). get_or xs 0 0) e) refl)
truth_once false true e = absurd (two 102 116 (ap (λ (xs : List ℕ). get_or xs 0 0) e) refl)
truth_once false false e = refl

pub commit_once : (line : List ℕ) (b c : Bool) → IsCommitLine b line → IsCommitLine c line → b ≡ c
commit_once line b c h k = truth_once b c (sym h.holds ∙ text_once commit_word line h.text k.text h.behind k.behind ∙ k.holds)

some_once : (ns ms : List ℕ) → map Some ns ≡ map Some ms → ns ≡ ms
some_once [] [] e = refl
some_once [] (m ∷ ms) e = absurd (cc)
some_once (n ∷ ns) [] e = absurd (cc)
some_once (n ∷ ns) (m ∷ ms) e =
    let h : n ≡ m = cc in
    let t : map Some ns ≡ map Some ms = cc in
    ap₂ ◌∷◌ h (some_once ns ms t)

pub choices_once : (line : List ℕ) (ns ms : List ℕ) → IsChoicesLine ns line → IsChoicesLine ms line → ns ≡ ms
choices_once line ns ms h k =
    let e : h.text ≡ k.text = text_once choices_word line h.text k.text h.behind k.behind in
    let w : IsChoices h.text ms = subst (λ x. IsChoices x ms) (sym e) k.holds in
    some_once ns ms (sym h.holds.written ∙ w.written)
