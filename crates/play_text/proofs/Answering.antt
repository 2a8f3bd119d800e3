-- What the reader of a line answers, from what stands behind the keyword.
use Rattle.std.proofs.Common.{◌≡◌, ◌∙◌, ℕ, Bool, List, refl, Result, Ok, Err, inl, inr}
use Rattle.std.specs.Prelude.{◌⊎◌, IfOk, IfErr}
use Rattle.fol_core.specs.declared.sent.Sent.{Sent}
use Rattle.fol_text.specs.Readable.{IsReadable}
use Rattle.play_text.specs.declared.play.PlayFault.{PlayFault}
use Rattle.play_text.specs.declared.play.PlayFault.TheVariants.{Form, Sentence, Memory}
use Rattle.play_text.specs.Keywords.{IsBehind}
use Rattle.play_text.specs.PlayLines.{sentence_word, commit_word, choices_word, truth_word, IsChoices, IsSentenceLine, IsChoicesLine}
use Rattle.play_text.specs.PlayFaults.{IsRefusedText, SentenceFails, CommitFails, ChoicesFails}
use Rattle.play_text.proofs.Saying.{text_once}

pub sentence_read : (line text : List ℕ) (r : Result Sent PlayFault) → IsBehind sentence_word line text → IfOk r (IsReadable text) → IfOk r (λ s. IsSentenceLine s line)
sentence_read line text (Ok s) b h = record { text = text; behind = b; holds = h }
sentence_read line text (Err f) b h = tt

pub sentence_refused : (line text : List ℕ) (r : Result Sent PlayFault) → IsBehind sentence_word line text → IfErr r (λ f. (f ≡ Memory) ⊎ ((f ≡ Sentence) × IsRefusedText text)) → IfErr r (λ f. (f ≡ Memory) ⊎ SentenceFails line f)
sentence_refused line text (Ok s) b h = tt
sentence_refused line text (Err f) b (inl m) = inl m
sentence_refused line text (Err f) b (inr h) = inr (inr (h.0, record { text = text; behind = b; holds = h.1 }))

pub no_sentence : (line : List ℕ) → ((text : List ℕ) → IsBehind sentence_word line text → ⊥) → (Form ≡ Memory) ⊎ SentenceFails line Form
no_sentence line h = inr (inl (refl, h))

pub choices_read : (line text : List ℕ) (r : Result (List ℕ) PlayFault) → IsBehind choices_word line text → IfOk r (IsChoices text) → IfOk r (λ ns. IsChoicesLine ns line)
choices_read line text (Ok s) b h = record { text = text; behind = b; holds = h }
choices_read line text (Err f) b h = tt

none_said : (line text : List ℕ) → IsBehind choices_word line text → ((ns : List ℕ) → IsChoices text ns → ⊥) → (ns : List ℕ) → IsChoicesLine ns line → ⊥
none_said line text b h ns k = h ns (rw (text_once choices_word line text k.text b k.behind) k.holds)

pub choices_refused : (line text : List ℕ) (r : Result (List ℕ) PlayFault) → IsBehind choices_word line text → IfErr r (λ f. (f ≡ Memory) ⊎ ((f ≡ Form) × ((ns : List ℕ) → IsChoices text ns → ⊥))) →
    IfErr r (λ f. (f ≡ Memory) ⊎ ChoicesFails line f)
choices_refused line text (Ok s) b h = tt
choices_refused line text (Err f) b (inl m) = inl m
choices_refused line text (Err f) b (inr h) = inr (h.0, none_said line text b h.1)

pub no_choices_said : (line : List ℕ) → ((text : List ℕ) → IsBehind choices_word line text → ⊥) → (Form ≡ Memory) ⊎ ChoicesFails line Form
no_choices_said line h = inr (refl, λ ns k. h k.text k.behind)

pub no_commitment : (line : List ℕ) → ((text : List ℕ) → IsBehind commit_word line text → ⊥) → CommitFails line Form
no_commitment line h = (refl, λ b k. h k.text k.behind)

pub other_commitment : (line text : List ℕ) → IsBehind commit_word line text → ((b : Bool) → text ≡ truth_word b → ⊥) → CommitFails line Form
other_commitment line text b h = (refl, λ v k. h v (text_once commit_word line text k.text b k.behind ∙ k.holds))
