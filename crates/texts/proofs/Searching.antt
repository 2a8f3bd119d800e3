-- What a search for a byte has found cuts the text.
use Rattle.std.proofs.Common.{◌≡◌, ℕ, suc, ◌+◌, ◌-◌, ◌<◌, Bool, eqb, true, false, List, [], ◌∷◌, ◌++◌, length, take, drop, refl, ap, ap₂, sym, ◌∙◌, arith}
use Rattle.std.proofs.lemmas.Bool.{eqb-true}
use Rattle.std.proofs.lemmas.List.{get_or-take, length-take-le, length-drop, take-append-drop, drop_more}
use Rattle.std.proofs.Math.Seq.{take-length}
use Rattle.std.specs.Prelude.{slice_index}
use Rattle.memchr.specs.Find.{Nowhere, NoneBefore, Passes, is_byte}
use Rattle.texts.specs.Cuts.{Lacks, IsCut}

not_true : (b : Bool) → (b ≡ true → ⊥) → b ≡ false
not_true true h = absurd (h refl)
not_true false h = refl

none_of : (c : ℕ) (xs : List ℕ) → ((k : ℕ) → k < length xs → eqb (slice_index xs k) c ≡ true → ⊥) → Lacks c xs
none_of c [] h = refl
none_of c (x ∷ xs) h = rw (not_true (eqb x c) (h 0 (omega arith)), none_of c xs (λ k l e. h (suc k) (omega (arith, l)) e)) refl

pub nowhere_lacks : (c : ℕ) (text : List ℕ) → Nowhere (Passes (is_byte c) text) 0 (length text) → Lacks c text
nowhere_lacks c text h = none_of c text (λ k l e. h k (omega arith) l e)

front_lacks : (c : ℕ) (text : List ℕ) (n : ℕ) → NoneBefore (Passes (is_byte c) text) 0 (length text) n → Lacks c (take n text)
front_lacks c text n h = none_of c (take n text) (λ k l e.
    let below : k < n = omega (arith, rw (length-take-le n text (omega (arith, h.high))) at l) in
    h.before k (omega arith) below (ap (λ (b : ℕ). eqb b c) (sym (get_or-take n text k 0 below)) ∙ e))

rest_whole : (n : ℕ) (text : List ℕ) → drop n text ≡ take (length text - n) (drop n text)
rest_whole n text = sym (ap (λ (m : ℕ). take m (drop n text)) (sym (length-drop n text)) ∙ take-length (drop n text))

pub first_cuts : (c : ℕ) (text : List ℕ) (n : ℕ) → NoneBefore (Passes (is_byte c) text) 0 (length text) n → Passes (is_byte c) text n → IsCut c text (take n text) (take (length text - (n + 1)) (drop (n + 1) text))
first_cuts c text n h e = record {
  joined =
      sym (take-append-drop n text)
      ∙ ap (λ (rest : List ℕ). take n text ++ rest) (drop_more text n 0 h.high)
      ∙ ap₂ (λ (b : ℕ) (rest : List ℕ). take n text ++ b ∷ rest) (eqb-true (slice_index text n) c e) (rest_whole (n + 1) text);
  first = front_lacks c text n h;
}
