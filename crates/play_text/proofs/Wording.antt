-- The words of a text, one by one.
use Rattle.std.proofs.Common.{◌≡◌, ℕ, zero, suc, ◌<◌, true, false, not, List, [], ◌∷◌, length, drop, get_or, arith, ap, length-drop}
use Rattle.texts.specs.Blanks.{is_blank, after_blanks}
use Rattle.world_text.specs.Lines.{words, begins_word}
use Rattle.world_text.proofs.Wording as world
use Rattle.physical_lines.proofs.Lengths.{after_blanks_fits}

pub no_word : (t s : List ℕ) → s ≡ after_blanks t → begins_word s ≡ false → words t ≡ []
no_word t s e h = world.no_word t s e h

pub words_from : (t s w r : List ℕ) → s ≡ after_blanks t → words s ≡ w ∷ words r → words t ≡ w ∷ words r
words_from t s w r e h = world.words_from t s w r e h

pub shorter_from : (t s r : List ℕ) → s ≡ after_blanks t → length r < length s → length r < length t
shorter_from t s r e h = omega (arith, ap length e, after_blanks_fits t, h)

pub word_some : (t : List ℕ) → begins_word t ≡ true → 0 < length t
word_some [] h = absurd (cc)
word_some (b ∷ bs) h = omega arith

not_at_start : (t : List ℕ) → begins_word t ≡ true → is_blank (get_or t 0 0) ≡ true → ⊥
not_at_start [] h b = absurd (cc)
not_at_start (x ∷ xs) h b = let e : not (is_blank x) ≡ false = ap not b in absurd (cc)

-- what follows a word is shorter
pub shorter_back : (t : List ℕ) (place : ℕ) (r : List ℕ) → begins_word t ≡ true → place < length t → is_blank (get_or t place 0) ≡ true → r ≡ drop place t → length r < length t
shorter_back t zero r h k b e = absurd (not_at_start t h b)
shorter_back t (suc place) r h k b e = omega (arith, ap length e, length-drop (suc place) t, k)
