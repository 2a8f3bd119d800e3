-- The words of a line, one by one.
use Rattle.std.proofs.Common.{◌≡◌, ◌≢◌, ℕ, ◌<◌, ◌≤◌, Bool, true, false, not, List, [], ◌∷◌, ◌++◌, length, take, drop, get_or, refl, sym, ap, subst, ◌∙◌, append-nil, take-append-drop, take_all}
use Rattle.std.specs.List.{list_all}
use Rattle.std.proofs.lemmas.Bool.{and_parts}
use Rattle.std.proofs.Math.Seq.{drop-cons}
use Rattle.texts.specs.Blanks.{is_blank, after_blanks}
use Rattle.world_text.specs.Lines.{is_blank_line, words, with_byte, joined, begins_word}

abbrev pub no_blank : List ℕ → Bool
no_blank xs = list_all (λ b. not (is_blank b)) xs

not_true : (b : Bool) → not b ≡ true → b ≡ false
not_true true h = absurd (cc)
not_true false h = refl

trim_at : (b : ℕ) (bs : List ℕ) (c : Bool) → is_blank b ≡ c → words (after_blanks bs) ≡ words bs → words (after_blanks (b ∷ bs)) ≡ words (b ∷ bs)
trim_at b bs true e ih = rw e ih
trim_at b bs false e ih = rw e (rw e refl)

-- blanks in front make no word
pub words_trim : (bs : List ℕ) → words (after_blanks bs) ≡ words bs
words_trim [] = refl
words_trim (b ∷ bs) = trim_at b bs (is_blank b) refl (words_trim bs)

begins_at : (b : ℕ) (bs : List ℕ) (c : Bool) → is_blank b ≡ c → (after_blanks bs ≢ [] → begins_word (after_blanks bs) ≡ true) → after_blanks (b ∷ bs) ≢ [] → begins_word (after_blanks (b ∷ bs)) ≡ true
begins_at b bs true e ih = rw e ih
begins_at b bs false e ih = rw e (λ h. rw e refl)

-- what is left without the blanks in front begins with a word
pub word_begins : (bs : List ℕ) → after_blanks bs ≢ [] → begins_word (after_blanks bs) ≡ true
word_begins [] h = absurd (h refl)
word_begins (b ∷ bs) h = begins_at b bs (is_blank b) refl (word_begins bs) h

nothing_left : (s : List ℕ) → (s ≢ [] → begins_word s ≡ true) → begins_word s ≡ false → s ≡ []
nothing_left [] h k = refl
nothing_left (b ∷ bs) h k = let t : begins_word (b ∷ bs) ≡ true = h (λ e. absurd (cc)) in absurd (cc)

pub no_word : (t s : List ℕ) → s ≡ after_blanks t → begins_word s ≡ false → words t ≡ []
no_word t s e h = sym (words_trim t) ∙ ap words (sym e ∙ nothing_left s (λ n. subst (λ x. begins_word x ≡ true) (sym e) (word_begins t (λ k. n (e ∙ k)))) h)

pub words_from : (t s w r : List ℕ) → s ≡ after_blanks t → words s ≡ w ∷ words r → words t ≡ w ∷ words r
words_from t s w r e h = sym (words_trim t) ∙ ap words (sym e) ∙ h

-- the text is over, or a blank is next
abbrev pub ends_word : List ℕ → Bool
ends_word [] = true
ends_word (b ∷ bs) = is_blank b

one_byte : (b : ℕ) (rest : List ℕ) → ends_word rest ≡ true → with_byte b rest (words rest) ≡ (b ∷ []) ∷ words rest
one_byte b [] h = refl
one_byte b (c ∷ cs) h = rw h refl

-- a run of bytes that are no blanks, before a blank or the end, is the first word
pub words_split : (b : ℕ) (w rest : List ℕ) → no_blank (b ∷ w) ≡ true → ends_word rest ≡ true → words (b ∷ w ++ rest) ≡ (b ∷ w) ∷ words rest
words_split b [] rest h k =
    let p : (not (is_blank b) ≡ true) × (no_blank [] ≡ true) = and_parts (not (is_blank b)) (no_blank []) h in
    let f : is_blank b ≡ false = not_true (is_blank b) p.0 in
    rw f (one_byte b rest k)
words_split b (c ∷ w) rest h k =
    let p : (not (is_blank b) ≡ true) × (no_blank (c ∷ w) ≡ true) = and_parts (not (is_blank b)) (no_blank (c ∷ w)) h in
    let q : (not (is_blank c) ≡ true) × (no_blank w ≡ true) = and_parts (not (is_blank c)) (no_blank w) p.1 in
    let f : is_blank b ≡ false = not_true (is_blank b) p.0 in
    let g : is_blank c ≡ false = not_true (is_blank c) q.0 in
    let more : words (c ∷ w ++ rest) ≡ (c ∷ w) ∷ words rest = words_split c w rest p.1 k in
    let step : words (b ∷ c ∷ w ++ rest) ≡ joined b (words (c ∷ w ++ rest)) = rw f (rw g refl) in
    step ∙ ap (joined b) more

split_start : (w rest : List ℕ) → begins_word (w ++ rest) ≡ true → no_blank w ≡ true → ends_word rest ≡ true → words (w ++ rest) ≡ w ∷ words rest
split_start [] [] b h k = absurd (cc)
split_start [] (c ∷ cs) b h k = let e : is_blank c ≡ false = not_true (is_blank c) b in absurd (cc)
split_start (c ∷ w) rest b h k = words_split c w rest h k

ends_at : (text : List ℕ) (place : ℕ) → place < length text → is_blank (get_or text place 0) ≡ true → ends_word (drop place text) ≡ true
ends_at text place h b = rw (drop-cons text place 0) b

pub split_at_blank : (text : List ℕ) (place : ℕ) → begins_word text ≡ true → place < length text → no_blank (take place text) ≡ true → is_blank (get_or text place 0) ≡ true →
    words text ≡ take place text ∷ words (drop place text)
split_at_blank text place s h k b =
    ap words (sym (take-append-drop place text))
    ∙ split_start (take place text) (drop place text) (subst (λ t. begins_word t ≡ true) (sym (take-append-drop place text)) s) k (ends_at text place h b)

pub split_at_end : (text : List ℕ) (place : ℕ) → begins_word text ≡ true → length text ≤ place → no_blank (take place text) ≡ true → words text ≡ text ∷ words []
split_at_end text place s h k =
    let all : no_blank text ≡ true = subst (λ t. no_blank t ≡ true) (take_all place text h) k in
    ap words (sym (append-nil text)) ∙ split_start text [] (subst (λ t. begins_word t ≡ true) (sym (append-nil text)) s) all refl

blank_at : (b : ℕ) (bs : List ℕ) (c : Bool) → is_blank b ≡ c → (after_blanks bs ≡ [] → is_blank_line bs ≡ true) × (is_blank_line bs ≡ true → after_blanks bs ≡ []) →
    (after_blanks (b ∷ bs) ≡ [] → is_blank_line (b ∷ bs) ≡ true) × (is_blank_line (b ∷ bs) ≡ true → after_blanks (b ∷ bs) ≡ [])
blank_at b bs true e ih = rw e ih
blank_at b bs false e ih = rw e ((λ h. absurd (cc)), (λ h. absurd (cc)))

-- a line is blank where nothing is left of it without the blanks in front
pub blank_line : (bs : List ℕ) → (after_blanks bs ≡ [] → is_blank_line bs ≡ true) × (is_blank_line bs ≡ true → after_blanks bs ≡ [])
blank_line [] = ((λ h. refl), (λ h. refl))
blank_line (b ∷ bs) = blank_at b bs (is_blank b) refl (blank_line bs)
