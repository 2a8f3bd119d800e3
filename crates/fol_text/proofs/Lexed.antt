-- How far the lexer has come: the tokens that it has found, and what the bytes that are left say of the whole text.
use Rattle.std.proofs.Common.{◌≡◌, ◌≢◌, ℕ, suc, ◌+◌, ◌-◌, ◌<◌, ◌≤◌, ◌==◌, Bool, true, false, List, [], ◌∷◌, ◌++◌, length, Some, None, if◌then◌else◌, refl, ap, sym, ◌∙◌, subst, append_assoc, arith, length-append}
use Rattle.std.proofs.lemmas.List.{append-nil}
use Rattle.std.proofs.lemmas.Bool.Decides.{nat_tests}
use Rattle.texts.specs.Blanks.{is_blank}
use Rattle.fol_text.specs.declared.token.Token.{Token}
use Rattle.fol_text.specs.declared.token.Placed.{Placed}
use Rattle.fol_text.specs.Tokens.{placed, SpellsToken, AreTokens, at_end, blank, token, IsBadAt, starts_none, past_blank, past_token}
use Rattle.fol_text.specs.Lexer.{Passes, a_blank, a_token, first_token, after_blank}
use Rattle.fol_text.proofs.Lexing.{token_starts, token_sound, no_token}

-- the place of the first byte that is left
abbrev pub place_of : List ℕ → List ℕ → ℕ
place_of text rest = length text - length rest

pub record Lexed (text : List ℕ) (found : List Placed) (rest : List ℕ) : Type 0 where
  pub within : length rest ≤ length text
  pub tokens : (ks : List Placed) → AreTokens (place_of text rest) rest ks → AreTokens 0 text (found ++ ks)
  pub bad : (p : ℕ) → IsBadAt (place_of text rest) rest p → IsBadAt 0 text p

past_one : (n r : ℕ) → suc r ≤ n → n - r ≡ n - suc r + 1
past_one n r e = omega arith

past_some : (n r w : ℕ) → w + r ≤ n → n - r ≡ n - (w + r) + w
past_some n r w e = omega arith

blank_passed : (text : List ℕ) (found : List Placed) (b : ℕ) (rest : List ℕ) → Lexed text found (b ∷ rest) → is_blank b ≡ true → Lexed text found rest
blank_passed text found b rest l e = record {
  within = omega (arith, l.within);
  tokens = λ ks t. l.tokens ks (blank (place_of text (b ∷ rest)) b rest ks e (subst (λ (n : ℕ). AreTokens n rest ks) (past_one (length text) (length rest) l.within) t));
  bad = λ p t. l.bad p (past_blank (place_of text (b ∷ rest)) b rest p e (subst (λ (n : ℕ). IsBadAt n rest p) (past_one (length text) (length rest) l.within) t));
}

token_at : (text w rest : List ℕ) → length (w ++ rest) ≤ length text → place_of text rest ≡ place_of text (w ++ rest) + length w
token_at text w rest e = omega (arith, e, length-append w rest)

token_passed : (text : List ℕ) (found : List Placed) (w : List ℕ) (k : Token) (rest : List ℕ) → Lexed text found (w ++ rest) → SpellsToken w k rest → Lexed text (found ++ placed (place_of text (w ++ rest)) k ∷ []) rest
token_passed text found w k rest l s = record {
  within = omega (arith, l.within, length-append w rest);
  tokens = λ ks t. subst (λ (js : List Placed). AreTokens 0 text js) (sym (append_assoc found (placed (place_of text (w ++ rest)) k ∷ []) ks))
      (l.tokens (placed (place_of text (w ++ rest)) k ∷ ks) (token (place_of text (w ++ rest)) w k rest ks s (subst (λ (n : ℕ). AreTokens n rest ks) (token_at text w rest l.within) t)));
  bad = λ p t. l.bad p (past_token (place_of text (w ++ rest)) w k rest p s (subst (λ (n : ℕ). IsBadAt n rest p) (token_at text w rest l.within) t));
}

passed_by : {n : ℕ} {bs : List ℕ} {ks : List Placed} {rest : List ℕ} → Passes n bs ks rest → (text : List ℕ) (found : List Placed) → Lexed text found bs → n ≡ place_of text bs → Lexed text (found ++ ks) rest
passed_by (a_blank n b rest e) text found l i = subst (λ (js : List Placed). Lexed text js rest) (sym (append-nil found)) (blank_passed text found b rest l e)
passed_by (a_token n w k rest s) text found l i = subst (λ (m : ℕ). Lexed text (found ++ placed m k ∷ []) rest) (sym i) (token_passed text found w k rest l s)

pub passed : (n : ℕ) (bs : List ℕ) (ks : List Placed) (rest text : List ℕ) (found after : List Placed) → Passes n bs ks rest → Lexed text found bs → n ≡ place_of text bs → after ≡ found ++ ks → Lexed text after rest
passed n bs ks rest text found after p l i e = subst (λ (js : List Placed). Lexed text js rest) (sym e) (passed_by p text found l i)

token_some : {w : List ℕ} {k : Token} {rest : List ℕ} → SpellsToken w k rest → 0 < length w
token_some i = let s = token_starts i in omega (arith, ap length s.is)

pub shorter : {n : ℕ} {bs : List ℕ} {ks : List Placed} {rest : List ℕ} → Passes n bs ks rest → length rest < length bs
shorter (a_blank n b rest e) = omega arith
shorter (a_token n w k rest s) = omega (arith, token_some s, length-append w rest)

pub all_lexed : (text : List ℕ) (found : List Placed) (rest : List ℕ) → Lexed text found rest → rest ≡ [] → AreTokens 0 text found
all_lexed text found rest l e =
    subst (λ (js : List Placed). AreTokens 0 text js) (append-nil found)
    (l.tokens [] (subst (λ (bs : List ℕ). AreTokens (place_of text rest) bs []) (sym e) (at_end (place_of text rest))))

-- what the code finds at the front

some_same : (x y : List ℕ) → Some x ≡ Some y → x ≡ y
some_same x y e = cc

blank_passes_by : (n b : ℕ) (bs after : List ℕ) (t : Bool) → is_blank b ≡ t → (if t then Some bs else None) ≡ Some after → Passes n (b ∷ bs) [] after
blank_passes_by n b bs after true i e = subst (λ (cs : List ℕ). Passes n (b ∷ bs) [] cs) (some_same bs after e) (a_blank n b bs i)
blank_passes_by n b bs after false i e = cc

no_blank : (b : ℕ) (bs : List ℕ) (t : Bool) → is_blank b ≡ t → (if t then Some bs else None) ≡ None → is_blank b ≡ false
no_blank b bs true i e = cc
no_blank b bs false i e = i

pub blank_passes : (n : ℕ) (bs after : List ℕ) → after_blank bs ≡ Some after → Passes n bs [] after
blank_passes n [] after e = cc
blank_passes n (b ∷ bs) after e = blank_passes_by n b bs after (is_blank b) refl e

pub token_passes : (n : ℕ) (bs : List ℕ) (k : Token) (after : List ℕ) → first_token bs ≡ Some (k, after) → Passes n bs (placed n k ∷ []) after
token_passes n bs k after e = let f = token_sound bs k after e in subst (λ (cs : List ℕ). Passes n cs (placed n k ∷ []) after) (sym f.splits) (a_token n f.spelling k after f.spells)

pub none_is_bad : (n : ℕ) (bs : List ℕ) → bs ≢ [] → after_blank bs ≡ None → first_token bs ≡ None → IsBadAt n bs n
none_is_bad n [] h e f = absurd (h refl)
none_is_bad n (b ∷ bs) h e f = starts_none n b bs (no_blank b bs (is_blank b) refl e) (no_token (b ∷ bs) f)

-- what the test of the loop says

not_empty : (n : ℕ) → (suc n == 0) ≡ true → ⊥
not_empty n e = grind (arith, nat_tests)

pub no_bytes : (bs : List ℕ) (empty : Bool) → empty ≡ (length bs == 0) → empty ≡ true → bs ≡ []
no_bytes [] empty e f = refl
no_bytes (b ∷ bs) empty e f = absurd (not_empty (length bs) (sym e ∙ f))
