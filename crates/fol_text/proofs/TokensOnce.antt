-- A text has one list of tokens at most, and none where a byte begins no token.
use Rattle.std.proofs.Common.{◌≡◌, ℕ, ◌+◌, true, false, List, [], ◌∷◌, ◌++◌, length, refl, ap, sym, ◌∙◌, subst, arith, length-append}
use Rattle.texts.specs.Blanks.{is_blank}
use Rattle.fol_text.specs.declared.token.Token.{Token}
use Rattle.fol_text.specs.declared.token.Placed.{Placed}
use Rattle.fol_text.specs.Tokens.{placed, SpellsToken, AreTokens, at_end, blank, token, StartsNone, IsBadAt, starts_none, past_blank, past_token}
use Rattle.fol_text.specs.Lexer.{first_token}
use Rattle.fol_text.proofs.Lexing.{token_first, token_starts, some_same}

no_bytes : {w : List ℕ} {k : Token} {rest : List ℕ} → SpellsToken w k rest → [] ≡ w ++ rest → ⊥
no_bytes {w} {k} {rest} i e =
    let s = token_starts i in
    let f : [] ≡ (s.byte ∷ s.others) ++ rest = e ∙ ap (λ (v : List ℕ). v ++ rest) s.is in cc

pub no_blank : {w : List ℕ} {k : Token} {rest : List ℕ} → SpellsToken w k rest → (b : ℕ) (bs : List ℕ) → b ∷ bs ≡ w ++ rest → is_blank b ≡ false
no_blank {w} {k} {rest} i b bs e =
    let s = token_starts i in
    let f : b ∷ bs ≡ (s.byte ∷ s.others) ++ rest = e ∙ ap (λ (v : List ℕ). v ++ rest) s.is in
    let same : s.byte ≡ b = cc in subst (λ (c : ℕ). is_blank c ≡ false) same s.no_blank

pub two_ways : (b : ℕ) → is_blank b ≡ true → is_blank b ≡ false → ⊥
two_ways b e f = cc

pub same_length : (v bs w rest : List ℕ) → v ++ bs ≡ w ++ rest → bs ≡ rest → length v ≡ length w
same_length v bs w rest e f = omega (arith, ap length e, ap length f, length-append v bs, length-append w rest)

-- the first of the tokens, and the tokens of the bytes after it
pub record FirstGone (n : ℕ) (w : List ℕ) (k : Token) (rest : List ℕ) (ks : List Placed) : Type 0 where
  pub others : List Placed
  pub is : ks ≡ placed n k ∷ others
  pub are_others : AreTokens (n + length w) rest others

pub first_of : {n : ℕ} {bs : List ℕ} {ks : List Placed} → AreTokens n bs ks → (w : List ℕ) (k : Token) (rest : List ℕ) → bs ≡ w ++ rest → SpellsToken w k rest → FirstGone n w k rest ks
first_of (at_end n) w k rest e i = absurd (no_bytes i e)
first_of (blank n b bs ks c t) w k rest e i = absurd (two_ways b c (no_blank i b bs e))
first_of (token n v j bs ks s t) w k rest e i =
    let same : (j, bs) ≡ (k, rest) = some_same (j, bs) (k, rest) (sym (token_first s) ∙ ap first_token e ∙ token_first i) in
    let same_rest : bs ≡ rest = ap (λ (x : Token × List ℕ). x.1) same in
    record {
      others = ks;
      is = ap (λ (x : Token × List ℕ). placed n x.0 ∷ ks) same;
      are_others = subst (λ (m : ℕ). AreTokens (n + m) rest ks) (same_length v bs w rest e same_rest) (subst (λ (cs : List ℕ). AreTokens (n + length v) cs ks) same_rest t);
    }

-- a blank in front of tokens is passed over
pub blank_gone : {n : ℕ} {bs : List ℕ} {ks : List Placed} → AreTokens n bs ks → (c : ℕ) (cs : List ℕ) → bs ≡ c ∷ cs → is_blank c ≡ true → AreTokens (n + 1) cs ks
blank_gone (at_end n) c cs e f = cc
blank_gone (blank n b bs ks i t) c cs e f = let same : bs ≡ cs = cc in subst (λ (ds : List ℕ). AreTokens (n + 1) ds ks) same t
blank_gone (token n w k bs ks s t) c cs e f = absurd (two_ways c f (no_blank s c cs (sym e)))

-- no bytes, no tokens
end_of : {n : ℕ} {bs : List ℕ} {ks : List Placed} → AreTokens n bs ks → bs ≡ [] → ks ≡ []
end_of (at_end n) e = refl
end_of (blank n b bs ks i t) e = cc
end_of (token n w k bs ks s t) e = absurd (no_bytes s (sym e))

pub tokens_once : {n : ℕ} {bs : List ℕ} {ks : List Placed} → AreTokens n bs ks → (js : List Placed) → AreTokens n bs js → ks ≡ js
tokens_once (at_end n) js u = sym (end_of u refl)
tokens_once (blank n b bs ks i t) js u = tokens_once t js (blank_gone u b bs refl i)
tokens_once (token n w k bs ks s t) js u =
    let f = first_of u w k bs refl s in
    ap (λ (xs : List Placed). placed n k ∷ xs) (tokens_once t f.others f.are_others) ∙ sym f.is

none_starts : {n : ℕ} {bs : List ℕ} {ks : List Placed} → AreTokens n bs ks → (b : ℕ) (cs : List ℕ) → bs ≡ b ∷ cs → is_blank b ≡ false → StartsNone bs → ⊥
none_starts (at_end n) b cs e f none = cc
none_starts (blank n c bs ks i t) b cs e f none = let same : c ≡ b = cc in two_ways b (subst (λ (d : ℕ). is_blank d ≡ true) same i) f
none_starts (token n w k bs ks s t) b cs e f none = none w k bs refl s

pub bad_has_none : {n : ℕ} {bs : List ℕ} {p : ℕ} → IsBadAt n bs p → (ks : List Placed) → AreTokens n bs ks → ⊥
bad_has_none (starts_none n b bs e none) ks t = none_starts t b bs refl e none
bad_has_none (past_blank n b bs p e d) ks t = bad_has_none d ks (blank_gone t b bs refl e)
bad_has_none (past_token n w k bs p s d) ks t = let f = first_of t w k bs refl s in bad_has_none d f.others f.are_others
