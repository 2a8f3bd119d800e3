-- A text has at most one first byte where no token begins.
use Rattle.std.proofs.Common.{◌≡◌, ℕ, ◌+◌, true, false, List, ◌∷◌, ◌++◌, length, refl, ap, sym, ◌∙◌, subst}
use Rattle.texts.specs.Blanks.{is_blank}
use Rattle.fol_text.specs.declared.token.Token.{Token}
use Rattle.fol_text.specs.Tokens.{SpellsToken, StartsNone, IsBadAt, starts_none, past_blank, past_token}
use Rattle.fol_text.specs.Lexer.{first_token}
use Rattle.fol_text.proofs.Lexing.{token_first, some_same}
use Rattle.fol_text.proofs.TokensOnce.{no_blank, two_ways, same_length}

-- a bad byte behind a token
past_a_token : {n : ℕ} {bs : List ℕ} {p : ℕ} → IsBadAt n bs p → (w : List ℕ) (k : Token) (rest : List ℕ) → bs ≡ w ++ rest → SpellsToken w k rest → IsBadAt (n + length w) rest p
past_a_token (starts_none n b bs e none) w k rest f i = absurd (none w k rest f i)
past_a_token (past_blank n b bs p c d) w k rest f i = absurd (two_ways b c (no_blank i b bs f))
past_a_token (past_token n v j bs p s d) w k rest f i =
    let same : (j, bs) ≡ (k, rest) = some_same (j, bs) (k, rest) (sym (token_first s) ∙ ap first_token f ∙ token_first i) in
    let same_rest : bs ≡ rest = ap (λ (x : Token × List ℕ). x.1) same in
    subst (λ (m : ℕ). IsBadAt (n + m) rest p) (same_length v bs w rest f same_rest) (subst (λ (cs : List ℕ). IsBadAt (n + length v) cs p) same_rest d)

-- a bad byte behind a blank
past_a_blank : {n : ℕ} {bs : List ℕ} {p : ℕ} → IsBadAt n bs p → (c : ℕ) (cs : List ℕ) → bs ≡ c ∷ cs → is_blank c ≡ true → IsBadAt (n + 1) cs p
past_a_blank (starts_none n b bs e none) c cs f i = let same : b ≡ c = cc in absurd (two_ways c i (subst (λ (d : ℕ). is_blank d ≡ false) same e))
past_a_blank (past_blank n b bs p i d) c cs f j = let same : bs ≡ cs = cc in subst (λ (ds : List ℕ). IsBadAt (n + 1) ds p) same d
past_a_blank (past_token n w k bs p s d) c cs f i = absurd (two_ways c i (no_blank s c cs (sym f)))

-- a bad byte in front
in_front : {n : ℕ} {bs : List ℕ} {p : ℕ} → IsBadAt n bs p → (c : ℕ) (cs : List ℕ) → bs ≡ c ∷ cs → is_blank c ≡ false → StartsNone bs → n ≡ p
in_front (starts_none n b bs e none) c cs f i h = refl
in_front (past_blank n b bs p e d) c cs f i h = let same : b ≡ c = cc in absurd (two_ways c (subst (λ (a : ℕ). is_blank a ≡ true) same e) i)
in_front (past_token n w k bs p s d) c cs f i h = absurd (h w k bs refl s)

pub bad_once : {n : ℕ} {bs : List ℕ} {p : ℕ} → IsBadAt n bs p → (q : ℕ) → IsBadAt n bs q → p ≡ q
bad_once (starts_none n b bs e none) q d = in_front d b bs refl e none
bad_once (past_blank n b bs p e c) q d = bad_once c q (past_a_blank d b bs refl e)
bad_once (past_token n w k bs p s c) q d = bad_once c q (past_a_token d w k bs refl s)
