-- Bytes and the tokens that they are, put together from the back: a blank, a sign or an identifier before what follows.
use Rattle.std.proofs.Common.{◌≡◌, ℕ, ◌+◌, true, List, [], ◌∷◌, ◌++◌, length, Some, refl, ap, sym, subst, append_assoc}
use Rattle.std.proofs.lemmas.List.{append-nil}
use Rattle.fol_core.specs.Word.{Word, is_ident}
use Rattle.fol_text.specs.declared.token.Token.{Token}
use Rattle.fol_text.specs.declared.token.Token.TheVariants.{NotSign, AndSign, OrSign, IfSign, IffSign, AllSign, ExistsSign, FalsumSign, Equals, Unequal, Open, Close, Comma, Identifier}
use Rattle.fol_text.specs.declared.token.Placed.{Placed}
use Rattle.fol_text.specs.Tokens.{typed_sign, typed, ends_word, sign, identifier, placed, tokens_of, AreTokens, at_end, blank, token}

-- From this place on the bytes are these tokens.
pub record PlacedAs (n : ℕ) (bs : List ℕ) (ks : List Token) : Type 0 where
  pub tokens : List Placed
  pub are : AreTokens n bs tokens
  pub same : tokens_of tokens ≡ ks

-- Wherever the bytes stand, they are these tokens.
pub record Reads (bs : List ℕ) (ks : List Token) : Type 0 where
  pub from_place : (n : ℕ) → PlacedAs n bs ks

pub nothing_reads : Reads [] []
nothing_reads = record { from_place = λ n. record { tokens = []; are = at_end n; same = refl } }

blank_reads : (bs : List ℕ) (ks : List Token) → Reads bs ks → Reads (32 ∷ bs) ks
blank_reads bs ks r = record {
  from_place = λ n.
      let p = r.from_place (n + 1) in
      record { tokens = p.tokens; are = blank n 32 bs p.tokens refl p.are; same = p.same };
}

sign_reads : (b : ℕ) (k : Token) (bs : List ℕ) (ks : List Token) → typed_sign b ≡ Some k → Reads bs ks → Reads (b ∷ bs) (k ∷ ks)
sign_reads b k bs ks e r = record {
  from_place = λ n.
      let p = r.from_place (n + 1) in
      record {
        tokens = placed n k ∷ p.tokens;
        are = token n (b ∷ []) k bs p.tokens (sign (b ∷ []) k bs (typed b k e)) p.are;
        same = ap (λ (js : List Token). k ∷ js) p.same;
      };
}

word_reads : (w : Word) (bs : List ℕ) (ks : List Token) → is_ident w ≡ true → ends_word bs ≡ true → Reads bs ks → Reads (w ++ bs) (Identifier w ∷ ks)
word_reads w bs ks i e r = record {
  from_place = λ n.
      let p = r.from_place (n + length w) in
      record {
        tokens = placed n (Identifier w) ∷ p.tokens;
        are = token n w (Identifier w) bs p.tokens (identifier w bs i e) p.are;
        same = ap (λ (js : List Token). Identifier w ∷ js) p.same;
      };
}

-- The text is these tokens wherever it stands before something that ends an identifier.
pub record Written (text : List ℕ) (ks : List Token) : Type 0 where
  pub before : (rest : List ℕ) (js : List Token) → ends_word rest ≡ true → Reads rest js → Reads (text ++ rest) (ks ++ js)

nothing_written : Written [] []
nothing_written = record { before = λ rest js e r. r }

pub blank_written : (t : List ℕ) (ks : List Token) → Written t ks → Written (32 ∷ t) ks
blank_written t ks h = record { before = λ rest js e r. blank_reads (t ++ rest) (ks ++ js) (h.before rest js e r) }

pub sign_written : (b : ℕ) (k : Token) (t : List ℕ) (ks : List Token) → typed_sign b ≡ Some k → Written t ks → Written (b ∷ t) (k ∷ ks)
sign_written b k t ks i h = record { before = λ rest js e r. sign_reads b k (t ++ rest) (ks ++ js) i (h.before rest js e r) }

pub word_written : (w : Word) → is_ident w ≡ true → Written w (Identifier w ∷ [])
word_written w i = record { before = λ rest js e r. word_reads w rest js i e r }

-- A text before another one that doesn't go on with an identifier.
pub both_written : (t u : List ℕ) (ks js : List Token) → Written t ks → Written u js → ((rest : List ℕ) → ends_word (u ++ rest) ≡ true) → Written (t ++ u) (ks ++ js)
both_written t u ks js h i ends = record {
  before = λ rest ls e r.
      let all : Reads (t ++ (u ++ rest)) (ks ++ (js ++ ls)) = h.before (u ++ rest) (js ++ ls) (ends rest) (i.before rest ls e r) in
      subst (λ (bs : List ℕ). Reads bs ((ks ++ js) ++ ls)) (sym (append_assoc t u rest))
      (subst (λ (ms : List Token). Reads (t ++ (u ++ rest)) ms) (sym (append_assoc ks js ls)) all);
}

pub sign_alone : (b : ℕ) (k : Token) → typed_sign b ≡ Some k → Written (b ∷ []) (k ∷ [])
sign_alone b k i = sign_written b k [] [] i nothing_written

-- the typed signs

pub not_typed : typed_sign 126 ≡ Some NotSign
unfolding typed_sign
not_typed = refl

pub and_typed : typed_sign 38 ≡ Some AndSign
unfolding typed_sign
and_typed = refl

pub or_typed : typed_sign 124 ≡ Some OrSign
unfolding typed_sign
or_typed = refl

pub if_typed : typed_sign 36 ≡ Some IfSign
unfolding typed_sign
if_typed = refl

pub iff_typed : typed_sign 37 ≡ Some IffSign
unfolding typed_sign
iff_typed = refl

pub all_typed : typed_sign 64 ≡ Some AllSign
unfolding typed_sign
all_typed = refl

pub exists_typed : typed_sign 47 ≡ Some ExistsSign
unfolding typed_sign
exists_typed = refl

pub falsum_typed : typed_sign 94 ≡ Some FalsumSign
unfolding typed_sign
falsum_typed = refl

pub equals_typed : typed_sign 61 ≡ Some Equals
unfolding typed_sign
equals_typed = refl

pub unequal_typed : typed_sign 35 ≡ Some Unequal
unfolding typed_sign
unequal_typed = refl

open_typed : typed_sign 40 ≡ Some Open
unfolding typed_sign
open_typed = refl

close_typed : typed_sign 41 ≡ Some Close
unfolding typed_sign
close_typed = refl

comma_typed : typed_sign 44 ≡ Some Comma
unfolding typed_sign
comma_typed = refl

-- A text in parentheses.
pub group_written : (t : List ℕ) (ks : List Token) → Written t ks → Written (40 ∷ t ++ 41 ∷ []) (Open ∷ ks ++ Close ∷ [])
group_written t ks h = sign_written 40 Open (t ++ 41 ∷ []) (ks ++ Close ∷ []) open_typed (both_written t (41 ∷ []) ks (Close ∷ []) h (sign_alone 41 Close close_typed) (λ rest. refl))

-- Two texts with a comma between them.
pub comma_written : (t u : List ℕ) (ks js : List Token) → Written t ks → Written u js → Written ((t ++ 44 ∷ []) ++ u) (ks ++ Comma ∷ js)
comma_written t u ks js h i =
    subst (λ (bs : List ℕ). Written bs (ks ++ Comma ∷ js)) (sym (append_assoc t (44 ∷ []) u))
    (both_written t (44 ∷ u) ks (Comma ∷ js) h (sign_written 44 Comma u js comma_typed i) (λ rest. refl))

-- Two texts with a sign between them, and a space on each side of it.
pub spaced_written : (b : ℕ) (k : Token) (t u : List ℕ) (ks js : List Token) → typed_sign b ≡ Some k → Written t ks → Written u js → Written (t ++ 32 ∷ b ∷ 32 ∷ u) (ks ++ k ∷ js)
spaced_written b k t u ks js e h i =
    both_written t (32 ∷ b ∷ 32 ∷ u) ks (k ∷ js) h (blank_written (b ∷ 32 ∷ u) (k ∷ js) (sign_written b k (32 ∷ u) js e (blank_written u js i))) (λ rest. refl)

-- A quantifier with its variable, a space and what follows.
pub quantifier_written : (b : ℕ) (k : Token) (x : Word) (t : List ℕ) (ks : List Token) → typed_sign b ≡ Some k → is_ident x ≡ true → Written t ks → Written (b ∷ x ++ 32 ∷ t) (k ∷ Identifier x ∷ ks)
quantifier_written b k x t ks e i h =
    sign_written b k (x ++ 32 ∷ t) (Identifier x ∷ ks) e (both_written x (32 ∷ t) (Identifier x ∷ []) ks (word_written x i) (blank_written t ks h) (λ rest. refl))

-- The whole text, where nothing follows.
pub text_reads : (t : List ℕ) (ks : List Token) → Written t ks → PlacedAs 0 t ks
text_reads t ks h =
    subst (λ (bs : List ℕ). PlacedAs 0 bs ks) (append-nil t)
    (subst (λ (js : List Token). PlacedAs 0 (t ++ []) js) (append-nil ks) ((h.before [] [] refl nothing_reads).from_place 0))
