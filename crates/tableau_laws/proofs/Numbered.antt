-- The names k1, k2, k3 and so on are identifiers.
use Rattle.std.proofs.Common.{◌≡◌, ℕ, zero, suc, ◌+◌, ◌<◌, ◌%◌, ◌/◌, List, [], ◌∷◌, length, map, refl, ap, ap₂, sym, ◌∙◌, subst, Bool, true, false, IsTrue, ◌||◌, inl, inr, arith, true≢false}
use Rattle.std.specs.Prelude.{if◌then◌else◌, ◌&&◌, ◌==◌, nat_lt, Some}
use Rattle.std.specs.List.{list_all, range_with_len}
use Rattle.std.specs.Fmt.{decimal, digits, digits_onto, digit_glyph}
use Rattle.std.proofs.lemmas.Bool.{le-leb, lt-ltb}
use Rattle.fol_core.specs.Word.{Word, is_ident, is_letter, is_digit, goes_on}
use Rattle.tableau_laws.specs.Classes.{numbered, is_fresh, fresh}
use Rattle.fol_core.specs.declared.sent.Term.{Term}
use Rattle.tableau_laws.proofs.Lists.{Elem}
use Rattle.tableau_laws.proofs.Finding.{found_in}

small : (b : Bool) (d : ℕ) → b ≡ true → (if b then 48 + d else 87 + d) ≡ 48 + d
small true d e = refl
small false d e = absurd (true≢false (sym e))

digit : (d : ℕ) → d < 10 → is_digit (digit_glyph false d) ≡ true
digit d h = ap is_digit (small (nat_lt d 10) d (lt-ltb d 10 h)) ∙ ap₂ ◌&&◌ (le-leb 48 (48 + d) (omega arith)) (le-leb (48 + d) 57 (omega (arith, h)))

goes : (a b c : Bool) → b ≡ true → ((a || b) || c) ≡ true
goes true b c e = refl
goes false true c e = refl
goes false false true e = refl
goes false false false e = e

digit_goes_on : (n : ℕ) → goes_on (digit_glyph false (n % 10)) ≡ true
digit_goes_on n = goes (is_letter (digit_glyph false (n % 10))) (is_digit (digit_glyph false (n % 10))) _ (digit (n % 10) (omega arith))

each_at : (t : Bool) (xs ys : List ℕ) → list_all goes_on xs ≡ true → list_all goes_on ys ≡ true → list_all goes_on (if t then xs else ys) ≡ true
each_at true xs ys h k = h
each_at false xs ys h k = k

all_go_on : (k n : ℕ) (acc : List ℕ) → list_all goes_on acc ≡ true → list_all goes_on (digits_onto k 10 false n acc) ≡ true
all_go_on zero n acc h = h
all_go_on (suc k) n acc h =
    let more : list_all goes_on (digit_glyph false (n % 10) ∷ acc) ≡ true = ap₂ ◌&&◌ (digit_goes_on n) h in
    each_at (n / 10 == 0) (digit_glyph false (n % 10) ∷ acc) (digits_onto k 10 false (n / 10) (digit_glyph false (n % 10) ∷ acc)) more (all_go_on k (n / 10) (digit_glyph false (n % 10) ∷ acc) more)

decimal_goes_on : (n : ℕ) → list_all goes_on (decimal n) ≡ true
unfolding digits
decimal_goes_on n = all_go_on 64 n [] refl

pub numbered_ident : (i : ℕ) → IsTrue (is_ident (numbered i))
numbered_ident i = decimal_goes_on i

each_ident : (k i : ℕ) (n : Word) → Elem (map numbered (range_with_len i k)) n → IsTrue (is_ident n)
each_ident zero i n h = absurd h
each_ident (suc k) i n h = elim h [ inl e ↦ subst (λ w. IsTrue (is_ident w)) e (numbered_ident i) | inr e ↦ each_ident k (i + 1) n e ]

-- So is the fresh one.
pub fresh_ident : (terms : List Term) (n : Word) → fresh terms ≡ Some n → IsTrue (is_ident n)
fresh_ident terms n e = each_ident (suc (length terms)) 1 n (found_in (is_fresh terms) (map numbered (range_with_len 1 (suc (length terms)))) n e)
