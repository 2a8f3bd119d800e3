-- The kinds of identifiers: no word is of two kinds.
use Rattle.std.proofs.Common.{◌≡◌, ℕ, arith, Bool, true, false, not, ◌&&◌, List, [], ◌∷◌, length, Some, None, if◌then◌else◌, refl, ap₂, subst}
use Rattle.std.specs.Prelude.{nat_le}
use Rattle.std.specs.List.{list_all}
use Rattle.std.proofs.lemmas.Bool.Decides.{nat_tests}
use Rattle.fol_core.specs.Word.{Word, is_ident, is_letter, is_digit, goes_on, begins_with_capital, spells_variable, is_predicate, is_variable, is_name}
use Rattle.fol_text.specs.declared.state.Read.{Read}
use Rattle.fol_text.specs.declared.state.Read.TheVariants.{Variable, Symbol}
use Rattle.fol_text.specs.Machine.{word_of}

second_false : (a b : Bool) → b ≡ false → (a && b) ≡ false
second_false true b e = e
second_false false b e = refl

both : (a b : Bool) → (a && b) ≡ true → (a ≡ true) × (b ≡ true)
both true b e = (refl, e)
both false b e = cc

denied : (b : Bool) → not b ≡ true → b ≡ false
denied true e = cc
denied false e = refl

variable_small : (w : Word) → spells_variable w ≡ true → begins_with_capital w ≡ false
variable_small [] e = refl
variable_small (b ∷ bs) e = grind (arith, nat_tests)

pub variable_no_predicate : (w : Word) → is_variable w ≡ true → is_predicate w ≡ false
unfolding is_variable is_predicate
variable_no_predicate w e = second_false (is_ident w) (begins_with_capital w) (variable_small w e)

pub name_no_predicate : (w : Word) → is_name w ≡ true → is_predicate w ≡ false
unfolding is_name is_predicate
name_no_predicate w e =
    let (front, last) = both (is_ident w && not (begins_with_capital w)) (not (spells_variable w)) e in
    let (ident, small) = both (is_ident w) (not (begins_with_capital w)) front in
    second_false (is_ident w) (begins_with_capital w) (denied (begins_with_capital w) small)

pub name_no_variable : (w : Word) → is_name w ≡ true → is_variable w ≡ false
unfolding is_name is_variable
name_no_variable w e =
    let (front, last) = both (is_ident w && not (begins_with_capital w)) (not (spells_variable w)) e in
    denied (spells_variable w) last

-- What a word of a term is read as.
pub variable_read : (w : Word) → is_variable w ≡ true → word_of w ≡ Some (Variable w)
variable_read w i = rw i refl

pub name_read : (w : Word) → is_name w ≡ true → word_of w ≡ Some (Symbol w)
name_read w i = rw (name_no_variable w i, i) refl

-- A word that is read as one of a term is a variable or a name.
pub data IsWord : Word → Read → Type 0 where
  a_variable : (w : Word) → is_variable w ≡ true → IsWord w (Variable w)
  a_name : (w : Word) → is_name w ≡ true → IsWord w (Symbol w)

word_by : (w : Word) (v n : Bool) → is_variable w ≡ v → is_name w ≡ n → (r : Read) → (if v then Some (Variable w) else (if n then Some (Symbol w) else None)) ≡ Some r → IsWord w r
word_by w true n i j r e = let same : Variable w ≡ r = cc in subst (λ (q : Read). IsWord w q) same (a_variable w i)
word_by w false true i j r e = let same : Symbol w ≡ r = cc in subst (λ (q : Read). IsWord w q) same (a_name w j)
word_by w false false i j r e = cc

pub word_is : (w : Word) (r : Read) → word_of w ≡ Some r → IsWord w r
word_is w r e = word_by w (is_variable w) (is_name w) refl refl r e

small : {w : Word} {r : Read} → IsWord w r → is_predicate w ≡ false
small (a_variable w i) = variable_no_predicate w i
small (a_name w i) = name_no_predicate w i

-- It is no predicate.
pub word_small : (w : Word) (r : Read) → word_of w ≡ Some r → is_predicate w ≡ false
word_small w r e = small (word_is w r e)

-- a word of each kind is an identifier

digit_goes_on : (b : ℕ) → is_digit b ≡ true → goes_on b ≡ true
digit_goes_on b e = grind (arith, nat_tests)

digits_go_on : (bs : List ℕ) → list_all is_digit bs ≡ true → list_all goes_on bs ≡ true
digits_go_on [] e = refl
digits_go_on (b ∷ bs) e =
    let (first, rest) = both (is_digit b) (list_all is_digit bs) e in
    ap₂ ◌&&◌ (digit_goes_on b first) (digits_go_on bs rest)

small_letter : (b : ℕ) → (nat_le 116 b && nat_le b 122) ≡ true → is_letter b ≡ true
small_letter b e = grind (arith, nat_tests)

pub variable_ident : (w : Word) → is_variable w ≡ true → is_ident w ≡ true
unfolding is_variable
variable_ident [] e = cc
variable_ident (b ∷ bs) e =
    let (front, short) = both ((nat_le 116 b && nat_le b 122) && list_all is_digit bs) (nat_le (length bs) 4) e in
    let (first, digits) = both (nat_le 116 b && nat_le b 122) (list_all is_digit bs) front in
    ap₂ ◌&&◌ (small_letter b first) (digits_go_on bs digits)

pub name_ident : (w : Word) → is_name w ≡ true → is_ident w ≡ true
unfolding is_name
name_ident w e =
    let (front, last) = both (is_ident w && not (begins_with_capital w)) (not (spells_variable w)) e in
    (both (is_ident w) (not (begins_with_capital w)) front).0

pub predicate_ident : (w : Word) → is_predicate w ≡ true → is_ident w ≡ true
unfolding is_predicate
predicate_ident w e = (both (is_ident w) (begins_with_capital w) e).0
