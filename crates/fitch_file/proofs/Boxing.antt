-- A text begins with one box at most.
use Rattle.std.proofs.Common.{◌≡◌, ℕ, eqb, Bool, true, false, not, List, [], ◌∷◌, ◌++◌, arith, refl, sym, ap, subst, ◌∙◌, Option, Some, None}
use Rattle.std.specs.Prelude.{◌&&◌}
use Rattle.std.specs.List.{list_all, list_any}
use Rattle.std.proofs.lemmas.Bool.{and_parts}
use Rattle.std.proofs.lemmas.Bool.Decides.{nat_tests}
use Rattle.texts.specs.Cuts.{Lacks, IsCut}
use Rattle.texts.proofs.Cutting.{cut_once, lacks_not_cut}
use Rattle.fol_core.specs.Word.{Word, is_letter, goes_on, is_ident, is_name, begins_with_capital, spells_variable}
use Rattle.fitch_file.specs.Boxes.{BeginsBox, IsBoxed}

letter_apart : (c : ℕ) → is_letter c ≡ true → eqb c 93 ≡ false
letter_apart c h = grind (arith, nat_tests)

goes_on_apart : (c : ℕ) → goes_on c ≡ true → eqb c 93 ≡ false
goes_on_apart c h = grind (arith, nat_tests)

rest_lacks : (bs : List ℕ) → list_all goes_on bs ≡ true → Lacks 93 bs
rest_lacks [] h = refl
rest_lacks (b ∷ bs) h =
    let d : (goes_on b ≡ true) × (list_all goes_on bs ≡ true) = and_parts (goes_on b) (list_all goes_on bs) h in
    let a : eqb b 93 ≡ false = goes_on_apart b d.0 in
    let e : list_any (λ x. eqb x 93) bs ≡ false = rest_lacks bs d.1 in
    rw (a, e) refl

ident_lacks : (w : Word) → is_ident w ≡ true → Lacks 93 w
ident_lacks [] h = refl
ident_lacks (b ∷ bs) h =
    let d : (is_letter b ≡ true) × (list_all goes_on bs ≡ true) = and_parts (is_letter b) (list_all goes_on bs) h in
    let a : eqb b 93 ≡ false = letter_apart b d.0 in
    let e : list_any (λ x. eqb x 93) bs ≡ false = rest_lacks bs d.1 in
    rw (a, e) refl

first_of_three : (a b c : Bool) → (a && b && c) ≡ true → a ≡ true
first_of_three a b c h = (and_parts a b (and_parts (a && b) c h).0).0

pub name_is_ident : (w : Word) → is_name w ≡ true → is_ident w ≡ true
unfolding is_name
name_is_ident w h = first_of_three (is_ident w) (not (begins_with_capital w)) (not (spells_variable w)) h

-- behind the opening bracket
pub as_cut : (text inner : List ℕ) (name after : List ℕ) → text ≡ 91 ∷ inner → (h : BeginsBox text name after) → IsCut 93 inner name after
as_cut text inner name after e h =
    let f : 91 ∷ inner ≡ 91 ∷ name ++ 93 ∷ after = sym e ∙ h.begins in
    record { joined = cc; first = ident_lacks name (name_is_ident name h.named) }

-- Why a text begins with no box.
pub no_bracket : (text inner : List ℕ) (name after : List ℕ) → text ≡ 91 ∷ inner → Lacks 93 inner → BeginsBox text name after → ⊥
no_bracket text inner name after e l h = lacks_not_cut 93 inner name after l (as_cut text inner name after e h)

pub no_name : (text inner found rest : List ℕ) (name after : List ℕ) → text ≡ 91 ∷ inner → IsCut 93 inner found rest → is_name found ≡ false → BeginsBox text name after → ⊥
no_name text inner found rest name after e c n h =
    let f : (name ≡ found) × (after ≡ rest) = cut_once 93 inner name after found rest (as_cut text inner name after e h) c in
    let g : is_name found ≡ true = subst (λ w. is_name w ≡ true) f.0 h.named in
    absurd (cc)

pub begins_once : (text : List ℕ) (name after name' after' : List ℕ) → BeginsBox text name after → BeginsBox text name' after' → (name ≡ name') × (after ≡ after')
begins_once text name after name' after' h k =
    cut_once 93 (name ++ 93 ∷ after) name after name' after' (as_cut text (name ++ 93 ∷ after) name after h.begins h) (as_cut text (name ++ 93 ∷ after) name' after' h.begins k)

pub record IsSameBox (b b' : Option Word) (rest rest' : List ℕ) : Type 0 where
  pub name : b ≡ b'
  pub rest_is : rest ≡ rest'

pub box_once : (text : List ℕ) (b b' : Option Word) (rest rest' : List ℕ) → IsBoxed text b rest → IsBoxed text b' rest' → IsSameBox b b' rest rest'
box_once text (Some c) (Some d) rest rest' h k =
    let e : (c ≡ d) × (rest ≡ rest') = begins_once text c rest d rest' h k in
    record { name = ap Some e.0; rest_is = e.1 }
box_once text (Some c) None rest rest' h k = absurd (k.1 c rest h)
box_once text None (Some d) rest rest' h k = absurd (h.1 d rest' k)
box_once text None None rest rest' h k = record { name = refl; rest_is = h.0 ∙ sym k.0 }
