-- The names of a block and the word that says them.
use Rattle.std.proofs.Common.{◌≡◌, ℕ, Bool, true, false, List, arith, refl, sym, subst, ◌∙◌, inl, inr}
use Rattle.std.specs.Prelude.{◌&&◌, ◌||◌, nat_le}
use Rattle.std.proofs.lemmas.Bool.{and_parts, and_left, and_right, cases_eq, ne_eqb, lt-leb, cases_lt}
use Rattle.worlds.specs.Geometry.{bears}
use Rattle.world_text.specs.BlockLines.{may_name, stands_in, names_in}

last : (x : Bool) → (false || x) ≡ x
last x = refl

one_false : (x : Bool) → (x || false) ≡ x
one_false true = refl
one_false false = refl

or_twice : (x : Bool) → ((x || false) || false) ≡ x
or_twice true = refl
or_twice false = refl

or_thrice : (x : Bool) → (((x || false) || false) || false) ≡ x
or_thrice true = refl
or_thrice false = refl

or_four : (x : Bool) → ((((x || false) || false) || false) || false) ≡ x
or_four true = refl
or_four false = refl

or_five : (x : Bool) → (((((x || false) || false) || false) || false) || false) ≡ x
or_five true = refl
or_five false = refl

at_letter : (w : List ℕ) (k l : ℕ) → l ≡ k → bears (names_in w) k ≡ (may_name k && stands_in k w) → bears (names_in w) l ≡ (may_name l && stands_in l w)
at_letter w k l e h = subst (λ j. bears (names_in w) j ≡ (may_name j && stands_in j w)) (sym e) h

no_letter : (l : ℕ) → (l ≡ 97 → ⊥) → (l ≡ 98 → ⊥) → (l ≡ 99 → ⊥) → (l ≡ 100 → ⊥) → (l ≡ 101 → ⊥) → (l ≡ 102 → ⊥) → may_name l ≡ false
no_letter l a b c d e f = elim (cases_lt l 97) [
  | inl h ↦ and_left (nat_le 97 l) (nat_le l 102) (lt-leb 97 l h)
  | inr h ↦ elim (cases_lt 102 l) [
    | inl k ↦ and_right (nat_le 97 l) (nat_le l 102) (lt-leb l 102 k)
    | inr k ↦ absurd (omega arith)
  ]
]

none : (w : List ℕ) (l : ℕ) → (l ≡ 97 → ⊥) → (l ≡ 98 → ⊥) → (l ≡ 99 → ⊥) → (l ≡ 100 → ⊥) → (l ≡ 101 → ⊥) → (l ≡ 102 → ⊥) → bears (names_in w) l ≡ (may_name l && stands_in l w)
none w l a b c d e f =
    rw (no_letter l a b c d e f) (rw (ne_eqb l 97 a) (rw (ne_eqb l 98 b) (rw (ne_eqb l 99 c) (rw (ne_eqb l 100 d) (rw (ne_eqb l 101 e) (rw (ne_eqb l 102 f) refl))))))

-- the letters that stand in the word are the names that stand in it
pub bears_in : (w : List ℕ) (l : ℕ) → bears (names_in w) l ≡ (may_name l && stands_in l w)
bears_in w l = elim (cases_eq l 97) [
  | inl e ↦ at_letter w 97 l e (or_five (stands_in 97 w))
  | inr a ↦ elim (cases_eq l 98) [
    | inl e ↦ at_letter w 98 l e (or_four (stands_in 98 w))
    | inr b ↦ elim (cases_eq l 99) [
      | inl e ↦ at_letter w 99 l e (or_thrice (stands_in 99 w))
      | inr c ↦ elim (cases_eq l 100) [
        | inl e ↦ at_letter w 100 l e (or_twice (stands_in 100 w))
        | inr d ↦ elim (cases_eq l 101) [
          | inl e ↦ at_letter w 101 l e (one_false (stands_in 101 w))
          | inr f ↦ elim (cases_eq l 102) [
            | inl e ↦ at_letter w 102 l e (last (stands_in 102 w))
            | inr g ↦ none w l a b c d f g
          ]
        ]
      ]
    ]
  ]
]

-- a name that stands in the word is a letter that may be one, and stands there
pub bears_stands : (w : List ℕ) (l : ℕ) → bears (names_in w) l ≡ true → (may_name l ≡ true) × (stands_in l w ≡ true)
bears_stands w l h = and_parts (may_name l) (stands_in l w) (sym (bears_in w l) ∙ h)
