-- Texts that begin and end with a visible byte, as the texts of sentences and the names of rules do.
use Rattle.std.proofs.Common.{◌≡◌, ℕ, ◌-◌, ◌<◌, eqb, Bool, true, false, not, List, [], ◌∷◌, ◌++◌, length, get_or, take, if◌then◌else◌, refl, sym, ap, ap₂, subst, ◌∙◌, arith}
use Rattle.std.specs.Prelude.{◌&&◌, ◌||◌, nat_le}
use Rattle.std.specs.List.{list_all, list_any}
use Rattle.std.specs.Str.Lines.{strip_carriage_return}
use Rattle.std.proofs.lemmas.Bool.{and_parts}
use Rattle.std.proofs.lemmas.Bool.Decides.{nat_tests}
use Rattle.std.proofs.lemmas.List.Folds.{list_all-append}
use Rattle.texts.specs.Blanks.{is_blank, unless_blank, after_blanks, before_blanks, trimmed}
use Rattle.texts.specs.Cuts.{Lacks}
use Rattle.texts.proofs.Trimming.{before_blanks-blank}

-- The byte is no space and none below it.
abbrev pub is_ink : ℕ → Bool
is_ink b = nat_le 33 b

-- The byte may stand in a sentence's text: it is a space or visible, and no semicolon.
abbrev pub may_stand : ℕ → Bool
may_stand b = nat_le 32 b && not (eqb b 59)

-- A sentence's text may begin with the byte: it is visible, and no bar and no bracket.
abbrev pub may_begin : ℕ → Bool
may_begin b = nat_le 33 b && not (eqb b 124) && not (eqb b 91)

abbrev pub begins_well : List ℕ → Bool
begins_well [] = false
begins_well (b ∷ bs) = may_begin b

abbrev pub begins_ink : List ℕ → Bool
begins_ink [] = false
begins_ink (b ∷ bs) = is_ink b

-- The last byte of b and the bytes behind it is visible.
abbrev pub ends_after : ℕ → List ℕ → Bool
ends_after b [] = is_ink b
ends_after b (c ∷ cs) = ends_after c cs

abbrev pub ends_well : List ℕ → Bool
ends_well [] = false
ends_well (b ∷ bs) = ends_after b bs

-- what ends well

ends_after_append : (b : ℕ) (xs : List ℕ) (y : ℕ) (ys : List ℕ) → ends_after b (xs ++ y ∷ ys) ≡ ends_after y ys
ends_after_append b [] y ys = refl
ends_after_append b (x ∷ xs) y ys = ends_after_append x xs y ys

pub ends_append : (xs ys : List ℕ) → ends_well ys ≡ true → ends_well (xs ++ ys) ≡ true
ends_append [] ys h = h
ends_append (x ∷ xs) [] h = absurd (cc)
ends_append (x ∷ xs) (y ∷ ys) h = ends_after_append x xs y ys ∙ h

ink_not_blank : (b : ℕ) → is_ink b ≡ true → is_blank b ≡ false
ink_not_blank b h = grind (arith, nat_tests)

before_after : (b : ℕ) (bs : List ℕ) → ends_after b bs ≡ true → before_blanks (b ∷ bs) ≡ b ∷ bs
before_after b [] h = let e : is_blank b ≡ false = ink_not_blank b h in rw e refl
before_after b (c ∷ cs) h = ap (unless_blank b) (before_after c cs h)

pub before_blanks-ink : (t : List ℕ) → ends_well t ≡ true → before_blanks t ≡ t
before_blanks-ink [] h = refl
before_blanks-ink (b ∷ bs) h = before_after b bs h

last_after : (b : ℕ) (bs : List ℕ) → ends_after b bs ≡ true → is_ink (get_or (b ∷ bs) (length bs) 0) ≡ true
last_after b [] h = h
last_after b (c ∷ cs) h = last_after c cs h

no_return : (c : ℕ) → is_ink c ≡ true → eqb c 13 ≡ false
no_return c h = grind (arith, nat_tests)

pub keeps_end : (t : List ℕ) → ends_well t ≡ true → strip_carriage_return t ≡ t
keeps_end [] h = absurd (cc)
keeps_end (b ∷ bs) h =
    let n : length (b ∷ bs) - 1 ≡ length bs = omega arith in
    let i : is_ink (get_or (b ∷ bs) (length (b ∷ bs) - 1) 0) ≡ true = subst (λ k. is_ink (get_or (b ∷ bs) k 0) ≡ true) (sym n) (last_after b bs h) in
    let e : eqb (get_or (b ∷ bs) (length (b ∷ bs) - 1) 0) 13 ≡ false = no_return (get_or (b ∷ bs) (length (b ∷ bs) - 1) 0) i in
    ap (λ c. if c then take (length (b ∷ bs) - 1) (b ∷ bs) else (b ∷ bs)) e

-- what begins well

pub begins_append : (xs ys : List ℕ) → begins_well xs ≡ true → begins_well (xs ++ ys) ≡ true
begins_append [] ys h = absurd (cc)
begins_append (x ∷ xs) ys h = h

begin_is_ink : (b : ℕ) → may_begin b ≡ true → is_ink b ≡ true
begin_is_ink b h = grind (arith, nat_tests)

pub begins_visible : (t : List ℕ) → begins_well t ≡ true → begins_ink t ≡ true
begins_visible [] h = h
begins_visible (b ∷ bs) h = begin_is_ink b h

pub after_blanks-ink : (t : List ℕ) → begins_ink t ≡ true → after_blanks t ≡ t
after_blanks-ink [] h = refl
after_blanks-ink (b ∷ bs) h = let e : is_blank b ≡ false = ink_not_blank b h in rw e refl

-- texts of visible bytes

pub begins_where : (p : ℕ → Bool) → ((b : ℕ) → p b ≡ true → is_ink b ≡ true) → (t : List ℕ) → 0 < length t → list_all p t ≡ true → begins_ink t ≡ true
begins_where p visible [] l h = absurd (omega (arith, l))
begins_where p visible (b ∷ bs) l h = visible b ((and_parts (p b) (list_all p bs) h).0)

after_where : (p : ℕ → Bool) → ((b : ℕ) → p b ≡ true → is_ink b ≡ true) → (b : ℕ) (bs : List ℕ) → p b ≡ true → list_all p bs ≡ true → ends_after b bs ≡ true
after_where p visible b [] i h = visible b i
after_where p visible b (c ∷ cs) i h = let d = and_parts (p c) (list_all p cs) h in after_where p visible c cs d.0 d.1

pub ends_where : (p : ℕ → Bool) → ((b : ℕ) → p b ≡ true → is_ink b ≡ true) → (t : List ℕ) → 0 < length t → list_all p t ≡ true → ends_well t ≡ true
ends_where p visible [] l h = absurd (omega (arith, l))
ends_where p visible (b ∷ bs) l h = let d = and_parts (p b) (list_all p bs) h in after_where p visible b bs d.0 d.1

-- what lacks a byte

pub lacks_where : (p : ℕ → Bool) (c : ℕ) → ((b : ℕ) → p b ≡ true → eqb b c ≡ false) → (t : List ℕ) → list_all p t ≡ true → Lacks c t
lacks_where p c apart [] h = refl
lacks_where p c apart (b ∷ bs) h =
    let d : (p b ≡ true) × (list_all p bs ≡ true) = and_parts (p b) (list_all p bs) h in
    let a : eqb b c ≡ false = apart b d.0 in
    let e : list_any (λ x. eqb x c) bs ≡ false = lacks_where p c apart bs d.1 in
    rw (a, e) refl

pub lacks_append : (c : ℕ) (xs ys : List ℕ) → Lacks c xs → Lacks c ys → Lacks c (xs ++ ys)
lacks_append c [] ys h k = k
lacks_append c (x ∷ xs) ys h k = grow (eqb x c) (list_any (λ b. eqb b c) xs) (list_any (λ b. eqb b c) (xs ++ ys)) h (λ e. lacks_append c xs ys e k)
  where
    grow : (a b d : Bool) → (a || b) ≡ false → (b ≡ false → d ≡ false) → (a || d) ≡ false
    grow true b d h k = h
    grow false b d h k = k h

pub holds_append : (xs ys : List ℕ) → list_all may_stand xs ≡ true → list_all may_stand ys ≡ true → list_all may_stand (xs ++ ys) ≡ true
holds_append xs ys h k = list_all-append may_stand xs ys ∙ ap₂ ◌&&◌ h k

stands_no_semicolon : (b : ℕ) → may_stand b ≡ true → eqb b 59 ≡ false
stands_no_semicolon b h = grind (arith, nat_tests)

stands_no_feed : (b : ℕ) → may_stand b ≡ true → eqb b 10 ≡ false
stands_no_feed b h = grind (arith, nat_tests)

-- A text that begins and ends well, each byte of which may stand in a sentence's text.
pub record Inked (t : List ℕ) : Type 0 where
  pub begins : begins_well t ≡ true
  pub holds : list_all may_stand t ≡ true
  pub ends : ends_well t ≡ true

pub no_semicolon : (t : List ℕ) → Inked t → Lacks 59 t
no_semicolon t h = lacks_where may_stand 59 stands_no_semicolon t h.holds

pub no_feed : (t : List ℕ) → Inked t → Lacks 10 t
no_feed t h = lacks_where may_stand 10 stands_no_feed t h.holds

-- Without the blanks at its ends, a text with visible ends is itself, and so it is with a space behind it.
pub trimmed_ink : (t : List ℕ) → begins_ink t ≡ true → ends_well t ≡ true → trimmed t ≡ t
trimmed_ink t b e = ap before_blanks (after_blanks-ink t b) ∙ before_blanks-ink t e

ink_append : (xs ys : List ℕ) → begins_ink xs ≡ true → begins_ink (xs ++ ys) ≡ true
ink_append [] ys h = absurd (cc)
ink_append (x ∷ xs) ys h = h

pub trimmed_spaced : (t : List ℕ) → begins_ink t ≡ true → ends_well t ≡ true → trimmed (t ++ 32 ∷ []) ≡ t
trimmed_spaced t b e = ap before_blanks (after_blanks-ink (t ++ 32 ∷ []) (ink_append t (32 ∷ []) b)) ∙ before_blanks-blank t 32 refl ∙ before_blanks-ink t e
