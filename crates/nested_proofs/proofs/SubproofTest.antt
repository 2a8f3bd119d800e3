-- The test of a subproof's last line by the levels of the lines.
use Rattle.std.proofs.Common.{◌≡◌, ℕ, zero, suc, ◌+◌, ◌-◌, ◌≤◌, ◌<◌, List, [], ◌∷◌, length, take, drop, get_or, refl, ap, sym, subst, ◌∙◌, Option, Some, None, Bool, true, false, arith, eq-eqb, inl, inr, length-drop, get_or-drop}
use Rattle.std.specs.Prelude.{nat_le, nat_lt, cond, ◌&&◌, ◌==◌, ◌⊎◌}
use Rattle.std.specs.Option.{is_some}
use Rattle.std.proofs.Math.Bool.{and-false}
use Rattle.std.proofs.Math.Dec.{eqb-suc-suc}
use Rattle.std.proofs.lemmas.Bool.{leb-true, leb-false, lt-ltb, le-ltb, ltb-true, eqb-true, ne_eqb}
use Rattle.deriv_laws.specs.declared.line.FlatLine.{FlatLine}
use Rattle.nested_proofs.specs.Items.{opens}
use Rattle.nested_proofs.specs.Scope.{Subproof}
use Rattle.nested_proofs.specs.Levels.{level, Mark, body_of, subproof_of}
use Rattle.nested_proofs.specs.Visible.{stays, closed_by, subproof_over, visible_subproof}
use Rattle.nested_proofs.specs.Enclosing.{last_below}
use Rattle.nested_proofs.specs.CiteTests.{is_boxed}
use Rattle.nested_proofs.proofs.LastBelow.{stays_is}
use Rattle.nested_proofs.proofs.SentenceTest.{from_item}

-- the body has c lines exactly where the first c stay and the next one leaves
pub body_len : (d : ℕ) (ls : List FlatLine) (c : ℕ) (e : FlatLine) → c < length ls → e ≡ get_or ls c e → (length (body_of d ls) == c) ≡ (stays d (take c ls) && nat_lt (level e) d)
body_len d [] c e h g = absurd (omega (arith, h))
body_len d (l ∷ ls) zero e h g = go (nat_le d (level l)) refl
  where
    go : (b : Bool) → nat_le d (level l) ≡ b → (length (cond b (l ∷ body_of d ls) []) == 0) ≡ nat_lt (level e) d
    go true i = ne_eqb (suc (length (body_of d ls))) 0 (λ q. absurd (omega (arith, q))) ∙ sym (le-ltb (level e) d (omega (arith, leb-true d (level l) i, ap level g)))
    go false i = eq-eqb 0 0 refl ∙ sym (lt-ltb (level e) d (omega (arith, leb-false d (level l) i, ap level g)))
body_len d (l ∷ ls) (suc c) e h g = go (nat_le d (level l)) (body_len d ls c e (omega (arith, h)) g)
  where
    go : (b : Bool) → (length (body_of d ls) == c) ≡ (stays d (take c ls) && nat_lt (level e) d) → (length (cond b (l ∷ body_of d ls) []) == suc c) ≡ ((b && stays d (take c ls)) && nat_lt (level e) d)
    go true i = eqb-suc-suc (length (body_of d ls)) c ∙ i
    go false i = ne_eqb 0 (suc c) (λ q. absurd (omega (arith, q)))

-- whether a subproof that begins at line n ends at m and is visible at j
pub closed_test : (n m j : ℕ) (l : FlatLine) (ls : List FlatLine) (s b : Bool) → n ≤ m → m < j → (length (body_of l.depth ls) == m - n) ≡ b →
    is_some (cond s (closed_by m j (let x : Mark = record { number = n; line = l; later = ls } in x)) None) ≡ ((opens l.rule && b) && s)
closed_test n m j l ls s true h i e =
    let x : Mark = record { number = n; line = l; later = ls } in
    let q : length (body_of l.depth ls) ≡ m - n = eqb-true (length (body_of l.depth ls)) (m - n) e in
    let v : n + length (body_of l.depth ls) ≡ m = omega (arith, q) in
    ap (λ a. is_some (cond s (cond (opens l.rule && a) (cond (n + length (body_of l.depth ls) == m) (Some (subproof_of x)) None) None) None)) (lt-ltb (n + length (body_of l.depth ls)) j (omega (arith, v)))
    ∙ ap (λ a. is_some (cond s (cond (opens l.rule && true) (cond a (Some (subproof_of x)) None) None) None)) (eq-eqb (n + length (body_of l.depth ls)) m v)
    ∙ go s (opens l.rule) (subproof_of x)
  where
    go : (s o : Bool) (c : Subproof) → is_some (cond s (cond (o && true) (Some c) None) None) ≡ ((o && true) && s)
    go true true c = refl
    go true false c = refl
    go false true c = refl
    go false false c = refl
closed_test n m j l ls s false h i e =
    let x : Mark = record { number = n; line = l; later = ls } in
    ap (λ a. is_some (cond s (cond (opens l.rule && nat_lt (n + length (body_of l.depth ls)) j) (cond a (Some (subproof_of x)) None) None) None))
    (ne_eqb (n + length (body_of l.depth ls)) m (λ q. absurd (let r : true ≡ false = sym (eq-eqb (length (body_of l.depth ls)) (m - n) (omega (arith, q))) ∙ e in cc)))
    ∙ go s (opens l.rule) (nat_lt (n + length (body_of l.depth ls)) j) (subproof_of x)
  where
    go : (s o p : Bool) (c : Subproof) → is_some (cond s (cond (o && p) (cond false (Some c) None) None) None) ≡ ((o && false) && s)
    go true true true c = refl
    go true true false c = refl
    go true false p c = refl
    go false true p c = refl
    go false false p c = refl

no_matter : {X : Type 0} (p : Bool) → let o : Option X = None in cond p o o ≡ o
no_matter true = refl
no_matter false = refl

never_by : (m j last : ℕ) (o : Bool) (c : Subproof) → (last ≡ m → last < j → ⊥) → cond (o && nat_lt last j) (cond (last == m) (Some c) None) None ≡ None
never_by m j last o c h = go (nat_lt last j) (last == m) refl refl
  where
    go : (a b : Bool) → nat_lt last j ≡ a → (last == m) ≡ b → cond (o && a) (cond b (Some c) None) None ≡ None
    go true true e f = absurd (h (eqb-true last m f) (ltb-true last j e))
    go true false e f = no_matter (o && true)
    go false b e f = ap (λ p. cond p (cond b (Some c) None) None) (and-false o)

both_none : {X : Type 0} (b : Bool) (o : Option X) → o ≡ None → cond b o None ≡ None
both_none true o e = e
both_none false o e = refl

never_over : (n m j : ℕ) (ls : List FlatLine) → (m < n) ⊎ (j ≤ m) → subproof_over n m j ls ≡ None
never_over n m j [] h = refl
never_over n m j (l ∷ ls) h =
    both_none (stays (level l) (take (j - n) ls)) (closed_by m j (let x : Mark = record { number = n; line = l; later = ls } in x))
    (never_by m j (n + length (body_of l.depth ls)) (opens l.rule) (subproof_of (let x : Mark = record { number = n; line = l; later = ls } in x)) (λ e f. out h e f))
  where
    out : (m < n) ⊎ (j ≤ m) → n + length (body_of l.depth ls) ≡ m → n + length (body_of l.depth ls) < j → ⊥
    out (inl a) e f = omega (arith, a, e)
    out (inr a) e f = omega (arith, a, e, f)

-- a subproof that would end before it begins, or not before line j, isn't visible
pub never_visible : (lines : List FlatLine) (n m j : ℕ) → (m < n) ⊎ (j ≤ m) → visible_subproof lines n m j ≡ None
never_visible lines n m j h = both_none (nat_lt n j) (subproof_over n m j (drop (n - 1) lines)) (never_over n m j (drop (n - 1) lines) h)

-- the subproof that begins at line n with line l ends at line m, which line e follows
pub ends_test : (ls : List FlatLine) (d n m : ℕ) (e : FlatLine) → n ≤ m → m < length ls → e ≡ get_or ls m e →
    (length (body_of d (drop n ls)) == m - n) ≡ (nat_le (last_below d ls m) n && nat_lt (level e) d)
ends_test ls d n m e h w g =
    body_len d (drop n ls) (m - n) e (omega (arith, length-drop n ls, h, w)) (g ∙ sym (get_or-drop n ls (m - n) e ∙ ap (λ k. get_or ls k e) (let q : n + (m - n) ≡ m = omega (arith, h) in q)))
    ∙ ap (λ b. b && nat_lt (level e) d) (stays_is d (m - n) n m ls (omega (arith, h)) (omega (arith, w)))

-- the test of a subproof's visibility by the last lines of lower levels
pub subproof_test : (ls : List FlatLine) (n m j : ℕ) (l : FlatLine) (b : Bool) → 0 < n → n ≤ m → m < j → j ≤ length ls → l ≡ get_or ls (n - 1) l → (length (body_of l.depth (drop n ls)) == m - n) ≡ b →
    is_some (visible_subproof ls n m j) ≡ ((opens l.rule && b) && nat_le (last_below (level l) ls j) n)
subproof_test ls n m j l b p h i w g e =
    ap (λ a. is_some (cond a (subproof_over n m j (drop (n - 1) ls)) None)) (lt-ltb n j (omega (arith, h, i)))
    ∙ ap (λ xs. is_some (subproof_over n m j xs)) (from_item ls n l p (omega (arith, h, i, w)) g)
    ∙ closed_test n m j l (drop n ls) (stays (level l) (take (j - n) (drop n ls))) b h i e
    ∙ ap (λ a. (opens l.rule && b) && a) (stays_is (level l) (j - n) n j ls (omega (arith, h, i)) w)

-- an option that is there in some case only
there : (b : Bool) (o : Option Subproof) (v : Bool) → (is_some o ≡ true → is_boxed o ≡ v) → is_some (cond b o None) ≡ true → is_boxed (cond b o None) ≡ v
there true o v h e = h e
there false o v h e = cc

-- a visible subproof boxes a constant where its first line does
pub box_of_first : (ls : List FlatLine) (n m j : ℕ) (l : FlatLine) → 0 < n → n ≤ length ls → l ≡ get_or ls (n - 1) l → is_some (visible_subproof ls n m j) ≡ true →
    is_boxed (visible_subproof ls n m j) ≡ is_some l.boxed
box_of_first ls n m j l h w g =
    there (nat_lt n j) (subproof_over n m j (drop (n - 1) ls)) (is_some l.boxed)
    (subst (λ xs. is_some (subproof_over n m j xs) ≡ true → is_boxed (subproof_over n m j xs) ≡ is_some l.boxed) (sym (from_item ls n l h w g))
    (let x : Mark = record { number = n; line = l; later = drop n ls } in
    there (stays (level l) (take (j - n) (drop n ls))) (closed_by m j x) (is_some l.boxed)
    (there (opens l.rule && nat_lt (subproof_of x).last j) (cond ((subproof_of x).last == m) (Some (subproof_of x)) None) (is_some l.boxed)
    (there ((subproof_of x).last == m) (Some (subproof_of x)) (is_some l.boxed) (λ e. refl)))))

-- a visible subproof begins before the line
pub begins_before : (ls : List FlatLine) (n m j : ℕ) → is_some (visible_subproof ls n m j) ≡ true → n < j
begins_before ls n m j e = go (nat_lt n j) refl e
  where
    go : (b : Bool) → nat_lt n j ≡ b → is_some (cond b (subproof_over n m j (drop (n - 1) ls)) None) ≡ true → n < j
    go true h e = ltb-true n j h
    go false h e = cc
