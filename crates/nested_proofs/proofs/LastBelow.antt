-- The last of the first lines whose level is below a number.
use Rattle.std.proofs.Common.{◌≡◌, ℕ, zero, suc, ◌+◌, ◌-◌, ◌<◌, ◌≤◌, Bool, true, false, ◌⊎◌, inl, inr, List, [], ◌∷◌, ◌++◌, length, length-append, get_or, take, drop, refl, sym, ap, ◌∙◌, arith, cond, Option, Some, None}
use Rattle.std.specs.Prelude.{nat_le, slice_get, slice_index, ◌&&◌}
use Rattle.std.proofs.lemmas.Bool.{le-leb, lt-leb, lt-ltb, le-ltb, ltb-true, ltb-false}
use Rattle.std.proofs.Math.Bool.{and-true, and-false}
use Rattle.std.proofs.lemmas.Option.{slice_get-get_or}
use Rattle.std.proofs.lemmas.List.{get_or_append_left}
use Rattle.std.proofs.Math.Seq.{get_or-append_seam}
use Rattle.deriv_laws.specs.declared.line.FlatLine.{FlatLine}
use Rattle.nested_proofs.specs.Levels.{level}
use Rattle.nested_proofs.specs.Visible.{stays}
use Rattle.nested_proofs.specs.Enclosing.{is_below, last_below, IsIndex}

pub not_after : (d : ℕ) (ls : List FlatLine) (k : ℕ) → last_below d ls k ≤ k
not_after d ls zero = omega arith
not_after d ls (suc k) = go (is_below d (slice_get ls k)) (not_after d ls k)
  where
    go : (b : Bool) → last_below d ls k ≤ k → cond b (suc k) (last_below d ls k) ≤ suc k
    go true h = omega arith
    go false h = omega (arith, h)

-- what isn't below v isn't below d, where d is at most v
still_not : (d v : ℕ) (o : Option FlatLine) → d ≤ v → is_below v o ≡ false → is_below d o ≡ false
still_not d v None h e = refl
still_not d v (Some l) h e = le-ltb (level l) d (omega (arith, h, ltb-false (level l) v e))

-- the last line below d isn't after the last one below v, where d is at most v
pub lower_still : (d v : ℕ) (ls : List FlatLine) (k : ℕ) → d ≤ v → last_below d ls k ≡ last_below d ls (last_below v ls k)
lower_still d v ls zero h = refl
lower_still d v ls (suc k) h = go (is_below v (slice_get ls k)) refl (lower_still d v ls k h)
  where
    go : (b : Bool) → is_below v (slice_get ls k) ≡ b → last_below d ls k ≡ last_below d ls (last_below v ls k) → cond (is_below d (slice_get ls k)) (suc k) (last_below d ls k) ≡ last_below d ls (cond b (suc k) (last_below v ls k))
    go true e i = refl
    go false e i = ap (λ b. cond b (suc k) (last_below d ls k)) (still_not d v (slice_get ls k) h e) ∙ i

-- the last of the first k lines is below d
pub is_last : (d : ℕ) (ls : List FlatLine) (k : ℕ) (l : FlatLine) → slice_get ls k ≡ Some l → level l < d → last_below d ls (suc k) ≡ suc k
is_last d ls k l e h = ap (λ b. cond b (suc k) (last_below d ls k)) (ap (is_below d) e ∙ lt-ltb (level l) d h)

-- the last of the first lines isn't below d: the one before it of a lower level leads on
pub steps_back : (d : ℕ) (ls : List FlatLine) (index : List ℕ) (k : ℕ) (l : FlatLine) → IsIndex ls index → slice_get ls k ≡ Some l → d ≤ level l → last_below d ls (suc k) ≡ last_below d ls (slice_index index k)
steps_back d ls index k l w e h =
    ap (λ b. cond b (suc k) (last_below d ls k)) (ap (is_below d) e ∙ le-ltb (level l) d h)
    ∙ lower_still d (level l) ls k h ∙ ap (last_below d ls) (sym (w.lower k l e))

pub goes_back : (ls : List FlatLine) (index : List ℕ) (k : ℕ) (l : FlatLine) → IsIndex ls index → slice_get ls k ≡ Some l → slice_index index k ≤ k
goes_back ls index k l w e = omega (arith, w.lower k l e, not_after (level l) ls k)

-- only the first k lines matter
pub of_front : (d : ℕ) (ls more : List FlatLine) (k : ℕ) → k ≤ length ls → last_below d (ls ++ more) k ≡ last_below d ls k
of_front d ls more zero h = refl
of_front d ls more (suc k) h = ap (λ o. cond (is_below d o) (suc k) (last_below d (ls ++ more) k)) (get_front ls more k h) ∙ ap (λ n. cond (is_below d (slice_get ls k)) (suc k) n) (of_front d ls more k (omega (arith, h)))
  where
    get_front : (ls more : List FlatLine) (k : ℕ) → suc k ≤ length ls → slice_get (ls ++ more) k ≡ slice_get ls k
    get_front [] more k h = absurd (omega (arith, h))
    get_front (x ∷ xs) more zero h = refl
    get_front (x ∷ xs) more (suc k) h = get_front xs more k (omega (arith, h))

stays_more : (d n : ℕ) (xs : List FlatLine) (l : FlatLine) → slice_get xs n ≡ Some l → stays d (take (suc n) xs) ≡ (stays d (take n xs) && nat_le d (level l))
stays_more d n [] l e = cc
stays_more d zero (x ∷ xs) l e = and-true (nat_le d (level x)) ∙ ap (λ y. nat_le d (level y)) (let q : x ≡ l = cc in q)
stays_more d (suc n) (x ∷ xs) l e = go (nat_le d (level x)) (stays_more d n xs l e)
  where
    go : (b : Bool) → stays d (take (suc n) xs) ≡ (stays d (take n xs) && nat_le d (level l)) → (b && stays d (take (suc n) xs)) ≡ ((b && stays d (take n xs)) && nat_le d (level l))
    go true i = i
    go false i = refl

within : (ls : List FlatLine) (j : ℕ) → suc j ≤ length ls → slice_get ls j ≡ None → ⊥
within [] j h e = omega (arith, h)
within (x ∷ ls) zero h e = cc
within (x ∷ ls) (suc j) h e = within ls j (omega (arith, h)) e

-- the item n after the first i
pub get_later : (i n : ℕ) (ls : List FlatLine) → slice_get (drop i ls) n ≡ slice_get ls (i + n)
get_later zero n ls = ap (slice_get ls) (omega arith)
get_later (suc i) n [] = refl
get_later (suc i) n (x ∷ ls) = get_later i n ls ∙ ap (slice_get (x ∷ ls)) (let e : suc (i + n) ≡ suc i + n = omega arith in e)

-- none of the lines after line i up to line j leaves a subproof of depth d exactly where the last
-- line of a level below d isn't after line i
pub stays_is : (d n i j : ℕ) (ls : List FlatLine) → j ≡ i + n → j ≤ length ls → stays d (take n (drop i ls)) ≡ nat_le (last_below d ls j) i
stays_is d zero i j ls e h = sym (le-leb (last_below d ls j) i (omega (arith, e, not_after d ls j)))
stays_is d (suc n) i zero ls e h = absurd (omega (arith, e))
stays_is d (suc n) i (suc j) ls e h = go (slice_get ls j) refl (stays_is d n i j ls (omega (arith, e)) (omega (arith, h)))
  where
    near : (l : FlatLine) (b : Bool) → is_below d (slice_get ls j) ≡ b → slice_get ls j ≡ Some l → stays d (take n (drop i ls)) ≡ nat_le (last_below d ls j) i →
        (stays d (take n (drop i ls)) && nat_le d (level l)) ≡ nat_le (cond b (suc j) (last_below d ls j)) i
    near l true b q s = ap (λ a. stays d (take n (drop i ls)) && a) (lt-leb d (level l) (ltb-true (level l) d (sym (ap (is_below d) q) ∙ b))) ∙ and-false (stays d (take n (drop i ls))) ∙ sym (lt-leb (suc j) i (omega (arith, e)))
    near l false b q s = ap (λ a. stays d (take n (drop i ls)) && a) (le-leb d (level l) (ltb-false (level l) d (sym (ap (is_below d) q) ∙ b))) ∙ and-true (stays d (take n (drop i ls))) ∙ s

    go : (o : Option FlatLine) → slice_get ls j ≡ o → stays d (take n (drop i ls)) ≡ nat_le (last_below d ls j) i → stays d (take (suc n) (drop i ls)) ≡ nat_le (last_below d ls (suc j)) i
    go None q s = absurd (within ls j h q)
    go (Some l) q s = stays_more d n (drop i ls) l (get_later i n ls ∙ ap (slice_get ls) (let r : i + n ≡ j = omega (arith, e) in r) ∙ q) ∙ near l (is_below d (slice_get ls j)) refl q s

at_item : (ls : List FlatLine) (n : ℕ) (l : FlatLine) → 0 < n → n ≤ length ls → l ≡ get_or ls (n - 1) l → (k : ℕ) × (n ≡ suc k) × (slice_get ls k ≡ Some l)
at_item ls zero l h w e = absurd (omega (arith, h))
at_item ls (suc k) l h w e =
    (k, refl, slice_get-get_or ls k l (omega (arith, w)) ∙ ap Some (sym (e ∙ ap (λ i. get_or ls i l) (let q : suc k - 1 ≡ k = omega arith in q))))

-- one step of the search for the last line of a level below d
pub leads_back : (d : ℕ) (ls : List FlatLine) (index : List ℕ) (n : ℕ) (l : FlatLine) → IsIndex ls index → 0 < n → n ≤ length ls → l ≡ get_or ls (n - 1) l → d ≤ level l →
    (last_below d ls n ≡ last_below d ls (get_or index (n - 1) 0)) × (get_or index (n - 1) 0 < n)
leads_back d ls index n l w h i e f = go (at_item ls n l h i e)
  where
    go : ((k : ℕ) × (n ≡ suc k) × (slice_get ls k ≡ Some l)) → (last_below d ls n ≡ last_below d ls (get_or index (n - 1) 0)) × (get_or index (n - 1) 0 < n)
    go x =
        let q : n - 1 ≡ x.0 = omega (arith, x.1) in (
          ap (last_below d ls) x.1 ∙ steps_back d ls index x.0 l w x.2 f ∙ ap (λ k. last_below d ls (get_or index k 0)) (sym q),
          omega (arith, x.1, ap (λ k. get_or index k 0) q, goes_back ls index x.0 l w x.2),
        )

pub ends_here : (d : ℕ) (ls : List FlatLine) (n : ℕ) (l : FlatLine) → 0 < n → n ≤ length ls → l ≡ get_or ls (n - 1) l → level l < d → last_below d ls n ≡ n
ends_here d ls n l h i e f = go (at_item ls n l h i e)
  where
    go : ((k : ℕ) × (n ≡ suc k) × (slice_get ls k ≡ Some l)) → last_below d ls n ≡ n
    go x = ap (last_below d ls) x.1 ∙ is_last d ls x.0 l x.2 f ∙ sym x.1

-- the index of the lines and one more
pub index_more : (ls : List FlatLine) (index : List ℕ) (l : FlatLine) (b : ℕ) → IsIndex ls index → b ≡ last_below (level l) ls (length ls) → IsIndex (ls ++ l ∷ []) (index ++ b ∷ [])
index_more ls index l b w e = record {
  same_length = omega (arith, length-append ls (l ∷ []), length-append index (b ∷ []), w.same_length);
  lower = λ k y g. near k y (split ls l k y g);
}
  where
    split : (ls : List FlatLine) (l : FlatLine) (k : ℕ) (y : FlatLine) → slice_get (ls ++ l ∷ []) k ≡ Some y → ((k < length ls) × (slice_get ls k ≡ Some y)) ⊎ ((k ≡ length ls) × (l ≡ y))
    split [] l zero y g = inr (refl, cc)
    split [] l (suc k) y g = absurd (cc)
    split (x ∷ xs) l zero y g = inl (omega arith, g)
    split (x ∷ xs) l (suc k) y g = later (split xs l k y g)
      where
        later : (((k < length xs) × (slice_get xs k ≡ Some y)) ⊎ ((k ≡ length xs) × (l ≡ y))) → ((suc k < suc (length xs)) × (slice_get xs k ≡ Some y)) ⊎ ((suc k ≡ suc (length xs)) × (l ≡ y))
        later (inl p) = inl (omega (arith, p.0), p.1)
        later (inr p) = inr (ap suc p.0, p.1)

    near : (k : ℕ) (y : FlatLine) → (((k < length ls) × (slice_get ls k ≡ Some y)) ⊎ ((k ≡ length ls) × (l ≡ y))) → get_or (index ++ b ∷ []) k 0 ≡ last_below (level y) (ls ++ l ∷ []) k
    near k y (inl p) = get_or_append_left index (b ∷ []) 0 k (omega (arith, p.0, w.same_length)) ∙ w.lower k y p.1 ∙ sym (of_front (level y) ls (l ∷ []) k (omega (arith, p.0)))
    near k y (inr p) =
        ap (λ i. get_or (index ++ b ∷ []) i 0) (p.0 ∙ sym w.same_length) ∙ get_or-append_seam index b [] 0 ∙ e ∙ ap (λ v. last_below (level v) ls (length ls)) p.1
        ∙ sym (of_front (level y) ls (l ∷ []) (length ls) (omega arith)) ∙ ap (last_below (level y) (ls ++ l ∷ [])) (sym p.0)
