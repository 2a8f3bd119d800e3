-- The blocks of a world by what they measure: the sets of those that measure less than a number, and what is made of these.
use Rattle.std.proofs.Common.{◌≡◌, ℕ, zero, suc, ◌+◌, ◌-◌, ◌^◌, ◌<◌, ◌≤◌, Bool, true, false, not, List, [], ◌∷◌, length, get_or, refl, sym, ap, ap₂, ◌∙◌, subst, arith, ◌⊎◌, inl, inr}
use Rattle.std.specs.Prelude.{◌&&◌, ◌||◌, ◌==◌, nat_lt, nat_le, Option, Some, None}
use Rattle.std.specs.List.{slice_get, list_all}
use Rattle.std.proofs.lemmas.Option.{slice_get_within, slice_get-get_or, same_Some}
use Rattle.std.proofs.lemmas.Bool.{leb-true, lt-ltb, ltb-true, le-ltb, le-leb, lt-leb, eq-eqb, ne_eqb, eqb-true, eqb-false, and_parts, cases_lt, cases_order}
use Rattle.worlds.specs.declared.block.Block.{Block}
use Rattle.worlds.specs.declared.block.Shape.{Shape}
use Rattle.worlds.specs.declared.block.Shape.TheVariants as sh
use Rattle.worlds.specs.declared.block.Size.{Size}
use Rattle.worlds.specs.declared.block.Size.TheVariants as sz
use Rattle.bit_sets.specs.declared.bit_set.BitSet.{BitSet}
use Rattle.worlds.specs.declared.scales.Measure.{Measure}
use Rattle.worlds.specs.declared.scales.Measure.TheVariants as m
use Rattle.bit_sets.specs.BitSets.{has}
use Rattle.worlds.specs.inside.Extensions.{IsExtension}
use Rattle.worlds.specs.Geometry.{is_on_board, is_place, faces, rank, apart, share_side}
use Rattle.worlds.specs.Scales.{measure_of, OfEach, IsSetOf, AreBelow}
use Rattle.worlds.specs.Truth.{are_alike}
use Rattle.worlds.specs.Worlds.{block_at}
use Rattle.worlds.proofs.Marking.{IsMarked}
use Rattle.bit_sets.proofs.Sets.{full_has}

-- scales

at_scale : (w : List Block) (f : Block → ℕ) (n i : ℕ) (sets : List BitSet) (set : BitSet) → AreBelow w f n sets → slice_get sets i ≡ Some set → IsSetOf w (λ b. nat_lt (f b) (n + i)) set.bits
at_scale w f n i [] set h e = absurd (cc)
at_scale w f n zero (s ∷ ss) set h e = subst (λ t. IsSetOf w (λ b. nat_lt (f b) (n + 0)) t.bits) (same_Some s set e) (subst (λ j. IsSetOf w (λ b. nat_lt (f b) j) s.bits) (omega arith) h.0)
at_scale w f n (suc i) (s ∷ ss) set h e = subst (λ j. IsSetOf w (λ b. nat_lt (f b) j) set.bits) (omega arith) (at_scale w f (n + 1) i ss set h.1 e)

more_than : (m n k : ℕ) → nat_lt m n ≡ true → n ≤ k → nat_lt m k ≡ true
more_than m n k h l = lt-ltb m k (omega (arith, ltb-true m n h, l))

past_scale : (w : List Block) (f : Block → ℕ) (n i : ℕ) (sets : List BitSet) → AreBelow w f n sets → slice_get sets i ≡ None → OfEach w (λ k b. nat_lt (f b) (n + i) ≡ true)
past_scale w f n i [] h e = λ k b g l. more_than (f b) n (n + i) (h k b g l) (omega arith)
past_scale w f n zero (s ∷ ss) h e = absurd (cc)
past_scale w f n (suc i) (s ∷ ss) h e = λ k b g l. subst (λ j. nat_lt (f b) j ≡ true) (omega arith) (past_scale w f (n + 1) i ss h.1 e k b g l)

-- the set at a number, which is full past the end
pub on_scale : (w : List Block) (f : Block → ℕ) (i : ℕ) (sets : List BitSet) (set : BitSet) → AreBelow w f 0 sets → slice_get sets i ≡ Some set → IsSetOf w (λ b. nat_lt (f b) i) set.bits
on_scale w f i sets set h e = subst (λ j. IsSetOf w (λ b. nat_lt (f b) j) set.bits) (omega arith) (at_scale w f 0 i sets set h e)

pub off_scale : (w : List Block) (f : Block → ℕ) (i : ℕ) (sets : List BitSet) → AreBelow w f 0 sets → slice_get sets i ≡ None → IsSetOf w (λ b. nat_lt (f b) i) (2 ^ 64 - 1)
off_scale w f i sets h e k b g l = full_has k l ∙ sym (subst (λ j. nat_lt (f b) j ≡ true) (omega arith) (past_scale w f 0 i sets h e k b g l))

-- no block of a world measures more than 16

pub each_of : (f : Block → Bool) (w : List Block) → list_all f w ≡ true → (k : ℕ) (b : Block) → slice_get w k ≡ Some b → f b ≡ true
each_of f [] h k b e = absurd (cc)
each_of f (c ∷ cs) h zero b e = ap f (sym (same_Some c b e)) ∙ (and_parts (f c) (list_all f cs) h).0
each_of f (c ∷ cs) h (suc k) b e = each_of f cs (and_parts (f c) (list_all f cs) h).1 k b e

place_low : (n : ℕ) → is_place n ≡ true → nat_lt n 17 ≡ true
place_low n h = lt-ltb n 17 (omega (arith, leb-true n 8 (and_parts (nat_le 1 n) (nat_le n 8) h).1))

rank_low : (s : Size) → nat_lt (rank s) 17 ≡ true
rank_low sz.Small = refl
rank_low sz.Medium = refl
rank_low sz.Large = refl

faces_low : (s : Shape) → nat_lt (faces s) 17 ≡ true
faces_low sh.Tet = refl
faces_low sh.Cube = refl
faces_low sh.Dodec = refl

-- the column and the row of a block on the board
pub place_of : (b : Block) → is_on_board b ≡ true → (1 ≤ b.column) × (b.column ≤ 8) × (1 ≤ b.row) × (b.row ≤ 8)
place_of b h =
    let both = and_parts (is_place b.column) (is_place b.row) h in
    let column = and_parts (nat_le 1 b.column) (nat_le b.column 8) both.0 in
    let row = and_parts (nat_le 1 b.row) (nat_le b.row 8) both.1 in
    (leb-true 1 b.column column.0, leb-true b.column 8 column.1, leb-true 1 b.row row.0, leb-true b.row 8 row.1)

rising_low : (b : Block) → is_on_board b ≡ true → nat_lt (b.row + 8 - b.column) 17 ≡ true
rising_low b h = let p = place_of b h in lt-ltb (b.row + 8 - b.column) 17 (omega (arith, p.0, p.3))

falling_low : (b : Block) → is_on_board b ≡ true → nat_lt (b.column + b.row) 17 ≡ true
falling_low b h = let p = place_of b h in lt-ltb (b.column + b.row) 17 (omega (arith, p.1, p.3))

pub none_high : (w : List Block) (measure : Measure) → list_all is_on_board w ≡ true → OfEach w (λ k b. nat_lt (measure_of measure b) 17 ≡ true)
none_high w m.Column h k b e l = place_low b.column (and_parts (is_place b.column) (is_place b.row) (each_of is_on_board w h k b e)).0
none_high w m.Row h k b e l = place_low b.row (and_parts (is_place b.column) (is_place b.row) (each_of is_on_board w h k b e)).1
none_high w m.Rank h k b e l = rank_low b.size
none_high w m.Faces h k b e l = faces_low b.shape
none_high w m.Rising h k b e l = rising_low b (each_of is_on_board w h k b e)
none_high w m.Falling h k b e l = falling_low b (each_of is_on_board w h k b e)

-- sets that are built block by block

abbrev pub on_block : (Block → Bool) → Option Block → Bool
on_block f None = false
on_block f (Some b) = f b

block_next : (w : List Block) (k : ℕ) → block_at w (k + 1) ≡ slice_get w k
block_next w k = ap (slice_get w) (omega arith)

pub block_read : (w : List Block) (k : ℕ) (d : Block) → k < length w → block_at w (k + 1) ≡ Some (get_or w k d)
block_read w k d h = block_next w k ∙ slice_get-get_or w k d h

pub marked_set : (w : List Block) (f : Block → Bool) (count bits : ℕ) → IsMarked (λ k. on_block f (block_at w (k + 1))) count bits → length w ≤ count → IsSetOf w f bits
marked_set w f count bits h l k b e _ = h.below k (omega (arith, slice_get_within w k b e, l)) ∙ ap (on_block f) (block_next w k ∙ e)

none_within : (w : List Block) (k : ℕ) → slice_get w k ≡ None → length w ≤ k
none_within [] k e = omega arith
none_within (b ∷ bs) zero e = absurd (cc)
none_within (b ∷ bs) (suc k) e = omega (arith, none_within bs k e)

pub set_extends : (w : List Block) (f : Block → Bool) (g : Option Block → Bool) (bits : ℕ) → IsSetOf w f bits → ((b : Block) → f b ≡ g (Some b)) → IsExtension (length w) (λ k. g (block_at w (k + 1))) bits
set_extends w f g bits h same k l low = by_block (slice_get w k) refl
  where
    by_block : (o : Option Block) → slice_get w k ≡ o → has bits k ≡ g (block_at w (k + 1))
    by_block None e = absurd (omega (arith, l, none_within w k e))
    by_block (Some b) e = h k b e low ∙ same b ∙ ap g (sym (block_next w k ∙ e))

-- what is made of the sets of those that measure less

near_fact : (m n : ℕ) → (nat_lt m (n + 2) && not (nat_lt m (n - 1))) ≡ nat_le (apart m n) 1
near_fact m n = elim (cases_lt m (n + 2)) [
  | inr high ↦ rw (le-ltb m (n + 2) high) (sym (lt-leb (apart m n) 1 (omega (arith, high))))
  | inl low ↦ rw (lt-ltb m (n + 2) low) (by_less (cases_lt m (n - 1)) low)
]
  where
    by_less : (m < n - 1) ⊎ (n - 1 ≤ m) → m < n + 2 → not (nat_lt m (n - 1)) ≡ nat_le (apart m n) 1
    by_less (inl less) low = rw (lt-ltb m (n - 1) less) (sym (lt-leb (apart m n) 1 (omega (arith, less))))
    by_less (inr more) low = rw (le-ltb m (n - 1) more) (sym (le-leb (apart m n) 1 (omega (arith, low, more))))

pub near_set : (w : List Block) (f : Block → ℕ) (n most less rest r : ℕ) → IsSetOf w (λ x. nat_lt (f x) (n + 2)) most → IsSetOf w (λ x. nat_lt (f x) (n - 1)) less → ((k : ℕ) → k < 64 → has rest k ≡ not (has less k)) →
    ((k : ℕ) → has r k ≡ (has most k && has rest k)) → IsSetOf w (λ x. nat_le (apart (f x) n) 1) r
near_set w f n most less rest r h g lacks both k x e l = both k ∙ ap₂ (λ p q. p && q) (h k x e l) (lacks k l ∙ ap not (g k x e l)) ∙ near_fact (f x) n

-- who is near and not the same is one apart
one_apart : (m n : ℕ) → (m == n) ≡ false → nat_le (apart m n) 1 ≡ (apart m n == 1)
one_apart m n other = elim (cases_order (apart m n) 1) [
  | inl e ↦ le-leb (apart m n) 1 (omega (arith, e)) ∙ sym (eq-eqb (apart m n) 1 e)
  | inr (inl less) ↦ absurd (eqb-false m n other (omega (arith, less)))
  | inr (inr more) ↦ lt-leb (apart m n) 1 more ∙ sym (ne_eqb (apart m n) 1 (λ e. absurd (omega (arith, e, more))))
]

none_apart : (m n : ℕ) → (m == n) ≡ true → (apart m n == 1) ≡ false
none_apart m n same = ne_eqb (apart m n) 1 (λ e. absurd (omega (arith, e, eqb-true m n same)))

itself_near : (m n : ℕ) → (m == n) ≡ true → nat_le (apart m n) 1 ≡ true
itself_near m n same = le-leb (apart m n) 1 (omega (arith, eqb-true m n same))

unlike_false : (b : Bool) → not (are_alike b false) ≡ b
unlike_false true = refl
unlike_false false = refl

or_false : (b : Bool) → (b || false) ≡ b
or_false true = refl
or_false false = refl

not_not : (b : Bool) → not (not b) ≡ b
not_not true = refl
not_not false = refl

side_fact : (p q m n : ℕ) → not (are_alike ((p == q) && nat_le (apart m n) 1) ((m == n) && nat_le (apart p q) 1)) ≡ (((p == q) && (apart m n == 1)) || ((m == n) && (apart p q == 1)))
side_fact p q m n = by_tests (p == q) (m == n) refl refl
  where
    by_tests : (s t : Bool) → (p == q) ≡ s → (m == n) ≡ t → not (are_alike (s && nat_le (apart m n) 1) (t && nat_le (apart p q) 1)) ≡ ((s && (apart m n == 1)) || (t && (apart p q == 1)))
    by_tests true true e i = ap₂ (λ x y. not (are_alike x y)) (itself_near m n i) (itself_near p q e) ∙ sym (ap₂ (λ x y. x || y) (none_apart m n i) (none_apart p q e))
    by_tests true false e i = unlike_false (nat_le (apart m n) 1) ∙ one_apart m n i ∙ sym (or_false (apart m n == 1))
    by_tests false true e i = not_not (nat_le (apart p q) 1) ∙ one_apart p q e
    by_tests false false e i = refl

pub side_set : (w : List Block) (c : Block) (row near column close in_row in_column r : ℕ) → IsSetOf w (λ x. x.row == c.row) row → IsSetOf w (λ x. nat_le (apart x.column c.column) 1) near → IsSetOf w (λ x. x.column == c.column) column →
    IsSetOf w (λ x. nat_le (apart x.row c.row) 1) close → ((k : ℕ) → has in_row k ≡ (has row k && has near k)) → ((k : ℕ) → has in_column k ≡ (has column k && has close k)) →
    ((k : ℕ) → has r k ≡ not (are_alike (has in_row k) (has in_column k))) → IsSetOf w (λ x. share_side x c) r
side_set w c row near column close in_row in_column r f g h i one other apart_from k x e l =
    apart_from k ∙ ap₂ (λ p q. not (are_alike p q)) (one k ∙ ap₂ (λ p q. p && q) (f k x e l) (g k x e l)) (other k ∙ ap₂ (λ p q. p && q) (h k x e l) (i k x e l)) ∙ side_fact x.row c.row x.column c.column
