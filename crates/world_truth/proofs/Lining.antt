-- Blocks in one line: the blocks of a world have the order of their places in each line of the board.
use Rattle.std.proofs.Common.{◌≡◌, ℕ, zero, suc, ◌+◌, ◌-◌, ◌<◌, ◌≤◌, Bool, true, false, List, [], ◌∷◌, length, get_or, refl, sym, ap, ap₂, ◌∙◌, subst, arith, ◌⊎◌, inl, inr}
use Rattle.std.specs.Prelude.{◌&&◌, ◌||◌, ◌==◌, nat_lt, if◌then◌else◌, Option, None, Some}
use Rattle.std.specs.List.{slice_get}
use Rattle.std.proofs.lemmas.Option.{same_Some, slice_get_within, slice_get-get_or}
use Rattle.std.proofs.lemmas.Bool.{eqb-true, eqb-false, eq-eqb, ne_eqb, lt-ltb, ltb-true, le-ltb, and_parts, and_from, or_from, cases_lt, cases_order, true≢false}
use Rattle.std.proofs.Math.Bool.{and_comm, or_comm, and-or_distrib_right}
use Rattle.world_truth.specs.declared.betweenness.Lines.{Lines}
use Rattle.worlds.specs.declared.block.Block.{Block}
use Rattle.worlds.specs.declared.predicate.Predicate.TheVariants.{Between}
use Rattle.worlds.specs.declared.scales.Measure.{Measure}
use Rattle.worlds.specs.declared.scales.Measure.TheVariants as m
use Rattle.bit_sets.specs.BitSets.{has}
use Rattle.worlds.specs.Geometry.{is_on_board, is_between, is_inside, on_rising, square}
use Rattle.world_truth.specs.inside.BoardLines.{line_at, measures_same, AreLines}
use Rattle.worlds.specs.Predicates.{says}
use Rattle.worlds.specs.Scales.{measure_of, IsSetOf}
use Rattle.worlds.specs.Worlds.{block_at, in_order, IsWorld}
use Rattle.worlds.proofs.Scaling.{each_of, place_of, block_read}
use Rattle.bit_sets.proofs.Sets.{empty_has}

on_board : (w : List Block) → IsWorld w → (k : ℕ) (b : Block) → slice_get w k ≡ Some b → is_on_board b ≡ true
on_board w h = each_of is_on_board w h.on_board

-- Two tests of equality agree where each of the equations follows from the other.
same_test : (a b c d : ℕ) → (a ≡ b → c ≡ d) → (c ≡ d → a ≡ b) → (t : Bool) → (a == b) ≡ t → (a == b) ≡ (c == d)
same_test a b c d f g true e = e ∙ sym (eq-eqb c d (f (eqb-true a b e)))
same_test a b c d f g false e = e ∙ sym (ne_eqb c d (λ h. eqb-false a b e (g h)))

rising_same : (b c : Block) → is_on_board b ≡ true → is_on_board c ≡ true → on_rising b c ≡ (measure_of m.Rising b == measure_of m.Rising c)
rising_same b c h g =
    let p = place_of b h in let q = place_of c g in
    same_test (b.column + c.row) (c.column + b.row) (b.row + 8 - b.column) (c.row + 8 - c.column) (λ e. omega (arith, e, p.1, q.1)) (λ e. omega (arith, e, p.1, q.1)) (b.column + c.row == c.column + b.row) refl

-- The first block measures the same as both others.
abbrev alike : Measure → Block → Block → Block → Bool
alike line x b c = measure_of line x == measure_of line b && measure_of line x == measure_of line c

-- All three stand in one row, one column or one diagonal.
abbrev in_one_line : Block → Block → Block → Bool
in_one_line x b c = alike m.Row x b c || alike m.Column x b c || alike m.Rising x b c || alike m.Falling x b c

-- The squares of the blocks have the order of their places.

square_order : (w : List Block) → in_order w ≡ true → (i j : ℕ) (b c : Block) → slice_get w i ≡ Some b → slice_get w j ≡ Some c → i < j → square b < square c
square_order [] h i j b c e g l = absurd (cc)
square_order (d ∷ ds) h zero zero b c e g l = absurd (omega (arith, l))
square_order (d ∷ ds) h zero (suc j) b c e g l =
    subst (λ x. square x < square c) (same_Some d b e) (ltb-true (square d) (square c) (each_of (λ x. nat_lt (square d) (square x)) ds (and_parts _ (in_order ds) h).0 j c g))
square_order (d ∷ ds) h (suc i) zero b c e g l = absurd (omega (arith, l))
square_order (d ∷ ds) h (suc i) (suc j) b c e g l = square_order ds (and_parts _ (in_order ds) h).1 i j b c e g (omega (arith, l))

squares_apart : (w : List Block) → IsWorld w → (i j : ℕ) (b c : Block) → slice_get w i ≡ Some b → slice_get w j ≡ Some c → (i ≡ j → ⊥) → square b ≡ square c → ⊥
squares_apart w h i j b c e g apart same = by_order (cases_order i j)
  where
    by_order : (i ≡ j) ⊎ ((i < j) ⊎ (j < i)) → ⊥
    by_order (inl s) = apart s
    by_order (inr (inl l)) = absurd (omega (arith, same, square_order w h.ordered i j b c e g l))
    by_order (inr (inr l)) = absurd (omega (arith, same, square_order w h.ordered j i c b g e l))

-- Along a line, what is measured rises with the squares.
abbrev Rises : Measure → Measure → Type 0
Rises line along = (b c : Block) → is_on_board b ≡ true → is_on_board c ≡ true → measure_of line b ≡ measure_of line c → square b < square c → measure_of along b < measure_of along c

row_rises : Rises m.Row m.Column
row_rises b c h g e l = let p = place_of b h in let q = place_of c g in omega arith

column_rises : Rises m.Column m.Row
column_rises b c h g e l = let p = place_of b h in let q = place_of c g in omega arith

rising_rises : Rises m.Rising m.Column
rising_rises b c h g e l = let p = place_of b h in let q = place_of c g in omega arith

falling_rises : Rises m.Falling m.Row
falling_rises b c h g e l = let p = place_of b h in let q = place_of c g in omega arith

-- Two blocks in one line lie along it in the order of their places.
order_same : (w : List Block) → IsWorld w → (line along : Measure) → Rises line along → (i j : ℕ) (b c : Block) → slice_get w i ≡ Some b → slice_get w j ≡ Some c → measure_of line b ≡ measure_of line c →
    nat_lt i j ≡ nat_lt (measure_of along b) (measure_of along c)
order_same w h line along rises i j b c e g same = by_order (cases_order i j)
  where
    by_order : (i ≡ j) ⊎ ((i < j) ⊎ (j < i)) → nat_lt i j ≡ nat_lt (measure_of along b) (measure_of along c)
    by_order (inl s) =
        let one : b ≡ c = same_Some b c (sym e ∙ ap (slice_get w) s ∙ g) in
        le-ltb i j (omega (arith, s)) ∙ sym (le-ltb (measure_of along b) (measure_of along c) (omega (arith, ap (measure_of along) one)))
    by_order (inr (inl l)) = lt-ltb i j l ∙ sym (lt-ltb (measure_of along b) (measure_of along c) (rises b c (on_board w h i b e) (on_board w h j c g) same (square_order w h.ordered i j b c e g l)))
    by_order (inr (inr l)) =
        let less = rises c b (on_board w h j c g) (on_board w h i b e) (sym same) (square_order w h.ordered j i c b g e l) in
        le-ltb i j (omega (arith, l)) ∙ sym (le-ltb (measure_of along b) (measure_of along c) (omega (arith, less)))

-- Of three blocks in one line, one stands between the others just where its place lies between theirs.
inside_same : (w : List Block) → IsWorld w → (line along : Measure) → Rises line along → (k i j : ℕ) (x b c : Block) → slice_get w k ≡ Some x → slice_get w i ≡ Some b → slice_get w j ≡ Some c →
    measure_of line x ≡ measure_of line b → measure_of line x ≡ measure_of line c → is_inside (measure_of along x) (measure_of along b) (measure_of along c) ≡ is_inside k i j
inside_same w h line along rises k i j x b c e f g s t =
    sym (ap₂ (λ p q. p || q)
    (ap₂ (λ p q. p && q) (order_same w h line along rises i k b x f e (sym s)) (order_same w h line along rises k j x c e g t))
    (ap₂ (λ p q. p && q) (order_same w h line along rises j k c x g e (sym t)) (order_same w h line along rises k i x b e f s)))

-- In a diagonal that falls, the columns have the order of the rows turned round.
turned : (a b c d : ℕ) → a + b ≡ c + d → nat_lt a c ≡ nat_lt d b
turned a b c d e = elim (cases_lt a c) [
  | inl l ↦ lt-ltb a c l ∙ sym (lt-ltb d b (omega (arith, l, e)))
  | inr l ↦ le-ltb a c l ∙ sym (le-ltb d b (omega (arith, l, e)))
]

flipped : (p q r s : Bool) → ((p && q) || (r && s)) ≡ ((s && r) || (q && p))
flipped p q r s = ap₂ (λ t u. t || u) (and_comm p q) (and_comm r s) ∙ or_comm (q && p) (s && r)

columns_as_rows : (x b c : Block) → measure_of m.Falling x ≡ measure_of m.Falling b → measure_of m.Falling x ≡ measure_of m.Falling c → is_inside x.column b.column c.column ≡ is_inside x.row b.row c.row
columns_as_rows x b c s t =
    ap₂ (λ p q. p || q)
    (ap₂ (λ p q. p && q) (turned b.column b.row x.column x.row (sym s)) (turned x.column x.row c.column c.row t))
    (ap₂ (λ p q. p && q) (turned c.column c.row x.column x.row (sym t)) (turned x.column x.row b.column b.row s))
    ∙ flipped (nat_lt x.row b.row) (nat_lt c.row x.row) (nat_lt x.row c.row) (nat_lt b.row x.row)

-- What holds of a line that has all three in it may be put in place of one that stands after the tests of this.
along_same : (s t p q : Bool) → (s ≡ true → t ≡ true → p ≡ q) → (s && t && p) ≡ ((s && t) && q)
along_same true true p q h = h refl refl
along_same true false p q h = refl
along_same false true p q h = refl
along_same false false p q h = refl

four_terms : (p q r s n : Bool) → ((p && n) || (q && n) || (r && n) || (s && n)) ≡ ((p || q || r || s) && n)
four_terms p q r s n = simp and-or_distrib_right

-- A block stands between two others just where all three are in one line and its place lies between theirs.
between_by_places : (w : List Block) → IsWorld w → (k i j : ℕ) (x b c : Block) → slice_get w k ≡ Some x → slice_get w i ≡ Some b → slice_get w j ≡ Some c →
    is_between x b c ≡ (in_one_line x b c && is_inside k i j)
between_by_places w h k i j x b c e f g =
    ap₂ (λ p q. p || q)
    (ap₂ (λ p q. p || q)
    (ap₂ (λ p q. p || q)
    (along_same _ _ _ _ (λ s t. inside_same w h m.Row m.Column row_rises k i j x b c e f g (eqb-true _ _ s) (eqb-true _ _ t)))
    (along_same _ _ _ _ (λ s t. inside_same w h m.Column m.Row column_rises k i j x b c e f g (eqb-true _ _ s) (eqb-true _ _ t))))
    (ap₂ (λ p q. p && q && is_inside x.column b.column c.column) (rising_same x b (on_board w h k x e) (on_board w h i b f)) (rising_same x c (on_board w h k x e) (on_board w h j c g))
    ∙ along_same _ _ _ _ (λ s t. inside_same w h m.Rising m.Column rising_rises k i j x b c e f g (eqb-true _ _ s) (eqb-true _ _ t))))
    (along_same _ _ _ _ (λ s t. columns_as_rows x b c (eqb-true _ _ s) (eqb-true _ _ t) ∙ inside_same w h m.Falling m.Row falling_rises k i j x b c e f g (eqb-true _ _ s) (eqb-true _ _ t)))
    ∙ four_terms (alike m.Row x b c) (alike m.Column x b c) (alike m.Rising x b c) (alike m.Falling x b c) (is_inside k i j)

-- Where a place lies between two others, these are apart, and it is none of them.

inside_none : (k m n : ℕ) → m ≡ n → is_inside k m n ≡ false
inside_none k m n e = ap (λ j. (nat_lt m k && nat_lt k j) || (nat_lt j k && nat_lt k m)) (sym e) ∙ by_order (cases_lt m k)
  where
    by_order : (m < k) ⊎ (k ≤ m) → ((nat_lt m k && nat_lt k m) || (nat_lt m k && nat_lt k m)) ≡ false
    by_order (inl h) = rw (lt-ltb m k h) (rw (le-ltb k m (omega (arith, h))) refl)
    by_order (inr h) = rw (le-ltb m k h) refl

inside_itself : (k m n : ℕ) → k ≡ n → is_inside k m n ≡ false
inside_itself k m n e = ap (λ j. (nat_lt m k && nat_lt k j) || (nat_lt j k && nat_lt k m)) (sym e) ∙ rw (le-ltb k k (omega arith)) (by_test (nat_lt m k))
  where
    by_test : (t : Bool) → ((t && false) || (false && (nat_lt k m))) ≡ false
    by_test true = refl
    by_test false = refl

-- One of four tests decides where the others fail.

first_alone : (s : Bool) → (s || false || false || false) ≡ s
first_alone true = refl
first_alone false = refl

second_alone : (s : Bool) → (false || s || false || false) ≡ s
second_alone true = refl
second_alone false = refl

third_alone : (s : Bool) → (false || false || s || false) ≡ s
third_alone true = refl
third_alone false = refl

-- Of four sets of which at most one has the first place, the one that has it is chosen, and the second place is in that one
-- just where one of the four has both.
chosen : (k row column rising falling : ℕ) (n r c u f : Bool) → n ≡ (r || c || u || f) → (r ≡ true → c ≡ true → ⊥) → (r ≡ true → u ≡ true → ⊥) → (r ≡ true → f ≡ true → ⊥) → (c ≡ true → u ≡ true → ⊥) → (c ≡ true → f ≡ true → ⊥) → (u ≡ true → f ≡ true → ⊥) →
    has (if n then (if r then row else if c then column else if u then rising else falling) else 0) k ≡ ((r && has row k) || (c && has column k) || (u && has rising k) || (f && has falling k))
chosen k row column rising falling n true true u f e rc ru rf cu cf uf = absurd (rc refl refl)
chosen k row column rising falling n true false true f e rc ru rf cu cf uf = absurd (ru refl refl)
chosen k row column rising falling n true false false true e rc ru rf cu cf uf = absurd (rf refl refl)
chosen k row column rising falling n true false false false e rc ru rf cu cf uf = rw e (sym (first_alone (has row k)))
chosen k row column rising falling n false true true f e rc ru rf cu cf uf = absurd (cu refl refl)
chosen k row column rising falling n false true false true e rc ru rf cu cf uf = absurd (cf refl refl)
chosen k row column rising falling n false true false false e rc ru rf cu cf uf = rw e (sym (second_alone (has column k)))
chosen k row column rising falling n false false true true e rc ru rf cu cf uf = absurd (uf refl refl)
chosen k row column rising falling n false false true false e rc ru rf cu cf uf = rw e (sym (third_alone (has rising k)))
chosen k row column rising falling n false false false true e rc ru rf cu cf uf = rw e refl
chosen k row column rising falling n false false false false e rc ru rf cu cf uf = rw e (empty_has k)

-- Two blocks that stand in two lines at once stand on one square.

abbrev Excludes : Measure → Measure → Type 0
Excludes one other = (b c : Block) → is_on_board b ≡ true → is_on_board c ≡ true → measure_of one c ≡ measure_of one b → measure_of other c ≡ measure_of other b → square b ≡ square c

row_column : Excludes m.Row m.Column
row_column b c h g e f = let p = place_of b h in let q = place_of c g in omega arith

row_rising : Excludes m.Row m.Rising
row_rising b c h g e f = let p = place_of b h in let q = place_of c g in omega arith

row_falling : Excludes m.Row m.Falling
row_falling b c h g e f = let p = place_of b h in let q = place_of c g in omega arith

column_rising : Excludes m.Column m.Rising
column_rising b c h g e f = let p = place_of b h in let q = place_of c g in omega arith

column_falling : Excludes m.Column m.Falling
column_falling b c h g e f = let p = place_of b h in let q = place_of c g in omega arith

rising_falling : Excludes m.Rising m.Falling
rising_falling b c h g e f = let p = place_of b h in let q = place_of c g in omega arith

-- The second and the third block measure the same as the first one.
abbrev with_both : Measure → Block → Block → Block → Bool
with_both line b c x = measure_of line c == measure_of line b && measure_of line x == measure_of line b

-- The third block stands in a line with the first two.
abbrev in_line_of_both : Block → Block → Block → Bool
in_line_of_both b c x = with_both m.Row b c x || with_both m.Column b c x || with_both m.Rising b c x || with_both m.Falling b c x

-- A block is in the set of a line through block b just where it measures the same as b, and in no line through no block.
member : (w : List Block) (number : ℕ) (b : Block) (line : Measure) (bits : ℕ) → length w ≤ 64 → block_at w number ≡ Some b → IsSetOf w (measures_same line (block_at w number)) bits → (k : ℕ) (x : Block) → slice_get w k ≡ Some x →
    has bits k ≡ (measure_of line x == measure_of line b)
member w number b line bits few is set k x e = set k x e (omega (arith, slice_get_within w k x e, few)) ∙ ap (λ o. measures_same line o x) is

not_member : (w : List Block) (number : ℕ) (line : Measure) (bits : ℕ) → length w ≤ 64 → block_at w number ≡ None → IsSetOf w (measures_same line (block_at w number)) bits → (k : ℕ) (x : Block) → slice_get w k ≡ Some x → has bits k ≡ false
not_member w number line bits few is set k x e = set k x e (omega (arith, slice_get_within w k x e, few)) ∙ ap (λ o. measures_same line o x) is

-- The line that is chosen by the place of another block has the blocks that stand in line with both.
in_line_at : (w : List Block) (number : ℕ) (l : Lines) (j k : ℕ) (b c x : Block) → AreLines w number l → block_at w number ≡ Some b → slice_get w j ≡ Some c → slice_get w k ≡ Some x → (l.place ≡ j → ⊥) →
    has (line_at l j) k ≡ in_line_of_both b c x
in_line_at w number l j k b c x h is g e apart =
    let row = member w number b m.Row l.row.bits h.few is h.row in
    let column = member w number b m.Column l.column.bits h.few is h.column in
    let rising = member w number b m.Rising l.rising.bits h.few is h.rising in
    let falling = member w number b m.Falling l.falling.bits h.few is h.falling in
    chosen k l.row.bits l.column.bits l.rising.bits l.falling.bits (has l.all.bits j) (has l.row.bits j) (has l.column.bits j) (has l.rising.bits j) (has l.falling.bits j) (h.all j)
    (excluded m.Row m.Column row_column (row j c g) (column j c g)) (excluded m.Row m.Rising row_rising (row j c g) (rising j c g)) (excluded m.Row m.Falling row_falling (row j c g) (falling j c g))
    (excluded m.Column m.Rising column_rising (column j c g) (rising j c g)) (excluded m.Column m.Falling column_falling (column j c g) (falling j c g)) (excluded m.Rising m.Falling rising_falling (rising j c g) (falling j c g))
    ∙ ap₂ (λ p q. p || q)
    (ap₂ (λ p q. p || q)
    (ap₂ (λ p q. p || q) (ap₂ (λ p q. p && q) (row j c g) (row k x e)) (ap₂ (λ p q. p && q) (column j c g) (column k x e)))
    (ap₂ (λ p q. p && q) (rising j c g) (rising k x e)))
    (ap₂ (λ p q. p && q) (falling j c g) (falling k x e))
  where
    excluded : (one other : Measure) → Excludes one other → {s t : Bool} → s ≡ (measure_of one c == measure_of one b) → t ≡ (measure_of other c == measure_of other b) → s ≡ true → t ≡ true → ⊥
    excluded one other same p q s t =
        squares_apart w h.world l.place j b c (h.place b is) g apart (same b c (on_board w h.world l.place b (h.place b is)) (on_board w h.world j c g) (eqb-true _ _ (sym p ∙ s)) (eqb-true _ _ (sym q ∙ t)))

-- No line through no block is chosen.
no_line_at : (w : List Block) (number : ℕ) (l : Lines) (j k : ℕ) (c : Block) → AreLines w number l → block_at w number ≡ None → slice_get w j ≡ Some c → has (line_at l j) k ≡ false
no_line_at w number l j k c h is g =
    let row = not_member w number m.Row l.row.bits h.few is h.row j c g in
    let column = not_member w number m.Column l.column.bits h.few is h.column j c g in
    let rising = not_member w number m.Rising l.rising.bits h.few is h.rising j c g in
    let falling = not_member w number m.Falling l.falling.bits h.few is h.falling j c g in
    let none : has l.all.bits j ≡ false = h.all j ∙ or_from _ _ (or_from _ _ (or_from _ _ row column) rising) falling in
    rw none (empty_has k)

-- Where all three measure the same, each of them may be compared with the two others.
same_pair : (a b c d e f g h : ℕ) → (a ≡ b → c ≡ d → (e ≡ f) × (g ≡ h)) → (e ≡ f → g ≡ h → (a ≡ b) × (c ≡ d)) → (s t : Bool) → (a == b && c == d) ≡ s → (e == f && g == h) ≡ t → (a == b && c == d) ≡ (e == f && g == h)
same_pair a b c d e f g h to from true true i j = i ∙ sym j
same_pair a b c d e f g h to from false false i j = i ∙ sym j
same_pair a b c d e f g h to from true false i j =
    let p = and_parts (a == b) (c == d) i in
    let q = to (eqb-true a b p.0) (eqb-true c d p.1) in
    absurd (true≢false (sym (and_from (e == f) (g == h) (eq-eqb e f q.0) (eq-eqb g h q.1)) ∙ j))
same_pair a b c d e f g h to from false true i j =
    let p = and_parts (e == f) (g == h) j in
    let q = from (eqb-true e f p.0) (eqb-true g h p.1) in
    absurd (true≢false (sym (and_from (a == b) (c == d) (eq-eqb a b q.0) (eq-eqb c d q.1)) ∙ i))

from_last : (line : Measure) (b c x : Block) → alike line x c b ≡ with_both line b c x
from_last line b c x =
    let f = measure_of line in same_pair (f x) (f c) (f x) (f b) (f c) (f b) (f x) (f b) (λ p q. (sym p ∙ q, q)) (λ p q. (q ∙ sym p, q)) _ _ refl refl

from_first : (line : Measure) (b c x : Block) → alike line b x c ≡ with_both line b c x
from_first line b c x =
    let f = measure_of line in same_pair (f b) (f x) (f b) (f c) (f c) (f b) (f x) (f b) (λ p q. (sym q, sym p)) (λ p q. (sym q, sym p)) _ _ refl refl

from_middle : (line : Measure) (b c x : Block) → alike line c x b ≡ with_both line b c x
from_middle line b c x =
    let f = measure_of line in same_pair (f c) (f x) (f c) (f b) (f c) (f b) (f x) (f b) (λ p q. (q, sym p ∙ q)) (λ p q. (p ∙ sym q, p)) _ _ refl refl

in_all_lines : (f g : Measure → Bool) → ((line : Measure) → f line ≡ g line) → (f m.Row || f m.Column || f m.Rising || f m.Falling) ≡ (g m.Row || g m.Column || g m.Rising || g m.Falling)
in_all_lines f g h = ap₂ (λ p q. p || q) (ap₂ (λ p q. p || q) (ap₂ (λ p q. p || q) (h m.Row) (h m.Column)) (h m.Rising)) (h m.Falling)

-- A test before another one is only needed where that one holds.
and_same : (p q n : Bool) → (n ≡ true → p ≡ q) → (p && n) ≡ (q && n)
and_same p q true h = ap (λ s. s && true) (h refl)
and_same true true false h = refl
and_same true false false h = refl
and_same false true false h = refl
and_same false false false h = refl

-- A set that is cut from the line through two blocks has those of which something is said with both, if this is so just of
-- the blocks in their line that are in the cut.
said_set : (w : List Block) (number : ℕ) (l : Lines) (j r : ℕ) (f : Option Block → Option Block → Block → Bool) (cut : ℕ → Bool) → AreLines w number l → j < length w →
    ((k : ℕ) → k < 64 → has r k ≡ (has (line_at l j) k && cut k)) → ((k : ℕ) → cut k ≡ true → l.place ≡ j → ⊥) → ((c x : Block) → f None (Some c) x ≡ false) →
    ((k : ℕ) (b c x : Block) → slice_get w l.place ≡ Some b → slice_get w j ≡ Some c → slice_get w k ≡ Some x → f (Some b) (Some c) x ≡ (in_line_of_both b c x && cut k)) →
    IsSetOf w (f (block_at w number) (block_at w (j + 1))) r
said_set w number l j r f cut h within bits apart none some k x e low = bits k low ∙ by_block (block_at w number) refl
  where
    g : slice_get w j ≡ Some (get_or w j x)
    g = slice_get-get_or w j x within

    by_block : (o : Option Block) → block_at w number ≡ o → (has (line_at l j) k && cut k) ≡ f (block_at w number) (block_at w (j + 1)) x
    by_block None is = ap (λ s. s && cut k) (no_line_at w number l j k (get_or w j x) h is g) ∙ sym (ap₂ (λ o p. f o p x) is (block_read w j x within) ∙ none (get_or w j x) x)
    by_block (Some b) is =
        and_same _ _ (cut k) (λ n. in_line_at w number l j k b (get_or w j x) x h is g e (apart k n))
        ∙ sym (ap₂ (λ o p. f o p x) is (block_read w j x within) ∙ some k b (get_or w j x) x (h.place b is) g e)

-- Where no line has the place, no set is cut from one.
pub none_of_line : (l : Lines) (j k : ℕ) (cut : Bool) → has l.all.bits j ≡ false → has 0 k ≡ (has (line_at l j) k && cut)
none_of_line l j k cut none = empty_has k ∙ sym (ap (λ s. s && cut) (off_line none))
  where
    off_line : has l.all.bits j ≡ false → has (line_at l j) k ≡ false
    off_line e = rw e (empty_has k)

-- The three sets are cut from the line by what may lie between what.
pub between_set : (w : List Block) (number : ℕ) (l : Lines) (j r : ℕ) → AreLines w number l → j < length w → ((k : ℕ) → k < 64 → has r k ≡ (has (line_at l j) k && is_inside k j l.place)) →
    IsSetOf w (λ x. says Between (Some x ∷ block_at w (j + 1) ∷ block_at w number ∷ [])) r
between_set w number l j r h within bits =
    said_set w number l j r (λ o p x. says Between (Some x ∷ p ∷ o ∷ [])) (λ k. is_inside k j l.place) h within bits
    (λ k n same. true≢false (sym n ∙ inside_none k j l.place (sym same))) (λ c x. refl)
    (λ k b c x f g e. between_by_places w h.world k j l.place x c b e g f ∙ ap (λ s. s && is_inside k j l.place) (in_all_lines (λ line. alike line x c b) (λ line. with_both line b c x) (λ line. from_last line b c x)))

pub around_set : (w : List Block) (number : ℕ) (l : Lines) (j r : ℕ) → AreLines w number l → j < length w → ((k : ℕ) → k < 64 → has r k ≡ (has (line_at l j) k && is_inside l.place k j)) →
    IsSetOf w (λ x. says Between (block_at w number ∷ Some x ∷ block_at w (j + 1) ∷ [])) r
around_set w number l j r h within bits =
    said_set w number l j r (λ o p x. says Between (o ∷ Some x ∷ p ∷ [])) (λ k. is_inside l.place k j) h within bits
    (λ k n same. true≢false (sym n ∙ inside_itself l.place k j same)) (λ c x. refl)
    (λ k b c x f g e. between_by_places w h.world l.place k j b x c f e g ∙ ap (λ s. s && is_inside l.place k j) (in_all_lines (λ line. alike line b x c) (λ line. with_both line b c x) (λ line. from_first line b c x)))

pub behind_set : (w : List Block) (number : ℕ) (l : Lines) (j r : ℕ) → AreLines w number l → j < length w → ((k : ℕ) → k < 64 → has r k ≡ (has (line_at l j) k && is_inside j k l.place)) →
    IsSetOf w (λ x. says Between (block_at w (j + 1) ∷ Some x ∷ block_at w number ∷ [])) r
behind_set w number l j r h within bits =
    said_set w number l j r (λ o p x. says Between (p ∷ Some x ∷ o ∷ [])) (λ k. is_inside j k l.place) h within bits
    (λ k n same. true≢false (sym n ∙ inside_itself j k l.place (sym same))) (λ c x. refl)
    (λ k b c x f g e. between_by_places w h.world j k l.place c x b g e f ∙ ap (λ s. s && is_inside j k l.place) (in_all_lines (λ line. alike line c x b) (λ line. with_both line b c x) (λ line. from_middle line b c x)))
