-- A printed world has no faulty line, and its blocks in the order of their squares are the world.
use Rattle.std.proofs.Common.{◌≡◌, ℕ, zero, suc, ◌+◌, ◌-◌, ◌<◌, ◌≤◌, Bool, true, false, List, [], ◌∷◌, ◌++◌, length, map, get_or, arith, refl, sym, ap, ap₂, subst, ◌∙◌, inl, inr, ◌⊎◌}
use Rattle.std.specs.Prelude.{◌==◌, ◌&&◌, ◌||◌, nat_lt, nat_le, Some, None, codes}
use Rattle.std.specs.Fmt.{decimal}
use Rattle.std.specs.List.{list_all, list_any, cons_option}
use Rattle.std.specs.Str.Lines.{lines, strip_carriage_return}
use Rattle.std.proofs.lemmas.Bool.{or_from, or_left, or_right, or_parts, and_parts, and_from, and_left, cases_eq, cases_lt, cases_Bool, ne_eqb, eq-eqb, ltb-true, lt-ltb, leb-true, false_from_ne_true, not-true}
use Rattle.std.proofs.lemmas.List.{append_assoc}
use Rattle.std.proofs.lemmas.List.Folds.{list_all-append}
use Rattle.texts.specs.Cuts.{Lacks}
use Rattle.texts.proofs.Splitting.{lines-cut}
use Rattle.worlds.specs.declared.block.Block.{Block}
use Rattle.worlds.specs.Geometry.{bears, square, is_place, is_on_board}
use Rattle.worlds.specs.Worlds.{IsOneOf, AreSingle, in_order, IsWorld}
use Rattle.world_text.specs.Lines.{behind_header}
use Rattle.world_text.specs.BlockLines.{may_name, stands_in, said_in, blocks_of}
use Rattle.world_text.specs.WorldText.{is_name_taken, is_square_taken, repeats_name, fault_said, first_fault, fault_from, world_fault, by_squares, world_of}
use Rattle.world_text.specs.Printed.{names_text, shape_text, size_text, block_text, blocks_text, world_text}
use Rattle.world_text.proofs.Naming.{bears_in}
use Rattle.world_text.proofs.Squaring.{on, between, among_pushed, all_of}
use Rattle.world_text.proofs.Printing.{is_ink, is_word, names_word, shape_word, size_word, place_word, names_once, names_back, said_back, begun, block_back, blocks_back}

-- no printed line is faulty

nothing_new : (g : ℕ → Bool) (w : List ℕ) → repeats_name (λ l. false) w ≡ false → ((l : ℕ) → may_name l ≡ true → stands_in l w ≡ true → g l ≡ false) → repeats_name g w ≡ false
nothing_new g [] h n = refl
nothing_new g (k ∷ w) h n =
    let p : ((may_name k && (false || stands_in k w)) ≡ false) × (repeats_name (λ l. false) w ≡ false) = or_parts (may_name k && (false || stands_in k w)) (repeats_name (λ l. false) w) h in
    let here : (may_name k && (g k || stands_in k w)) ≡ false = elim (cases_Bool (may_name k)) [
      | inl m ↦ (
          let free : stands_in k w ≡ false = rw m at p.0 in
          rw m (or_from (g k) (stands_in k w) (n k m (or_left (k == k) (stands_in k w) (eq-eqb k k refl))) free))
      | inr m ↦ and_left (may_name k) (g k || stands_in k w) m
    ] in
    or_from (may_name k && (g k || stands_in k w)) (repeats_name g w) here
    (nothing_new g w p.1 (λ l m s. n l m (or_right (k == l) (stands_in l w) s)))

-- The blocks before and those to come are of one world, and stand on earlier squares.
record Parted (world seen rest : List Block) : Type 0 where
  before : (c : Block) → IsOneOf seen c → IsOneOf world c
  after : (c : Block) → IsOneOf rest c → IsOneOf world c
  earlier : (c d : Block) → IsOneOf seen c → IsOneOf rest d → square c < square d

none_of : (p : Block → Bool) (bs : List Block) → ((c : Block) → IsOneOf bs c → p c ≡ false) → list_any p bs ≡ false
none_of p [] h = refl
none_of p (c ∷ cs) h = or_from (p c) (list_any p cs) (h c (inl refl)) (none_of p cs (λ d i. h d (inr i)))

all_below : (b : Block) (bs : List Block) (d : Block) → list_all (λ c. nat_lt (square b) (square c)) bs ≡ true → IsOneOf bs d → square b < square d
all_below b [] d h i = absurd i
all_below b (c ∷ cs) d h (inl e) = subst (λ x. square b < square x) e (ltb-true (square b) (square c) (and_parts (nat_lt (square b) (square c)) (list_all (λ c. nat_lt (square b) (square c)) cs) h).0)
all_below b (c ∷ cs) d h (inr i) = all_below b cs d (and_parts (nat_lt (square b) (square c)) (list_all (λ c. nat_lt (square b) (square c)) cs) h).1 i

parted_on : (w seen : List Block) (b : Block) (bs : List Block) → Parted w seen (b ∷ bs) → in_order (b ∷ bs) ≡ true → Parted w (seen ++ b ∷ []) bs
parted_on w seen b bs p o =
    let q : (list_all (λ c. nat_lt (square b) (square c)) bs ≡ true) × (in_order bs ≡ true) = and_parts (list_all (λ c. nat_lt (square b) (square c)) bs) (in_order bs) o in
    record {
      before = λ c i. elim (among_pushed seen b c i) [ inl j ↦ p.before c j | inr e ↦ p.after c (inl e) ];
      after = λ c i. p.after c (inr i);
      earlier = λ c d i j. elim (among_pushed seen b c i) [ inl k ↦ p.earlier c d k (inr j) | inr e ↦ subst (λ x. square x < square d) e (all_below b bs d q.0 j) ];
    }

name_free : (w seen : List Block) (b : Block) (bs : List Block) (l : ℕ) → AreSingle w → Parted w seen (b ∷ bs) → bears b.names l ≡ true → is_name_taken seen l ≡ false
name_free w seen b bs l s p h =
    none_of (λ c. bears c.names l) seen (λ c i. false_from_ne_true (bears c.names l) (λ k.
    let same : c ≡ b = s l c b (p.before c i) (p.after b (inl refl)) k h in
    let less : square c < square b = p.earlier c b i (inl refl) in
    absurd (omega (arith, less, ap square same))))

block_good : (w seen : List Block) (b : Block) (bs : List Block) → AreSingle w → Parted w seen (b ∷ bs) → is_on_board b ≡ true → fault_said seen (said_in (block_text b)) ≡ None
block_good w seen b bs s p h =
    let free : is_square_taken seen (square b) ≡ false = none_of (λ c. square c == square b) seen (λ c i. ne_eqb (square c) (square b) (λ e. omega (arith, p.earlier c b i (inl refl), e))) in
    let once : repeats_name (is_name_taken seen) (names_text b.names) ≡ false =
    nothing_new (is_name_taken seen) (names_text b.names) (not-true (repeats_name (λ l. false) (names_text b.names)) (names_once b.names)) (λ l m t.
    name_free w seen b bs l s p (ap (λ n. bears n l) (sym (names_back b.names)) ∙ bears_in (names_text b.names) l ∙ and_from (may_name l) (stands_in l (names_text b.names)) m t)) in
    ap (fault_said seen) (said_back b h) ∙ rw h (rw free (rw once refl))

good_step : (seen : List Block) (n : ℕ) (b : Block) (ls : List (List ℕ)) → is_on_board b ≡ true → fault_said seen (said_in (block_text b)) ≡ None →
    first_fault seen n (block_text b ∷ ls) ≡ first_fault (seen ++ b ∷ []) (n + 1) ls
good_step seen n b ls h f = rw (begun b).1 (rw f (ap (λ o. first_fault (seen ++ cons_option o []) (n + 1) ls) (block_back b h)))

none_faulty : (w seen rest : List Block) (n : ℕ) → AreSingle w → Parted w seen rest → list_all is_on_board rest ≡ true → in_order rest ≡ true → first_fault seen n (map block_text rest) ≡ None
none_faulty w seen [] n s p h o = refl
none_faulty w seen (b ∷ bs) n s p h o =
    let q : (is_on_board b ≡ true) × (list_all is_on_board bs ≡ true) = and_parts (is_on_board b) (list_all is_on_board bs) h in
    let r : (list_all (λ c. nat_lt (square b) (square c)) bs ≡ true) × (in_order bs ≡ true) = and_parts (list_all (λ c. nat_lt (square b) (square c)) bs) (in_order bs) o in
    good_step seen n b (map block_text bs) q.0 (block_good w seen b bs s p q.0) ∙ none_faulty w (seen ++ b ∷ []) bs (n + 1) s (parted_on w seen b bs p o) q.1 r.1

-- the blocks of a world in the order of their squares

above : (a s : ℕ) → a ≤ s → (s ≡ a → ⊥) → a + 1 ≤ s
above a s h n = elim (cases_lt a s) [ inl l ↦ omega (arith, l) | inr g ↦ absurd (n (omega (arith, h, g))) ]

square_high : (c : Block) → is_on_board c ≡ true → square c < 0 + 64
square_high c h =
    let p : (is_place c.column ≡ true) × (is_place c.row ≡ true) = and_parts (is_place c.column) (is_place c.row) h in
    let q : (nat_le 1 c.column ≡ true) × (nat_le c.column 8 ≡ true) = and_parts (nat_le 1 c.column) (nat_le c.column 8) p.0 in
    let r : (nat_le 1 c.row ≡ true) × (nat_le c.row 8 ≡ true) = and_parts (nat_le 1 c.row) (nat_le c.row 8) p.1 in
    omega (arith, leb-true 1 c.column q.0, leb-true c.column 8 q.1, leb-true 1 c.row r.0, leb-true c.row 8 r.1)

skip_earlier : (b : Block) (bs : List Block) (a n : ℕ) → square b < a → between (b ∷ bs) a n ≡ between bs a n
skip_earlier b bs a zero h = refl
skip_earlier b bs a (suc n) h =
    let e : on (b ∷ bs) a ≡ on bs a = rw (ne_eqb (square b) a (λ e. omega (arith, h, e))) refl in
    ap₂ cons_option e (skip_earlier b bs (a + 1) n (omega (arith, h)))

none_on : (bs : List Block) (a : ℕ) → ((c : Block) → IsOneOf bs c → a < square c) → on bs a ≡ None
none_on [] a h = refl
none_on (c ∷ cs) a h = rw (ne_eqb (square c) a (λ e. omega (arith, h c (inl refl), e))) (none_on cs a (λ d i. h d (inr i)))

sorted_at : (b : Block) (bs : List Block) (a n : ℕ) → list_all (λ c. nat_lt (square b) (square c)) bs ≡ true → ((c : Block) → IsOneOf (b ∷ bs) c → a ≤ square c) →
    (square b ≡ a) ⊎ (square b ≡ a → ⊥) → (square b ≡ a → between bs (a + 1) n ≡ bs) → ((square b ≡ a → ⊥) → between (b ∷ bs) (a + 1) n ≡ b ∷ bs) → between (b ∷ bs) a (suc n) ≡ b ∷ bs
sorted_at b bs a n o low (inl e) here later =
    let found : on (b ∷ bs) a ≡ Some b = rw (eq-eqb (square b) a e) refl in
    ap₂ cons_option found (skip_earlier b bs (a + 1) n (omega (arith, e)) ∙ here e)
sorted_at b bs a n o low (inr e) here later =
    let first : a + 1 ≤ square b = above a (square b) (low b (inl refl)) e in
    let nothing : on (b ∷ bs) a ≡ None = none_on (b ∷ bs) a (λ c i. elim i [ inl s ↦ omega (arith, ap square s, first) | inr j ↦ omega (arith, first, all_below b bs c o j) ]) in
    ap₂ cons_option nothing (later e)

sorted : (bs : List Block) (a n : ℕ) → in_order bs ≡ true → ((c : Block) → IsOneOf bs c → a ≤ square c) → ((c : Block) → IsOneOf bs c → square c < a + n) → between bs a n ≡ bs
sorted [] a zero o low high = refl
sorted (b ∷ bs) a zero o low high = absurd (omega (arith, low b (inl refl), high b (inl refl)))
sorted [] a (suc n) o low high = sorted [] (a + 1) n refl (λ c i. absurd i) (λ c i. absurd i)
sorted (b ∷ bs) a (suc n) o low high =
    let q : (list_all (λ c. nat_lt (square b) (square c)) bs ≡ true) × (in_order bs ≡ true) = and_parts (list_all (λ c. nat_lt (square b) (square c)) bs) (in_order bs) o in
    sorted_at b bs a n q.0 low (cases_eq (square b) a)
    (λ e. sorted bs (a + 1) n q.1 (λ c i. omega (arith, e, all_below b bs c q.0 i)) (λ c i. omega (arith, high c (inr i))))
    (λ e. sorted (b ∷ bs) (a + 1) n o (λ c i. elim i [
      | inl s ↦ subst (λ x. a + 1 ≤ square x) s (above a (square b) (low b (inl refl)) e)
      | inr j ↦ omega (arith, low b (inl refl), all_below b bs c q.0 j)
    ]) (λ c i. omega (arith, high c i)))

pub sorted_world : (w : List Block) → IsWorld w → by_squares w ≡ w
sorted_world w h = sorted w 0 64 h.ordered (λ c i. omega arith) (λ c i. square_high c (all_of is_on_board w c h.on_board i))

-- the lines of the text

-- The byte stands within a line: it is ink or a space.
abbrev is_inline : ℕ → Bool
is_inline b = nat_lt 31 b

all_join : (p : ℕ → Bool) (xs ys : List ℕ) → list_all p xs ≡ true → list_all p ys ≡ true → list_all p (xs ++ ys) ≡ true
all_join p xs ys h k = list_all-append p xs ys ∙ and_from (list_all p xs) (list_all p ys) h k

ink_inline : (w : List ℕ) → list_all is_ink w ≡ true → list_all is_inline w ≡ true
ink_inline [] h = refl
ink_inline (b ∷ w) h =
    let p : (is_ink b ≡ true) × (list_all is_ink w ≡ true) = and_parts (is_ink b) (list_all is_ink w) h in
    and_from (is_inline b) (list_all is_inline w) (lt-ltb 31 b (omega (arith, ltb-true 32 b p.0))) (ink_inline w p.1)

word_inline : (w : List ℕ) → is_word w ≡ true → list_all is_inline w ≡ true
word_inline [] h = absurd (cc)
word_inline (b ∷ w) h = ink_inline (b ∷ w) h

block_inline : (b : Block) → is_on_board b ≡ true → list_all is_inline (block_text b) ≡ true
block_inline b h =
    let p : (is_place b.column ≡ true) × (is_place b.row ≡ true) = and_parts (is_place b.column) (is_place b.row) h in
    all_join is_inline (names_text b.names ++ (32 ∷ shape_text b.shape) ++ (32 ∷ size_text b.size) ++ (32 ∷ decimal b.column)) (32 ∷ decimal b.row)
    (all_join is_inline (names_text b.names ++ (32 ∷ shape_text b.shape) ++ (32 ∷ size_text b.size)) (32 ∷ decimal b.column)
    (all_join is_inline (names_text b.names ++ (32 ∷ shape_text b.shape)) (32 ∷ size_text b.size)
    (all_join is_inline (names_text b.names) (32 ∷ shape_text b.shape)
    (word_inline (names_text b.names) (names_word b.names))
    (word_inline (shape_text b.shape) (shape_word b.shape).0))
    (word_inline (size_text b.size) (size_word b.size).0))
    (word_inline (decimal b.column) (place_word b.column p.0).0))
    (word_inline (decimal b.row) (place_word b.row p.1).0)

no_feed : (t : List ℕ) → list_all is_inline t ≡ true → Lacks 10 t
no_feed [] h = refl
no_feed (b ∷ t) h =
    let p : (is_inline b ≡ true) × (list_all is_inline t ≡ true) = and_parts (is_inline b) (list_all is_inline t) h in
    or_from (b == 10) (list_any (λ c. c == 10) t) (ne_eqb b 10 (λ e. omega (arith, e, ltb-true 31 b p.0))) (no_feed t p.1)

get_inline : (t : List ℕ) (i : ℕ) → list_all is_inline t ≡ true → get_or t i 0 ≡ 13 → ⊥
get_inline [] i h e = absurd (cc)
get_inline (b ∷ t) zero h e =
    let p : (is_inline b ≡ true) × (list_all is_inline t ≡ true) = and_parts (is_inline b) (list_all is_inline t) h in
    omega (arith, e, ltb-true 31 b p.0)
get_inline (b ∷ t) (suc i) h e = get_inline t i (and_parts (is_inline b) (list_all is_inline t) h).1 e

kept_end : (t : List ℕ) → list_all is_inline t ≡ true → strip_carriage_return t ≡ t
kept_end t h = rw (ne_eqb (get_or t (length t - 1) 0) 13 (get_inline t (length t - 1) h)) refl

blocks_lines : (w : List Block) → list_all is_on_board w ≡ true → lines (blocks_text w) ≡ map block_text w
blocks_lines [] h = refl
blocks_lines (b ∷ bs) h =
    let p : (is_on_board b ≡ true) × (list_all is_on_board bs ≡ true) = and_parts (is_on_board b) (list_all is_on_board bs) h in
    let t : list_all is_inline (block_text b) ≡ true = block_inline b p.0 in
    lines-cut (blocks_text (b ∷ bs)) (block_text b) (blocks_text bs) (record { joined = append_assoc (block_text b) (10 ∷ []) (blocks_text bs); first = no_feed (block_text b) t })
    ∙ ap₂ ◌∷◌ (kept_end (block_text b) t) (blocks_lines bs p.1)

text_lines : (w : List Block) → list_all is_on_board w ≡ true → lines (world_text w) ≡ codes "world 1" ∷ map block_text w
text_lines w h =
    lines-cut (world_text w) (codes "world 1") (blocks_text w) (record { joined = refl; first = refl })
    ∙ ap (λ ls. codes "world 1" ∷ ls) (blocks_lines w h)

pub read_back : (w : List Block) → IsWorld w → (world_fault (world_text w) ≡ None) × (world_of (world_text w) ≡ w)
read_back w h = (
  ap (fault_from 1) (text_lines w h.on_board)
      ∙ none_faulty w [] w 2 h.single (record { before = λ c i. absurd i; after = λ c i. i; earlier = λ c d i j. absurd i }) h.on_board h.ordered,
  ap (λ ls. by_squares (blocks_of (behind_header ls))) (text_lines w h.on_board) ∙ ap by_squares (blocks_back w h.on_board) ∙ sorted_world w h,
)

pub faultless_as : (w : List Block) (text : List ℕ) → IsWorld w → text ≡ world_text w → world_fault text ≡ None
faultless_as w text h e = ap world_fault e ∙ (read_back w h).0

pub read_as : (w : List Block) (text : List ℕ) → IsWorld w → text ≡ world_text w → world_of text ≡ w
read_as w text h e = ap world_of e ∙ (read_back w h).1
