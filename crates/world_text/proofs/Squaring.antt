-- The board while it is read: what stands on its squares, and the blocks in the order of the squares.
use Rattle.std.proofs.Common.{◌≡◌, ℕ, zero, suc, ◌+◌, ◌<◌, ◌≤◌, Bool, true, false, List, [], ◌∷◌, ◌++◌, length, map, get_or, set, arith, refl, sym, ap, subst, ◌∙◌, inl, inr, ◌⊎◌, length-set}
use Rattle.std.specs.Prelude.{◌==◌, ◌&&◌, ◌||◌, nat_lt, Option, Some, None, if◌then◌else◌}
use Rattle.std.specs.Option.{is_some}
use Rattle.std.specs.List.{list_all, list_any, find, filter_map, cons_option, range_with_len}
use Rattle.std.proofs.lemmas.Bool.{or_cases, or_parts, or_left, or_right, and_parts, and_from, cases_eq, eqb-true, ne_eqb, eq-eqb, lt-ltb, both_ways}
use Rattle.std.proofs.lemmas.List.{get_or-set_same, get_or-set_other}
use Rattle.std.proofs.lemmas.List.FromFn.{length-map-range_with_len, get_or-map-range_with_len, fill_by_all}
use Rattle.std.proofs.lemmas.List.Folds.{list_all-append}
use Rattle.worlds.specs.declared.block.Block.{Block}
use Rattle.worlds.specs.Geometry.{bears, square, is_on_board}
use Rattle.worlds.specs.Worlds.{IsOneOf, AreSingle, in_order, IsWorld}
use Rattle.world_text.specs.BlockLines.{may_name, stands_in}
use Rattle.world_text.specs.WorldText.{is_name_taken, is_square_taken, repeats_name, by_squares}

-- the block that stands on the square, if any
abbrev pub on : List Block → ℕ → Option Block
on bs q = find (λ b. square b == q) bs

abbrev pub squares_of : List Block → List (Option Block)
squares_of bs = map (on bs) (range_with_len 0 64)

found_at : (p : Block → Bool) (b : Block) (c : Bool) (o : Option Block) (t : Bool) → p b ≡ c → is_some o ≡ t → is_some (if c then Some b else o) ≡ (c || t)
found_at p b true o t e h = refl
found_at p b false o t e h = h

pub found : (p : Block → Bool) (bs : List Block) → is_some (find p bs) ≡ list_any p bs
found p [] = refl
found p (b ∷ bs) = found_at p b (p b) (find p bs) (list_any p bs) refl (found p bs)

pub on_square : (bs : List Block) (q : ℕ) (d : Option Block) → q < 64 → get_or (squares_of bs) q d ≡ on bs q
on_square bs q d h = get_or-map-range_with_len (on bs) 0 64 q q d h (omega arith)

push_other : (p : Block → Bool) (bs : List Block) (b : Block) → p b ≡ false → find p (bs ++ b ∷ []) ≡ find p bs
push_other p [] b h = rw h refl
push_other p (c ∷ cs) b h = ap (λ o. if p c then Some c else o) (push_other p cs b h)

push_same : (p : Block → Bool) (bs : List Block) (b : Block) → list_any p bs ≡ false → p b ≡ true → find p (bs ++ b ∷ []) ≡ Some b
push_same p [] b n h = rw h refl
push_same p (c ∷ cs) b n h = let w : (p c ≡ false) × (list_any p cs ≡ false) = or_parts (p c) (list_any p cs) n in rw w.0 (push_same p cs b w.1 h)

put_at : (bs : List Block) (b : Block) (k : ℕ) (d : Option Block) → square b < 64 → is_square_taken bs (square b) ≡ false → k < 64 →
    (k ≡ square b) ⊎ (k ≡ square b → ⊥) → get_or (set (squares_of bs) (square b) (Some b)) k d ≡ on (bs ++ b ∷ []) k
put_at bs b k d h n l (inl e) =
    rw e (get_or-set_same (squares_of bs) (square b) (Some b) d (omega (arith, h, length-map-range_with_len (on bs) 0 64))
    ∙ sym (push_same (λ c. square c == square b) bs b n (eq-eqb (square b) (square b) refl)))
put_at bs b k d h n l (inr e) =
    get_or-set_other (squares_of bs) (square b) k (Some b) d e
    ∙ on_square bs k d l
    ∙ sym (push_other (λ c. square c == k) bs b (ne_eqb (square b) k (λ s. e (sym s))))

-- a block put on its square
pub put_on : (bs : List Block) (b : Block) → square b < 64 → is_square_taken bs (square b) ≡ false → set (squares_of bs) (square b) (Some b) ≡ squares_of (bs ++ b ∷ [])
put_on bs b h n =
    fill_by_all (on (bs ++ b ∷ [])) (set (squares_of bs) (square b) (Some b)) 64 None
    (length-set (squares_of bs) (square b) (Some b) ∙ length-map-range_with_len (on bs) 0 64)
    (λ k l. put_at bs b k None h n l (cases_eq k (square b)))

-- a name that stands in a word that repeats none isn't given before
pub not_given : (is_given : ℕ → Bool) (w : List ℕ) (l : ℕ) → repeats_name is_given w ≡ false → may_name l ≡ true → stands_in l w ≡ true → is_given l ≡ false
not_given is_given [] l r m s = absurd (cc)
not_given is_given (k ∷ w) l r m s =
    let p : ((may_name k && (is_given k || stands_in k w)) ≡ false) × (repeats_name is_given w ≡ false) = or_parts (may_name k && (is_given k || stands_in k w)) (repeats_name is_given w) r in
    elim (or_cases (k == l) (stands_in l w) s) [
      | inl e ↦ (
          let same : k ≡ l = eqb-true k l e in
          let q : (may_name l && (is_given l || stands_in l w)) ≡ false = subst (λ j. (may_name j && (is_given j || stands_in j w)) ≡ false) same p.0 in
          let r2 : (is_given l || stands_in l w) ≡ false = rw m at q in
          (or_parts (is_given l) (stands_in l w) r2).0)
      | inr e ↦ not_given is_given w l p.1 m e
    ]

pub among_pushed : (bs : List Block) (b c : Block) → IsOneOf (bs ++ b ∷ []) c → IsOneOf bs c ⊎ (b ≡ c)
among_pushed [] b c (inl e) = inr e
among_pushed [] b c (inr h) = absurd h
among_pushed (d ∷ ds) b c (inl e) = inl (inl e)
among_pushed (d ∷ ds) b c (inr h) = elim (among_pushed ds b c h) [ inl i ↦ inl (inr i) | inr e ↦ inr e ]

any_of : (p : Block → Bool) (bs : List Block) (b : Block) → IsOneOf bs b → p b ≡ true → list_any p bs ≡ true
any_of p [] b i h = absurd i
any_of p (c ∷ cs) b (inl e) h = or_left (p c) (list_any p cs) (ap p e ∙ h)
any_of p (c ∷ cs) b (inr i) h = or_right (p c) (list_any p cs) (any_of p cs b i h)

pub all_of : (p : Block → Bool) (bs : List Block) (b : Block) → list_all p bs ≡ true → IsOneOf bs b → p b ≡ true
all_of p [] b h i = absurd i
all_of p (c ∷ cs) b h (inl e) = let w : (p c ≡ true) × (list_all p cs ≡ true) = and_parts (p c) (list_all p cs) h in ap p (sym e) ∙ w.0
all_of p (c ∷ cs) b h (inr i) = let w : (p c ≡ true) × (list_all p cs ≡ true) = and_parts (p c) (list_all p cs) h in all_of p cs b w.1 i

-- a block whose names are borne by none of the others
pub single_pushed : (bs : List Block) (b : Block) → AreSingle bs → ((l : ℕ) → bears b.names l ≡ true → is_name_taken bs l ≡ false) → AreSingle (bs ++ b ∷ [])
single_pushed bs b s n = λ l c d i j h k.
    elim (among_pushed bs b c i) [
      | inl ic ↦ elim (among_pushed bs b d j) [
        | inl id ↦ s l c d ic id h k
        | inr ed ↦ absurd (both_ways (is_name_taken bs l) (n l (ap (λ (x : Block). bears x.names l) ed ∙ k)) (any_of (λ x. bears x.names l) bs c ic h))
      ]
      | inr ec ↦ elim (among_pushed bs b d j) [
        | inl id ↦ absurd (both_ways (is_name_taken bs l) (n l (ap (λ (x : Block). bears x.names l) ec ∙ h)) (any_of (λ x. bears x.names l) bs d id k))
        | inr ed ↦ sym ec ∙ ed
      ]
    ]

or_false : (x : Bool) → (x || false) ≡ (false || x)
or_false true = refl
or_false false = refl

or_more : (x y z : Bool) → (x || (y || z)) ≡ ((x || y) || z)
or_more true y z = refl
or_more false y z = refl

pub taken_pushed : (bs : List Block) (b : Block) (l : ℕ) → is_name_taken (bs ++ b ∷ []) l ≡ (is_name_taken bs l || bears b.names l)
taken_pushed [] b l = or_false (bears b.names l)
taken_pushed (c ∷ cs) b l = ap (λ t. bears c.names l || t) (taken_pushed cs b l) ∙ or_more (bears c.names l) (is_name_taken cs l) (bears b.names l)

pub board_pushed : (bs : List Block) (b : Block) → list_all is_on_board bs ≡ true → is_on_board b ≡ true → list_all is_on_board (bs ++ b ∷ []) ≡ true
board_pushed bs b h k = list_all-append is_on_board bs (b ∷ []) ∙ and_from (list_all is_on_board bs) (is_on_board b && true) h (and_from (is_on_board b) true k refl)

-- the blocks in the order of the squares

abbrev pub between : List Block → ℕ → ℕ → List Block
between bs a n = filter_map (on bs) (range_with_len a n)

find_is_at : (p : Block → Bool) (c : Block) (cs : List Block) (b : Block) (t : Bool) → p c ≡ t → (if t then Some c else find p cs) ≡ Some b → (find p cs ≡ Some b → IsOneOf cs b × (p b ≡ true)) → IsOneOf (c ∷ cs) b × (p b ≡ true)
find_is_at p c cs b true h e ih = let same : c ≡ b = cc in (inl same, ap p (sym same) ∙ h)
find_is_at p c cs b false h e ih = let w : IsOneOf cs b × (p b ≡ true) = ih e in (inr w.0, w.1)

find_is : (p : Block → Bool) (bs : List Block) (b : Block) → find p bs ≡ Some b → IsOneOf bs b × (p b ≡ true)
find_is p [] b e = absurd (cc)
find_is p (c ∷ cs) b e = find_is_at p c cs b (p c) refl e (find_is p cs b)

one_at : (bs : List Block) (a n : ℕ) (b : Block) (o : Option Block) → on bs a ≡ o → IsOneOf (cons_option o (between bs (a + 1) n)) b → (IsOneOf (between bs (a + 1) n) b → IsOneOf bs b) → IsOneOf bs b
one_at bs a n b None e h ih = ih h
one_at bs a n b (Some c) e (inl s) ih = subst (IsOneOf bs) s (find_is (λ x. square x == a) bs c e).0
one_at bs a n b (Some c) e (inr h) ih = ih h

pub one_between : (bs : List Block) (a n : ℕ) (b : Block) → IsOneOf (between bs a n) b → IsOneOf bs b
one_between bs a zero b h = absurd h
one_between bs a (suc n) b h = one_at bs a n b (on bs a) refl h (one_between bs (a + 1) n b)

later_at : (bs : List Block) (a n k : ℕ) (o : Option Block) → on bs a ≡ o → k < a → list_all (λ c. nat_lt k (square c)) (between bs (a + 1) n) ≡ true →
    list_all (λ c. nat_lt k (square c)) (cons_option o (between bs (a + 1) n)) ≡ true
later_at bs a n k None e h ih = ih
later_at bs a n k (Some c) e h ih = and_from (nat_lt k (square c)) (list_all (λ c. nat_lt k (square c)) (between bs (a + 1) n))
    (lt-ltb k (square c) (subst (λ q. k < q) (sym (eqb-true (square c) a (find_is (λ x. square x == a) bs c e).1)) h)) ih

later : (bs : List Block) (a n k : ℕ) → k < a → list_all (λ c. nat_lt k (square c)) (between bs a n) ≡ true
later bs a zero k h = refl
later bs a (suc n) k h = later_at bs a n k (on bs a) refl h (later bs (a + 1) n k (omega (arith, h)))

ordered_at : (bs : List Block) (a n : ℕ) (o : Option Block) → on bs a ≡ o → in_order (between bs (a + 1) n) ≡ true → in_order (cons_option o (between bs (a + 1) n)) ≡ true
ordered_at bs a n None e ih = ih
ordered_at bs a n (Some c) e ih =
    let here : square c ≡ a = eqb-true (square c) a (find_is (λ x. square x == a) bs c e).1 in
    and_from (list_all (λ d. nat_lt (square c) (square d)) (between bs (a + 1) n)) (in_order (between bs (a + 1) n)) (later bs (a + 1) n (square c) (omega (arith, here))) ih

pub ordered_between : (bs : List Block) (a n : ℕ) → in_order (between bs a n) ≡ true
ordered_between bs a zero = refl
ordered_between bs a (suc n) = ordered_at bs a n (on bs a) refl (ordered_between bs (a + 1) n)

few_at : (o : Option Block) (bs : List Block) (n : ℕ) → length bs ≤ n → length (cons_option o bs) ≤ suc n
few_at None bs n h = omega (arith, h)
few_at (Some b) bs n h = omega (arith, h)

few_between : (bs : List Block) (a n : ℕ) → length (between bs a n) ≤ n
few_between bs a zero = omega arith
few_between bs a (suc n) = few_at (on bs a) (between bs (a + 1) n) n (few_between bs (a + 1) n)

pub few_squares : (bs : List Block) → length (by_squares bs) ≤ 64
few_squares bs = few_between bs 0 64

all_between : (p : Block → Bool) (bs cs : List Block) → list_all p bs ≡ true → ((c : Block) → IsOneOf cs c → IsOneOf bs c) → list_all p cs ≡ true
all_between p bs [] h i = refl
all_between p bs (c ∷ cs) h i = and_from (p c) (list_all p cs) (all_of p bs c h (i c (inl refl))) (all_between p bs cs h (λ d j. i d (inr j)))

-- the blocks in the order of their squares are a world
pub squares_world : (bs : List Block) → list_all is_on_board bs ≡ true → AreSingle bs → IsWorld (by_squares bs)
squares_world bs h s = record {
  on_board = all_between is_on_board bs (by_squares bs) h (one_between bs 0 64);
  ordered = ordered_between bs 0 64;
  single = λ l b c i j. s l b c (one_between bs 0 64 b i) (one_between bs 0 64 c j);
}

pub through_map : {X Y Z : Type 0} (f : X → Y) (g : Y → Option Z) (xs : List X) → filter_map g (map f xs) ≡ filter_map (λ x. g (f x)) xs
through_map f g [] = refl
through_map f g (x ∷ xs) = ap (cons_option (g (f x))) (through_map f g xs)
