-- A block is put on the board, or its line is faulty.
use Rattle.std.proofs.Common.{◌≡◌, ℕ, ◌+◌, ◌<◌, ◌≤◌, Bool, true, false, List, [], ◌∷◌, ◌++◌, length, take, take_all, get_or, set, arith, refl, sym, ap, ap₂, subst, ◌∙◌}
use Rattle.std.specs.Prelude.{◌==◌, ◌&&◌, ◌||◌, nat_le, Option, Some, None, Result, Ok, Err, OnOk}
use Rattle.std.specs.Option.{is_some}
use Rattle.std.specs.List.{filter_map, cons_option, range_with_len}
use Rattle.std.proofs.lemmas.Bool.{and_parts, and_from, leb-true}
use Rattle.std.proofs.lemmas.List.{take_more}
use Rattle.std.proofs.lemmas.List.FromFn.{length-map-range_with_len}
use Rattle.worlds.specs.declared.block.Block.{Block}
use Rattle.world_text.specs.declared.squares.Squares.{Squares}
use Rattle.world_text.specs.declared.reading.WorldFault.TheVariants.{SquareTaken, NameTaken, OffBoard}
use Rattle.worlds.specs.Geometry.{bears, square, square_at, is_place}
use Rattle.worlds.specs.Worlds.{IsWorld}
use Rattle.world_text.specs.BlockLines.{Said, stands_in, may_name, said_in, block_by, block_said, blocks_of}
use Rattle.world_text.specs.WorldText.{is_name_taken, is_square_taken, repeats_name, fault_said, by_squares}
use Rattle.world_text.specs.inside.Squares.{Holds, HoldsSome}
use Rattle.world_text.proofs.Naming.{bears_stands}
use Rattle.world_text.proofs.Squaring.{on, found, on_square, put_on, not_given, single_pushed, taken_pushed, board_pushed, squares_world, few_squares, through_map}

pub place_parts : (n : ℕ) → is_place n ≡ true → (1 ≤ n) × (n ≤ 8)
place_parts n h =
    let p : (nat_le 1 n ≡ true) × (nat_le n 8 ≡ true) = and_parts (nat_le 1 n) (nat_le n 8) h in
    (leb-true 1 n p.0, leb-true n 8 p.1)

pub square_fits : (column row : ℕ) → is_place column ≡ true → is_place row ≡ true → square_at column row < 64
square_fits column row h k = omega (arith, (place_parts column h).0, (place_parts column h).1, (place_parts row k).0, (place_parts row k).1)

pub taken_at : (seen : List Block) (board : Squares) (q : ℕ) (d : Option Block) → Holds seen board → q < 64 → is_some (get_or board.squares q d) ≡ is_square_taken seen q
taken_at seen board q d h l = ap (λ ss. is_some (get_or ss q d)) h.squares ∙ ap is_some (on_square seen q d l) ∙ found (λ b. square b == q) seen

pub repeats_same : (f g : ℕ → Bool) (w : List ℕ) → ((l : ℕ) → f l ≡ g l) → repeats_name f w ≡ repeats_name g w
repeats_same f g [] e = refl
repeats_same f g (l ∷ w) e = ap₂ (λ t u. (may_name l && (t || stands_in l w)) || u) (e l) (repeats_same f g w e)

pub off_board : (seen : List Block) (s : Said) → (is_place s.column && is_place s.row) ≡ false → fault_said seen (Some s) ≡ Some OffBoard
off_board seen s h = rw h refl

pub on_taken : (seen : List Block) (s : Said) → is_place s.column ≡ true → is_place s.row ≡ true → is_square_taken seen (square_at s.column s.row) ≡ true → fault_said seen (Some s) ≡ Some SquareTaken
on_taken seen s h k t = rw h (rw k (rw t refl))

pub name_again : (seen : List Block) (s : Said) → is_place s.column ≡ true → is_place s.row ≡ true → is_square_taken seen (square_at s.column s.row) ≡ false →
    repeats_name (is_name_taken seen) s.names ≡ true → fault_said seen (Some s) ≡ Some NameTaken
name_again seen s h k t r = rw h (rw k (rw t (rw r refl)))

pub faultless : (seen : List Block) (s : Said) → is_place s.column ≡ true → is_place s.row ≡ true → is_square_taken seen (square_at s.column s.row) ≡ false →
    repeats_name (is_name_taken seen) s.names ≡ false → fault_said seen (Some s) ≡ None
faultless seen s h k t r = rw h (rw k (rw t (rw r refl)))

one_block : (line : List ℕ) (s : Said) → said_in line ≡ Some s → is_place s.column ≡ true → is_place s.row ≡ true → blocks_of (line ∷ []) ≡ block_by s ∷ []
one_block line s e h k = ap (λ o. cons_option (block_said o) []) e ∙ rw h (rw k refl)

good_at : (seen : List Block) (line : List ℕ) (s : Said) (c r : Bool) → said_in line ≡ Some s → fault_said seen (Some s) ≡ None → is_place s.column ≡ c → is_place s.row ≡ r → blocks_of (line ∷ []) ≡ block_by s ∷ []
good_at seen line s true true e f hc hr = one_block line s e hc hr
good_at seen line s true false e f hc hr = let g : fault_said seen (Some s) ≡ Some OffBoard = rw hc (rw hr refl) in absurd (cc)
good_at seen line s false r e f hc hr = let g : fault_said seen (Some s) ≡ Some OffBoard = rw hc refl in absurd (cc)

-- the block of a line that has no fault
pub good_block : (seen : List Block) (line : List ℕ) (s : Said) → said_in line ≡ Some s → fault_said seen (Some s) ≡ None → blocks_of (line ∷ []) ≡ block_by s ∷ []
good_block seen line s e f = good_at seen line s (is_place s.column) (is_place s.row) e f refl refl

pub put_down : (seen : List Block) (old new : Squares) (s : Said) → Holds seen old → is_place s.column ≡ true → is_place s.row ≡ true →
    is_square_taken seen (square_at s.column s.row) ≡ false → repeats_name (is_name_taken seen) s.names ≡ false →
    new.squares ≡ set old.squares (square_at s.column s.row) (Some (block_by s)) →
    ((l : ℕ) → bears new.taken l ≡ (bears old.taken l || bears (block_by s).names l)) → Holds (seen ++ block_by s ∷ []) new
put_down seen old new s h hc hr t r q n =
    let b : Block = block_by s in
    record {
      squares = q ∙ ap (λ ss. set ss (square b) (Some b)) h.squares ∙ put_on seen b (square_fits s.column s.row hc hr) t;
      names = λ l. n l ∙ ap (λ x. x || bears b.names l) (h.names l) ∙ sym (taken_pushed seen b l);
      on_board = board_pushed seen b h.on_board (and_from (is_place s.column) (is_place s.row) hc hr);
      single = single_pushed seen b h.single (λ l k. let p : (may_name l ≡ true) × (stands_in l s.names ≡ true) = bears_stands s.names l k in not_given (is_name_taken seen) s.names l r p.0 p.1);
    }

pub board_world : (seen : List Block) (board : Squares) → Holds seen board → IsWorld (by_squares seen)
board_world seen board h = squares_world seen h.on_board h.single

pub board_blocks : (seen : List Block) (board : Squares) → Holds seen board → filter_map (λ o. o) board.squares ≡ by_squares seen
board_blocks seen board h = ap (filter_map (λ o. o)) h.squares ∙ through_map (on seen) (λ o. o) (range_with_len 0 64)

-- the line is put with its block
pub put_line : (seen : List Block) (line : List ℕ) (s : Said) (new : Squares) → said_in line ≡ Some s → fault_said seen (Some s) ≡ None → Holds (seen ++ block_by s ∷ []) new → Holds (seen ++ blocks_of (line ∷ [])) new
put_line seen line s new e f h = subst (λ bs. Holds (seen ++ bs) new) (sym (good_block seen line s e f)) h

-- what stands on all squares

all_squares : (seen : List Block) (board : Squares) (items : List Block) (i : ℕ) → Holds seen board → items ≡ filter_map (λ o. o) (take i board.squares) → length board.squares ≤ i → items ≡ by_squares seen
all_squares seen board items i h e n = e ∙ ap (filter_map (λ o. o)) (take_all i board.squares n) ∙ board_blocks seen board h

pub kept_value : (seen : List Block) (board : Squares) (items : List Block) (i : ℕ) → Holds seen board → items ≡ filter_map (λ o. o) (take i board.squares) → length board.squares ≤ i → items ≡ by_squares seen
kept_value = all_squares

pub kept_world : (board : Squares) (items : List Block) (i : ℕ) → HoldsSome board → items ≡ filter_map (λ o. o) (take i board.squares) → length board.squares ≤ i → IsWorld items
kept_world board items i h e n = subst IsWorld (sym (all_squares h.0 board items i h.1 e n)) (board_world h.0 board h.1)

pub kept_few : (board : Squares) (items : List Block) (i : ℕ) → HoldsSome board → items ≡ filter_map (λ o. o) (take i board.squares) → length board.squares ≤ i → length items ≤ 64
kept_few board items i h e n = subst (λ bs. length bs ≤ 64) (sym (all_squares h.0 board items i h.1 e n)) (few_squares h.0)

one_kept : (ss : List (Option Block)) (o : Option Block) → filter_map (λ x. x) (ss ++ o ∷ []) ≡ filter_map (λ x. x) ss ++ cons_option o []
one_kept [] None = refl
one_kept [] (Some b) = refl
one_kept (None ∷ ss) o = one_kept ss o
one_kept (Some b ∷ ss) o = ap (λ bs. b ∷ bs) (one_kept ss o)

pub kept_step : (ss : List (Option Block)) (i : ℕ) (o : Option Block) (items more : List Block) → i < length ss → o ≡ get_or ss i o → items ≡ filter_map (λ x. x) (take i ss) → more ≡ items ++ cons_option o [] →
    more ≡ filter_map (λ x. x) (take (i + 1) ss)
kept_step ss i o items more h e k m =
    m ∙ ap (λ bs. bs ++ cons_option o []) k ∙ sym (ap (filter_map (λ x. x)) (take_more ss i o h ∙ ap (λ x. take i ss ++ x ∷ []) (sym e)) ∙ one_kept (take i ss) o)

pub squares_long : (board : Squares) → HoldsSome board → length board.squares ≡ 64
squares_long board h = ap length h.1.squares ∙ length-map-range_with_len (on h.0) 0 64

pub both_ok : {A E : Type 0} {P Q R : Type 0} (r : Result A E) → (P → Q → R) → OnOk r P → OnOk r Q → OnOk r R
both_ok (Ok a) f p q = f p q
both_ok (Err e) f p q = tt
