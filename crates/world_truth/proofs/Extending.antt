-- Where in a table a sentence is true, from where its parts are: the tables of a sentence's forms.
use Rattle.std.proofs.Common.{◌≡◌, ℕ, ◌+◌, ◌*◌, ◌<◌, ◌≤◌, Bool, true, false, List, [], length, take, get_or, ap, ap₂, sym, ◌∙◌, subst, arith, mul_comm, Bor}
use Rattle.std.specs.Prelude.{◌/◌, ◌%◌}
use Rattle.std.specs.List.{list_all, list_any, range_with_len}
use Rattle.std.proofs.lemmas.Nat.{div-mul-add, mod-mul-add, mul-add-lt}
use Rattle.fol_core.specs.Word.{Word}
use Rattle.fol_core.specs.declared.sent.Sent.{Sent}
use Rattle.fol_core.specs.declared.sent.Sent.TheVariants as s
use Rattle.worlds.specs.declared.block.Block.{Block}
use Rattle.world_truth.specs.declared.bound.Bound.{Bound}
use Rattle.world_truth.specs.declared.bound.Bound.TheVariants.{ByColumn, ByRow, One}
use Rattle.world_truth.specs.declared.junction.Connective.{Connective}
use Rattle.world_truth.specs.declared.junction.Connective.TheVariants.{If, Iff}
use Rattle.world_truth.specs.declared.junction.Junction.{Junction}
use Rattle.world_truth.specs.declared.junction.Junction.TheVariants.{Every, Any}
use Rattle.world_truth.specs.declared.table.Table.{Table}
use Rattle.worlds.specs.Assignments.{Assignment, put}
use Rattle.bit_sets.specs.BitSets.{has, HasAll, LacksOne, HasOne, HasNone}
use Rattle.worlds.specs.inside.Extensions.{IsExtension}
use Rattle.world_truth.specs.inside.Bound.{standing}
use Rattle.world_truth.specs.inside.Tables.{bits_in, connect, join_two, joined, of_none, AreExtensions, AreGathered, IsGroup, IsJoin}
use Rattle.worlds.specs.Truth.{val}
use Rattle.worlds.specs.Worlds.{numbers}
use Rattle.world_truth.proofs.Forms.{val_and, val_or, val_if, val_iff, val_all, val_ex}
use Rattle.world_truth.proofs.Joining.{joined_none, joined_more, joined_next, joined_shifted}
use Rattle.world_truth.proofs.Deciding.{all_decided, some_decided}
use Rattle.world_truth.proofs.Standings.{standing_one, standing_by_row, standing_by_column}

pub same_extensions : (columns rows : ℕ) (f g : ℕ → ℕ → Bool) (t : Table) → ((r k : ℕ) → r < rows → f r k ≡ g r k) → AreExtensions columns rows f t → AreExtensions columns rows g t
same_extensions columns rows f g t e h r l k m n = h r l k m n ∙ e r k l

pub filled_extensions : (columns rows bits : ℕ) (v : Bool) (t : Table) → ((r : ℕ) → r < rows → bits_in t r ≡ bits) → ((k : ℕ) → k < 64 → has bits k ≡ v) → AreExtensions columns rows (λ r k. v) t
filled_extensions columns rows bits v t h e r l k m n = ap (λ b. has b k) (h r l) ∙ e k n

pub joined_extensions : (c : Connective) (columns rows : ℕ) (f g : ℕ → ℕ → Bool) (t other u : Table) → AreExtensions columns rows f t → AreExtensions columns rows g other →
    ((r : ℕ) → r < rows → IsJoin c (bits_in t r) (bits_in other r) (bits_in u r)) → AreExtensions columns rows (λ r k. connect c (f r k) (g r k)) u
joined_extensions c columns rows f g t other u h i j r l k m n = j r l k n ∙ ap₂ (connect c) (h r l k m n) (i r l k m n)

-- one more part, and one more block, are joined to those before
pub part_joined : {X : Type 0} (c : Connective) (j : Junction) → connect c ≡ join_two j → (columns rows : ℕ) (f : ℕ → ℕ → X → Bool) (xs : List X) (i : ℕ) (x : X) → i < length xs → x ≡ get_or xs i x → (t next u : Table) →
    AreExtensions columns rows (λ r k. joined j (f r k) (take i xs)) t → AreExtensions columns rows (λ r k. f r k x) next →
    ((r : ℕ) → r < rows → IsJoin c (bits_in t r) (bits_in next r) (bits_in u r)) → AreExtensions columns rows (λ r k. joined j (f r k) (take (i + 1) xs)) u
part_joined c j e columns rows f xs i x l is t next u h g n =
    same_extensions columns rows (λ r k. connect c (joined j (f r k) (take i xs)) (f r k x)) (λ r k. joined j (f r k) (take (i + 1) xs)) u
    (λ r k _. ap (λ o. o (joined j (f r k) (take i xs)) (f r k x)) e ∙ ap (λ y. join_two j (joined j (f r k) (take i xs)) (f r k y)) is ∙ sym (joined_more j (f r k) xs i x l))
    (joined_extensions c columns rows (λ r k. joined j (f r k) (take i xs)) (λ r k. f r k x) t next u h g n)

pub turn_joined : (c : Connective) (j : Junction) → connect c ≡ join_two j → (w : List Block) (columns rows : ℕ) (f : ℕ → ℕ → ℕ → Bool) (i : ℕ) → i < length w → (t next u : Table) →
    AreExtensions columns rows (λ r k. joined j (f r k) (take i (numbers w))) t → AreExtensions columns rows (λ r k. f r k (i + 1)) next →
    ((r : ℕ) → r < rows → IsJoin c (bits_in t r) (bits_in next r) (bits_in u r)) → AreExtensions columns rows (λ r k. joined j (f r k) (take (i + 1) (numbers w))) u
turn_joined c j e w columns rows f i l t next u h g n =
    same_extensions columns rows (λ r k. connect c (joined j (f r k) (take i (numbers w))) (f r k (i + 1))) (λ r k. joined j (f r k) (take (i + 1) (numbers w))) u
    (λ r k _. ap (λ o. o (joined j (f r k) (take i (numbers w))) (f r k (i + 1))) e ∙ sym (joined_next j (f r k) w i l))
    (joined_extensions c columns rows (λ r k. joined j (f r k) (take i (numbers w))) (λ r k. f r k (i + 1)) t next u h g n)

pub none_joined : {X : Type 0} (j : Junction) (columns rows bits : ℕ) (f : ℕ → ℕ → X → Bool) (t : Table) → ((r : ℕ) → r < rows → bits_in t r ≡ bits) → ((k : ℕ) → k < 64 → has bits k ≡ of_none j) → AreExtensions columns rows (λ r k. joined j (f r k) []) t
none_joined {X} j columns rows bits f t h e = same_extensions columns rows (λ r k. of_none j) (λ r k. joined j (f r k) []) t (λ r k _. sym (joined_none {X = X} j (f r k))) (filled_extensions columns rows bits (of_none j) t h e)

-- a variable that stands for one block
pub one_extends : (w : List Block) (columns rows : ℕ) (x : Bor Word) (m : ℕ) (bound : Bor Bound) (p : Sent) (t : Table) → AreExtensions columns rows (λ r k. val w (standing (One x m bound) w r k) p) t → AreExtensions columns rows (λ r k. val w (put x.now m (standing bound.now w r k)) p) t
one_extends w columns rows x m bound p t = same_extensions columns rows (λ r k. val w (standing (One x m bound) w r k) p) (λ r k. val w (put x.now m (standing bound.now w r k)) p) t (λ r k _. ap (λ a. val w a p) (standing_one x m bound w r k))

-- the row of one more digit
row_with : (w : List Block) (count r i : ℕ) (x : Bor Word) (bound : Bor Bound) (k : ℕ) → count ≡ length w → i < count → standing (ByRow x bound) w (r * count + i) k ≡ put x.now (1 + i) (standing bound.now w r k)
row_with w count r i x bound k e l =
    standing_by_row x bound w (r * count + i) k
    ∙ ap₂ (λ d q. put x.now (d + 1) (standing bound.now w q k)) (ap (λ n. (r * count + i) % n) (sym e) ∙ mod-mul-add r count i l) (ap (λ n. (r * count + i) / n) (sym e) ∙ div-mul-add r count i l)
    ∙ ap (λ d. put x.now d (standing bound.now w r k)) (omega arith)

pub groups_joined : (j : Junction) (w : List Block) (columns rows count : ℕ) (x : Bor Word) (p : Sent) (bound : Bor Bound) (t u : Table) → count ≡ length w →
    AreExtensions columns (rows * count) (λ r k. val w (standing (ByRow x bound) w r k) p) t → ((r : ℕ) → r < rows → IsGroup j t (r * count) count (bits_in u r)) →
    AreExtensions columns rows (λ r k. joined j (λ m. val w (put x.now m (standing bound.now w r k)) p) (numbers w)) u
groups_joined j w columns rows count x p bound t u e h g r l k m n =
    g r l k n
    ∙ joined_shifted j (λ i. has (bits_in t (r * count + i)) k) (λ i. val w (put x.now i (standing bound.now w r k)) p) 0 1 count
    (λ i li. ap (λ o. has (bits_in t (r * count + o)) k) (omega arith) ∙ h (r * count + i) (omega (arith, mul-add-lt r count i rows l li, mul_comm rows count)) k m n ∙ ap (λ a. val w a p) (row_with w count r i x bound k e li))
    ∙ ap (λ c. joined j (λ i. val w (put x.now i (standing bound.now w r k)) p) (range_with_len 1 c)) e

-- the column of one more digit
column_with : (w : List Block) (count r c i : ℕ) (x : Bor Word) (bound : Bor Bound) → count ≡ length w → i < count → standing (ByColumn x bound) w r (c * count + i) ≡ put x.now (1 + i) (standing bound.now w r c)
column_with w count r c i x bound e l =
    standing_by_column x bound w r (c * count + i)
    ∙ ap₂ (λ d q. put x.now (d + 1) (standing bound.now w r q)) (ap (λ n. (c * count + i) % n) (sym e) ∙ mod-mul-add c count i l) (ap (λ n. (c * count + i) / n) (sym e) ∙ div-mul-add c count i l)
    ∙ ap (λ d. put x.now d (standing bound.now w r c)) (omega arith)

pub columns_joined : (j : Junction) (w : List Block) (columns rows count : ℕ) (x : Bor Word) (p : Sent) (bound : Bor Bound) (t u : Table) → count ≡ length w → columns * count ≤ 64 →
    AreExtensions (columns * count) rows (λ r k. val w (standing (ByColumn x bound) w r k) p) t → ((r : ℕ) → r < rows → AreGathered j columns count (bits_in t r) (bits_in u r)) →
    AreExtensions columns rows (λ r k. joined j (λ m. val w (put x.now m (standing bound.now w r k)) p) (numbers w)) u
columns_joined j w columns rows count x p bound t u e narrow h g r l k m n =
    g r l k m n
    ∙ joined_shifted j (λ i. has (bits_in t r) (k * count + i)) (λ i. val w (put x.now i (standing bound.now w r k)) p) 0 1 count
    (λ i li. let within = mul-add-lt k count i columns m li in
    ap (λ o. has (bits_in t r) (k * count + o)) (omega arith) ∙ h r l (k * count + i) (omega (arith, within, mul_comm columns count)) (omega (arith, within, mul_comm columns count, narrow)) ∙ ap (λ a. val w a p) (column_with w count r k i x bound e li))
    ∙ ap (λ c. joined j (λ i. val w (put x.now i (standing bound.now w r k)) p) (range_with_len 1 c)) e

-- each form of sentence, from the tables of its parts
pub and_extensions : (w : List Block) (columns rows : ℕ) (a : ℕ → ℕ → Assignment) (p : Sent) (ps qs : List Sent) (t : Table) → p ≡ s.And ps → qs ≡ ps → AreExtensions columns rows (λ r k. joined Every (val w (a r k)) qs) t → AreExtensions columns rows (λ r k. val w (a r k) p) t
and_extensions w columns rows a p ps qs t e i =
    same_extensions columns rows (λ r k. joined Every (val w (a r k)) qs) (λ r k. val w (a r k) p) t (λ r k _. ap (list_all (val w (a r k))) i ∙ sym (val_and w (a r k) ps) ∙ ap (val w (a r k)) (sym e))

pub or_extensions : (w : List Block) (columns rows : ℕ) (a : ℕ → ℕ → Assignment) (p : Sent) (ps qs : List Sent) (t : Table) → p ≡ s.Or ps → qs ≡ ps → AreExtensions columns rows (λ r k. joined Any (val w (a r k)) qs) t → AreExtensions columns rows (λ r k. val w (a r k) p) t
or_extensions w columns rows a p ps qs t e i =
    same_extensions columns rows (λ r k. joined Any (val w (a r k)) qs) (λ r k. val w (a r k) p) t (λ r k _. ap (list_any (val w (a r k))) i ∙ sym (val_or w (a r k) ps) ∙ ap (val w (a r k)) (sym e))

pub if_extensions : (w : List Block) (columns rows : ℕ) (a : ℕ → ℕ → Assignment) (p q r q' r' : Sent) (t : Table) → p ≡ s.If q r → q' ≡ q → r' ≡ r → AreExtensions columns rows (λ i k. connect If (val w (a i k) q') (val w (a i k) r')) t → AreExtensions columns rows (λ i k. val w (a i k) p) t
if_extensions w columns rows a p q r q' r' t e g h =
    same_extensions columns rows (λ i k. connect If (val w (a i k) q') (val w (a i k) r')) (λ i k. val w (a i k) p) t
    (λ i k _. ap₂ (λ x y. connect If (val w (a i k) x) (val w (a i k) y)) g h ∙ sym (val_if w (a i k) q r) ∙ ap (val w (a i k)) (sym e))

pub iff_extensions : (w : List Block) (columns rows : ℕ) (a : ℕ → ℕ → Assignment) (p q r q' r' : Sent) (t : Table) → p ≡ s.Iff q r → q' ≡ q → r' ≡ r → AreExtensions columns rows (λ i k. connect Iff (val w (a i k) q') (val w (a i k) r')) t → AreExtensions columns rows (λ i k. val w (a i k) p) t
iff_extensions w columns rows a p q r q' r' t e g h =
    same_extensions columns rows (λ i k. connect Iff (val w (a i k) q') (val w (a i k) r')) (λ i k. val w (a i k) p) t
    (λ i k _. ap₂ (λ x y. connect Iff (val w (a i k) x) (val w (a i k) y)) g h ∙ sym (val_iff w (a i k) q r) ∙ ap (val w (a i k)) (sym e))

pub all_extensions : (w : List Block) (columns rows : ℕ) (a : ℕ → ℕ → Assignment) (p : Sent) (x y : Word) (q q' : Sent) (t : Table) → p ≡ s.All x q → y ≡ x → q' ≡ q →
    AreExtensions columns rows (λ r k. joined Every (λ m. val w (put y m (a r k)) q') (numbers w)) t → AreExtensions columns rows (λ r k. val w (a r k) p) t
all_extensions w columns rows a p x y q q' t e i j =
    same_extensions columns rows (λ r k. joined Every (λ m. val w (put y m (a r k)) q') (numbers w)) (λ r k. val w (a r k) p) t
    (λ r k _. ap₂ (λ z v. list_all (λ m. val w (put z m (a r k)) v) (numbers w)) i j ∙ sym (val_all w (a r k) x q) ∙ ap (val w (a r k)) (sym e))

pub ex_extensions : (w : List Block) (columns rows : ℕ) (a : ℕ → ℕ → Assignment) (p : Sent) (x y : Word) (q q' : Sent) (t : Table) → p ≡ s.Ex x q → y ≡ x → q' ≡ q →
    AreExtensions columns rows (λ r k. joined Any (λ m. val w (put y m (a r k)) q') (numbers w)) t → AreExtensions columns rows (λ r k. val w (a r k) p) t
ex_extensions w columns rows a p x y q q' t e i j =
    same_extensions columns rows (λ r k. joined Any (λ m. val w (put y m (a r k)) q') (numbers w)) (λ r k. val w (a r k) p) t
    (λ r k _. ap₂ (λ z v. list_any (λ m. val w (put z m (a r k)) v) (numbers w)) i j ∙ sym (val_ex w (a r k) x q) ∙ ap (val w (a r k)) (sym e))

-- the universal and the existential sentence, from the extension of their part
pub all_of_extension : (w : List Block) (f : ℕ → Bool) (bits count : ℕ) (b : Bool) → count ≡ length w → count ≤ 64 → IsExtension (length w) (λ c. f (c + 1)) bits →
    (b ≡ true → HasAll count bits) → (b ≡ false → LacksOne count bits) → b ≡ list_all f (numbers w)
all_of_extension w f bits count b e few h s t =
    all_decided f w bits (λ k l. h k l (omega (arith, e, few, l))) b (λ y. subst (λ n. HasAll n bits) e (s y)) (λ y. subst (λ n. LacksOne n bits) e (t y))

pub some_of_extension : (w : List Block) (f : ℕ → Bool) (bits count : ℕ) (b : Bool) → count ≡ length w → count ≤ 64 → IsExtension (length w) (λ c. f (c + 1)) bits →
    (b ≡ true → HasOne count bits) → (b ≡ false → HasNone count bits) → b ≡ list_any f (numbers w)
some_of_extension w f bits count b e few h s t =
    some_decided f w bits (λ k l. h k l (omega (arith, e, few, l))) b (λ y. subst (λ n. HasOne n bits) e (s y)) (λ y. subst (λ n. HasNone n bits) e (t y))
