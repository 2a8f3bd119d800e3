-- Rows that are made 64 at a time.
use Rattle.std.proofs.Common.{◌≡◌, ℕ, zero, suc, ◌+◌, ◌*◌, ◌-◌, ◌<◌, ◌≤◌, min, List, [], ◌∷◌, ◌++◌, length, map, ap, ap₂, sym, ◌∙◌, refl, append_assoc, arith}
use Rattle.std.specs.Prelude.{◌^◌}
use Rattle.std.specs.List.{range_with_len}
use Rattle.std.proofs.lemmas.List.{map-append}
use Rattle.std.proofs.lemmas.List.FromFn.{map-range_with_len_more}
use Rattle.std.proofs.Math.Pow.{pow_mono}
use Rattle.fol_core.specs.declared.sent.Sent.{Sent}
use Rattle.taut_con.specs.Rows.{row_values}
use Rattle.boole_table.specs.declared.table.TableRow.{TableRow}
use Rattle.boole_table.specs.StandardTable.{standard_row}
use Rattle.boole_table.specs.TableWords.{AreWords, row_by_words}

-- one row more
pub one_row_more : (ls ss : List Sent) (words : List ℕ) (base k : ℕ) (first old new : List TableRow) (made : TableRow) → AreWords ls ss base words → k < 64 → made ≡ row_by_words (length ls) (base + k) words k →
    old ≡ first ++ map (standard_row ls ss) (range_with_len base k) → new ≡ old ++ made ∷ [] → new ≡ first ++ map (standard_row ls ss) (range_with_len base (k + 1))
one_row_more ls ss words base k first old new made h low e before is =
    let row : made ≡ standard_row ls ss (base + k) = e ∙ ap (λ cells. record { letters = row_values (length ls) (base + k); sentences = cells }) (h.in_row k low) in
    is ∙ ap₂ (λ xs x. xs ++ x ∷ []) before row ∙ append_assoc first (map (standard_row ls ss) (range_with_len base k)) (standard_row ls ss (base + k) ∷ [])
    ∙ sym (ap (λ xs. first ++ xs) (map-range_with_len_more (standard_row ls ss) base k (base + k) refl))

-- 64 rows more

two_ranges : (a m n : ℕ) → range_with_len a (m + n) ≡ range_with_len a m ++ range_with_len (a + m) n
two_ranges a zero n = let e : 0 + n ≡ n = omega arith in let f : a ≡ a + 0 = omega arith in ap (range_with_len a) e ∙ ap (λ b. range_with_len b n) f
two_ranges a (suc m) n =
    let e : suc m + n ≡ suc (m + n) = omega arith in
    let f : a + 1 + m ≡ a + suc m = omega arith in
    ap (range_with_len a) e ∙ ap (λ xs. a ∷ xs) (two_ranges (a + 1) m n ∙ ap (λ b. range_with_len (a + 1) m ++ range_with_len b n) f)

pub rows_more : {X : Type 0} (f : ℕ → X) (w c : ℕ) (old new : List X) → 64 * w < c → old ≡ map f (range_with_len 1 (min (64 * w) c)) →
    new ≡ old ++ map f (range_with_len (64 * w + 1) (min (c - 64 * w) 64)) → new ≡ map f (range_with_len 1 (min (64 * (w + 1)) c))
rows_more f w c old new l before is =
    let all : min (64 * w) c ≡ 64 * w = omega (arith, l) in
    let place : 64 * w + 1 ≡ 1 + 64 * w = omega arith in
    let whole : 64 * w + min (c - 64 * w) 64 ≡ min (64 * (w + 1)) c = omega (arith, l) in
    is ∙ ap₂ (λ xs b. xs ++ map f (range_with_len b (min (c - 64 * w) 64))) (before ∙ ap (λ m. map f (range_with_len 1 m)) all) place
    ∙ sym (map-append f (range_with_len 1 (64 * w)) (range_with_len (1 + 64 * w) (min (c - 64 * w) 64)))
    ∙ ap (map f) (sym (two_ranges 1 (64 * w) (min (c - 64 * w) 64))) ∙ ap (λ m. map f (range_with_len 1 m)) whole

pub few_rows : (n : ℕ) → n ≤ 12 → 2 ^ n ≤ 4096
few_rows n h = let p : 2 ^ n ≤ 2 ^ 12 = pow_mono h in p
