-- Which rows of the standard order a text has.
use Rattle.std.proofs.Common.{◌≡◌, ℕ, zero, suc, ◌+◌, ◌-◌, ◌^◌, ◌<◌, ◌≤◌, eqb, eq-eqb, Bool, true, false, not, List, [], ◌∷◌, ◌++◌, length, map, get_or, filter, replicate, cond, refl, sym, ap, ap₂, subst, ◌∙◌, arith}
use Rattle.std.specs.Prelude.{◌||◌, if◌then◌else◌}
use Rattle.std.specs.List.{range_with_len}
use Rattle.std.proofs.lemmas.Bool.Decides.{nat_tests}
use Rattle.std.proofs.lemmas.List.Folds.{list_any-append}
use Rattle.std.proofs.lemmas.List.FromFn.{get_or-map-range_with_len}
use Rattle.std.proofs.Math.ListN.{set}
use Rattle.fol_core.specs.declared.sent.Sent.{Sent}
use Rattle.taut_con.specs.Rows.{row_values, rows}
use Rattle.boole_table.specs.declared.table.TableRow.{TableRow}
use Rattle.boole_table.specs.Verdict.{same_values, values_of, has_row}
use Rattle.boole_table.specs.Judges.{seen_flags, unset}
use Rattle.boole_table.proofs.RowNumbers.{range_same, rows_apart}

-- lists of values

same_self : (bs : List Bool) → same_values bs bs ≡ true
same_self [] = refl
same_self (true ∷ bs) = same_self bs
same_self (false ∷ bs) = same_self bs

same_is : (bs cs : List Bool) → same_values bs cs ≡ true → bs ≡ cs
same_is [] [] h = refl
same_is [] (c ∷ cs) h = absurd (cc)
same_is (b ∷ bs) [] h = absurd (cc)
same_is (true ∷ bs) (true ∷ cs) h = ap (λ x. true ∷ x) (same_is bs cs h)
same_is (true ∷ bs) (false ∷ cs) h = absurd (cc)
same_is (false ∷ bs) (true ∷ cs) h = absurd (cc)
same_is (false ∷ bs) (false ∷ cs) h = ap (λ x. false ∷ x) (same_is bs cs h)

same_truth : (a b : Bool) → (a ≡ true → b ≡ true) → (b ≡ true → a ≡ true) → a ≡ b
same_truth true b h k = sym (h refl)
same_truth false true h k = k refl
same_truth false false h k = refl

-- The values of two rows are the same exactly where their numbers are.
is_row : (n q r : ℕ) → q < 2 ^ n → 1 ≤ r → r < 1 + 2 ^ n → same_values (row_values n (q + 1)) (row_values n r) ≡ eqb r (q + 1)
is_row n q r h l u = same_truth (same_values (row_values n (q + 1)) (row_values n r)) (eqb r (q + 1))
    (λ e.
    let p : r ≡ (r - 1) + 1 = omega arith in
    let d : q ≡ r - 1 = rows_apart n q (r - 1) h (omega arith) (same_is (row_values n (q + 1)) (row_values n r) e ∙ ap (row_values n) p) in
    eq-eqb r (q + 1) (omega arith))
    (λ e.
    let d : r ≡ q + 1 = grind (arith, nat_tests) in
    subst (λ k. same_values (row_values n (q + 1)) (row_values n k) ≡ true) (sym d) (same_self (row_values n (q + 1))))

-- flags on a range

set_range : (h k : ℕ → Bool) (a n q : ℕ) → q < n → ((r : ℕ) → a ≤ r → r < a + n → k r ≡ (if eqb r (a + q) then true else h r)) → set (map h (range_with_len a n)) q true ≡ map k (range_with_len a n)
set_range h k a zero q l e = absurd (omega (arith, l))
set_range h k a (suc n) zero l e =
    let t : eqb a (a + 0) ≡ true = eq-eqb a (a + 0) (omega arith) in
    let first : k a ≡ true = e a (omega arith) (omega arith) ∙ ap (λ c. if c then true else h a) t in
    ap₂ ◌∷◌ (sym first) (range_same h k (a + 1) n (λ r m u. let f : eqb r (a + 0) ≡ false = grind (arith, nat_tests) in sym (e r (omega arith) (omega arith) ∙ ap (λ c. if c then true else h r) f)))
set_range h k a (suc n) (suc q) l e =
    let t : eqb a (a + suc q) ≡ false = grind (arith, nat_tests) in
    let first : k a ≡ h a = e a (omega arith) (omega arith) ∙ ap (λ c. if c then true else h a) t in
    let s : a + suc q ≡ (a + 1) + q = omega arith in
    ap₂ ◌∷◌ (sym first) (set_range h k (a + 1) n q (omega (arith, l)) (λ r m u. e r (omega arith) (omega arith) ∙ ap (λ x. if eqb r x then true else h r) s))

all_unset : (a n : ℕ) → replicate n false ≡ map (λ (r : ℕ). false) (range_with_len a n)
all_unset a zero = refl
all_unset a (suc n) = ap (λ xs. false ∷ xs) (all_unset (a + 1) n)

pub none_seen : (cs ls : List Sent) → replicate (2 ^ length ls) false ≡ seen_flags cs ls []
none_seen cs ls = all_unset 1 (2 ^ length ls)

pub seen_at : (cs ls : List Sent) (found : List TableRow) (q : ℕ) → q < 2 ^ length ls → get_or (seen_flags cs ls found) q false ≡ has_row cs ls found (row_values (length ls) (q + 1))
seen_at cs ls found q h = get_or-map-range_with_len (λ r. has_row cs ls found (row_values (length ls) r)) 1 (2 ^ length ls) q (q + 1) false h (omega arith)

or_if : (x y : Bool) → (x || (y || false)) ≡ (if y then true else x)
or_if true true = refl
or_if true false = refl
or_if false true = refl
or_if false false = refl

-- With one row more, the flag of that row is set.
pub seen_more : (cs ls : List Sent) (found : List TableRow) (row : TableRow) (q : ℕ) → q < 2 ^ length ls → row_values (length ls) (q + 1) ≡ values_of cs ls row →
    set (seen_flags cs ls found) q true ≡ seen_flags cs ls (found ++ row ∷ [])
seen_more cs ls found row q h v =
    set_range (λ r. has_row cs ls found (row_values (length ls) r)) (λ r. has_row cs ls (found ++ row ∷ []) (row_values (length ls) r)) 1 (2 ^ length ls) q h (λ r l u.
    let test : TableRow → Bool = λ e. same_values (values_of cs ls e) (row_values (length ls) r) in
    let s : 1 + q ≡ q + 1 = omega arith in
    let t : same_values (values_of cs ls row) (row_values (length ls) r) ≡ eqb r (q + 1) = ap (λ x. same_values x (row_values (length ls) r)) (sym v) ∙ is_row (length ls) q r h l u in
    list_any-append (λ (e : TableRow). same_values (values_of cs ls e) (row_values (length ls) r)) found (row ∷ [])
    ∙ or_if (has_row cs ls found (row_values (length ls) r)) (same_values (values_of cs ls row) (row_values (length ls) r))
    ∙ ap (λ c. if c then true else has_row cs ls found (row_values (length ls) r)) (t ∙ ap (eqb r) (sym s)))

-- The flags that aren't set are those of the missing rows.
unset_range : (h : ℕ → Bool) (a n : ℕ) → unset a (map h (range_with_len a n)) ≡ filter (λ r. not (h r)) (range_with_len a n)
unset_range h a zero = refl
unset_range h a (suc n) = both (h a) (unset_range h (a + 1) n)
  where
    both : (c : Bool) {xs ys : List ℕ} → xs ≡ ys → (if c then xs else a ∷ xs) ≡ cond (not c) (a ∷ ys) ys
    both true e = e
    both false e = ap (λ zs. a ∷ zs) e

pub unset_missing : (cs ls : List Sent) (found : List TableRow) → unset 1 (seen_flags cs ls found) ≡ filter (λ r. not (has_row cs ls found (row_values (length ls) r))) (rows (length ls))
unset_missing cs ls found = unset_range (λ r. has_row cs ls found (row_values (length ls) r)) 1 (2 ^ length ls)
