-- Lists that are looked through one by one.
use Rattle.std.proofs.Common.{◌≡◌, ℕ, suc, ◌+◌, ◌<◌, ◌^◌, Bool, true, false, List, [], ◌∷◌, ◌++◌, length, take, drop, get_or, if◌then◌else◌, arith, refl, sym, ap, ap₂, ◌∙◌, add-one, drop-cons}
use Rattle.std.specs.Prelude.{◌||◌, ◌&&◌, ◌==◌}
use Rattle.std.proofs.lemmas.Bool.Decides.{nat_tests}
use Rattle.std.proofs.lemmas.List.{take_more, get_or_default}
use Rattle.std.proofs.lemmas.List.FromFn.{length-map-range_with_len, get_or-map-range_with_len}
use Rattle.fol_core.specs.declared.sent.Sent.{Sent}
use Rattle.taut_con.specs.Rows.{row_values}
use Rattle.taut_con.specs.Values.{agree}
use Rattle.boole_table.specs.declared.table.TableRow.{TableRow}
use Rattle.boole_table.specs.declared.table.TableAnswer.{TableAnswer}
use Rattle.boole_table.specs.declared.table.Question.{Question}
use Rattle.boole_table.specs.declared.table.TableVerdict.{TableVerdict}
use Rattle.boole_table.specs.declared.table.TableVerdict.TheVariants.{RepeatedRow, WrongCell, WrongAssessment}
use Rattle.boole_table.specs.StandardTable.{values_under, standard_row, standard_rows}
use Rattle.boole_table.specs.Questions.{decided, is_answered, are_true_beside}
use Rattle.boole_table.specs.Verdict.{values_of, has_row, wrong_cells, faults_of_row, row_faults, wrong_answers}
use Rattle.boole_table.specs.Judges.{IsFirst, seen_flags, unset}

pub next : {X : Type 0} (xs : List X) (i : ℕ) (x : X) → i < length xs → x ≡ get_or xs i x → drop i xs ≡ x ∷ drop (i + 1) xs
next xs i x h e = rw (add-one, drop-cons xs i x) (ap (λ y. y ∷ drop (suc i) xs) (sym e))

-- flags that aren't set
pub unset_next : (bs : List Bool) (i : ℕ) (b : Bool) → i < length bs → b ≡ get_or bs i b → unset (i + 1) (drop i bs) ≡ (if b then unset (i + 1 + 1) (drop (i + 1) bs) else (i + 1) ∷ unset (i + 1 + 1) (drop (i + 1) bs))
unset_next bs i b h e = ap (unset (i + 1)) (next bs i b h e)

-- cells
pub cells_next : (n i : ℕ) (bs cs : List Bool) (b d : Bool) → i < length bs → i < length cs → b ≡ get_or bs i b → d ≡ get_or cs i d →
    wrong_cells n (i + 1) (drop i bs) (drop i cs) ≡ (if agree b d then wrong_cells n (i + 1 + 1) (drop (i + 1) bs) (drop (i + 1) cs) else WrongCell n (i + 1) ∷ wrong_cells n (i + 1 + 1) (drop (i + 1) bs) (drop (i + 1) cs))
cells_next n i bs cs b d h k e f = ap₂ (wrong_cells n (i + 1)) (next bs i b h e) (next cs i d k f)

-- answers
pub answers_next : (standard : List TableRow) (answers : List TableAnswer) (qs : List Question) (i : ℕ) (q : Question) → i < length qs → q ≡ get_or qs i q →
    wrong_answers standard answers (i + 1) (drop i qs) ≡ (if is_answered answers (i + 1) (decided standard q) then wrong_answers standard answers (i + 1 + 1) (drop (i + 1) qs) else WrongAssessment (i + 1) ∷ wrong_answers standard answers (i + 1 + 1) (drop (i + 1) qs))
answers_next standard answers qs i q h e = ap (wrong_answers standard answers (i + 1)) (next qs i q h e)

-- the rows of a text
pub seen_long : (cs ls : List Sent) (found : List TableRow) → length (seen_flags cs ls found) ≡ 2 ^ length ls
seen_long cs ls found = length-map-range_with_len (λ r. has_row cs ls found (row_values (length ls) r)) 1 (2 ^ length ls)

pub rows_long : (ls ss : List Sent) → length (standard_rows ls ss) ≡ 2 ^ length ls
rows_long ls ss = length-map-range_with_len (standard_row ls ss) 1 (2 ^ length ls)

pub row_at : (ls ss : List Sent) (q : ℕ) (d : TableRow) → q < 2 ^ length ls → get_or (standard_rows ls ss) q d ≡ standard_row ls ss (q + 1)
row_at ls ss q d h = get_or-map-range_with_len (standard_row ls ss) 1 (2 ^ length ls) q (q + 1) d h (omega arith)

pub rows_next : (cs ls ss : List Sent) (rs : List TableRow) (i : ℕ) (row : TableRow) → i < length rs → row ≡ get_or rs i row →
    row_faults cs ls ss (take i rs) (i + 1) (drop i rs) ≡ faults_of_row cs ls ss (take i rs) (i + 1) row ++ row_faults cs ls ss (take (i + 1) rs) (i + 1 + 1) (drop (i + 1) rs)
rows_next cs ls ss rs i row h e =
    ap (row_faults cs ls ss (take i rs) (i + 1)) (next rs i row h e)
    ∙ ap (λ xs. faults_of_row cs ls ss (take i rs) (i + 1) row ++ row_faults cs ls ss xs (i + 1 + 1) (drop (i + 1) rs)) (sym (take_more rs i row h ∙ ap (λ y. take i rs ++ y ∷ []) (sym e)))

-- A row that repeats one, and a row that doesn't.
pub repeated : (cs ls ss : List Sent) (earlier : List TableRow) (n : ℕ) (row : TableRow) (more : List TableVerdict) → has_row cs ls earlier (values_of cs ls row) ≡ true →
    IsFirst (RepeatedRow n) (faults_of_row cs ls ss earlier n row ++ more)
repeated cs ls ss earlier n row more h = (
  wrong_cells n 1 row.sentences (values_under cs row.letters ss) ++ more,
  ap (λ c. ((if c then RepeatedRow n ∷ [] else []) ++ wrong_cells n 1 row.sentences (values_under cs row.letters ss)) ++ more) h,
)

pub not_repeated : (cs ls ss : List Sent) (earlier : List TableRow) (n : ℕ) (row : TableRow) → has_row cs ls earlier (values_of cs ls row) ≡ false →
    faults_of_row cs ls ss earlier n row ≡ wrong_cells n 1 row.sentences (values_under cs row.letters ss)
not_repeated cs ls ss earlier n row h = ap (λ c. (if c then RepeatedRow n ∷ [] else []) ++ wrong_cells n 1 row.sentences (values_under cs row.letters ss)) h

pub first_longer : (v : TableVerdict) (xs ys zs : List TableVerdict) → IsFirst v xs → zs ≡ xs ++ ys → IsFirst v zs
first_longer v xs ys zs h e = (h.0 ++ ys, e ∙ ap (λ us. us ++ ys) h.1)

pub unset_at : (bs : List Bool) (i : ℕ) → i < length bs → get_or bs i false ≡ false → unset (i + 1) (drop i bs) ≡ (i + 1) ∷ unset (i + 1 + 1) (drop (i + 1) bs)
unset_at bs i h e =
    let f : drop i bs ≡ get_or bs i false ∷ drop (i + 1) bs = rw (add-one, drop-cons bs i false) refl in
    ap (unset (i + 1)) f ∙ ap (λ b. if b then unset (i + 1 + 1) (drop (i + 1) bs) else (i + 1) ∷ unset (i + 1 + 1) (drop (i + 1) bs)) e

pub cells_end : (n k : ℕ) (bs : List Bool) → wrong_cells n k bs [] ≡ []
cells_end n k [] = refl
cells_end n k (b ∷ bs) = refl

-- the value of sentence i among the others
pub beside_fails : (i p : ℕ) (bs : List Bool) → p < length bs → get_or bs p false ≡ false → (p + 1 ≡ i → ⊥) → are_true_beside i (p + 1) (drop p bs) ≡ false
beside_fails i p bs h e none =
    let f : (p + 1 == i) ≡ false = not_equal (p + 1) i none in
    let d : drop p bs ≡ get_or bs p false ∷ drop (p + 1) bs = rw (add-one, drop-cons bs p false) refl in
    ap (are_true_beside i (p + 1)) d ∙ ap₂ (λ b c. (b || c) && are_true_beside i (p + 1 + 1) (drop (p + 1) bs)) e f
  where
    not_equal : (m k : ℕ) → (m ≡ k → ⊥) → (m == k) ≡ false
    not_equal m k n = grind (arith, nat_tests)

pub answer_fails : (standard : List TableRow) (answers : List TableAnswer) (qs : List Question) (i : ℕ) (d : Question) (said : Bool) → i < length qs → said ≡ decided standard (get_or qs i d) → false ≡ is_answered answers (i + 1) said →
    wrong_answers standard answers (i + 1) (drop i qs) ≡ WrongAssessment (i + 1) ∷ wrong_answers standard answers (i + 1 + 1) (drop (i + 1) qs)
answer_fails standard answers qs i d said h e f =
    answers_next standard answers qs i (get_or qs i d) h (get_or_default qs i d (get_or qs i d) h)
    ∙ ap (λ b. if b then wrong_answers standard answers (i + 1 + 1) (drop (i + 1) qs) else WrongAssessment (i + 1) ∷ wrong_answers standard answers (i + 1 + 1) (drop (i + 1) qs)) (ap (is_answered answers (i + 1)) (sym e) ∙ sym f)
