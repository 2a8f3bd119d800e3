-- The first wrong row of a text.
use Rattle.std.proofs.Common.{◌≡◌, ℕ, ◌+◌, ◌^◌, ◌<◌, ◌≤◌, Bool, true, false, List, [], ◌∷◌, ◌++◌, length, map, take, drop, get_or, sym, ap, ap₂, ◌∙◌, arith}
use Rattle.std.specs.Prelude.{Contains}
use Rattle.std.specs.List.{AllByRecursion}
use Rattle.std.proofs.lemmas.List.{take_more}
use Rattle.std.proofs.Math.ListN.{set, length-map}
use Rattle.std.proofs.Math.Pow.{pow_mono}
use Rattle.fol_core.specs.declared.sent.Sent.{Sent}
use Rattle.taut_con.specs.Rows.{row_values}
use Rattle.taut_con.specs.Values.{valuation, value}
use Rattle.boole_table.specs.declared.table.TableRow.{TableRow}
use Rattle.boole_table.specs.declared.table.TableVerdict.{TableVerdict}
use Rattle.boole_table.specs.declared.table.TableVerdict.TheVariants.{RepeatedRow}
use Rattle.boole_table.specs.StandardTable.{values_under, standard_rows}
use Rattle.boole_table.specs.Verdict.{values_of, has_row, wrong_cells, faults_of_row, row_faults}
use Rattle.boole_table.specs.Judges.{IsFirst, seen_flags}
use Rattle.boole_table.proofs.Scanning.{rows_next, repeated, not_repeated, first_longer, row_at}
use Rattle.boole_table.proofs.Seeing.{seen_at, seen_more}
use Rattle.boole_table.proofs.Valuing.{same_cells}

-- The row has the values of the standard row with its number.
pub row_has : (cs ls : List Sent) (row : TableRow) (vs : List Bool) (q : ℕ) → row_values (length ls) (q + 1) ≡ map (valuation cs vs) ls → vs ≡ row.letters → row_values (length ls) (q + 1) ≡ values_of cs ls row
row_has cs ls row vs q v w = v ∙ ap (λ x. map (valuation cs x) ls) w

-- Its flag says whether an earlier row has its values.
pub flag_says : (cs ls : List Sent) (found : List TableRow) (seen : List Bool) (row : TableRow) (q : ℕ) (b : Bool) →
    seen ≡ seen_flags cs ls found → q < 2 ^ length ls → row_values (length ls) (q + 1) ≡ values_of cs ls row → get_or seen q false ≡ b → has_row cs ls found (values_of cs ls row) ≡ b
flag_says cs ls found seen row q b s h v e = ap (has_row cs ls found) (sym v) ∙ sym (seen_at cs ls found q h) ∙ sym (ap (λ xs. get_or xs q false) s) ∙ e

pub repeated_first : (cs ls ss : List Sent) (rs : List TableRow) (i : ℕ) (row : TableRow) (whole : List TableVerdict) → i < length rs → row ≡ get_or rs i row → has_row cs ls (take i rs) (values_of cs ls row) ≡ true →
    row_faults cs ls ss (take i rs) (i + 1) (drop i rs) ≡ whole → IsFirst (RepeatedRow (i + 1)) whole
repeated_first cs ls ss rs i row whole h e t w =
    let more : List TableVerdict = row_faults cs ls ss (take (i + 1) rs) (i + 1 + 1) (drop (i + 1) rs) in
    let r : IsFirst (RepeatedRow (i + 1)) (faults_of_row cs ls ss (take i rs) (i + 1) row ++ more) = repeated cs ls ss (take i rs) (i + 1) row more t in
    (r.0, sym w ∙ rows_next cs ls ss rs i row h e ∙ r.1)

-- The right values of the sentences are those of the standard row.
pub right_cells : (cs ls ss : List Sent) (rows : List TableRow) (row d : TableRow) (q : ℕ) → rows ≡ standard_rows ls ss → q < 2 ^ length ls → row_values (length ls) (q + 1) ≡ values_of cs ls row → AllByRecursion (Contains ls) cs →
    (get_or rows q d).sentences ≡ values_under cs row.letters ss
right_cells cs ls ss rows row d q are h v among =
    ap (λ (xs : List TableRow). (get_or xs q d).sentences) are
    ∙ ap (λ (r : TableRow). r.sentences) (row_at ls ss q d h)
    ∙ ap (λ x. values_under ls x ss) v
    ∙ same_cells ls cs row.letters ss among

pub few_cells : (cs : List Sent) (bs : List Bool) (ss : List Sent) (right : List Bool) → right ≡ values_under cs bs ss → length ss < 4294967296 → length right < 4294967296
few_cells cs bs ss right e h = omega (arith, h, ap length e, length-map ss (value (valuation cs bs)))

pub cells_of_row : (cs ls ss : List Sent) (earlier : List TableRow) (n : ℕ) (row : TableRow) (given right : List Bool) → has_row cs ls earlier (values_of cs ls row) ≡ false → given ≡ row.sentences → right ≡ values_under cs row.letters ss →
    faults_of_row cs ls ss earlier n row ≡ wrong_cells n 1 given right
cells_of_row cs ls ss earlier n row given right f g r = not_repeated cs ls ss earlier n row f ∙ sym (ap₂ (wrong_cells n 1) g r)

pub cell_first : (cs ls ss : List Sent) (rs : List TableRow) (i : ℕ) (row : TableRow) (whole cells : List TableVerdict) (v : TableVerdict) → i < length rs → row ≡ get_or rs i row → faults_of_row cs ls ss (take i rs) (i + 1) row ≡ cells → IsFirst v cells →
    row_faults cs ls ss (take i rs) (i + 1) (drop i rs) ≡ whole → IsFirst v whole
cell_first cs ls ss rs i row whole cells v h e f k w =
    let more : List TableVerdict = row_faults cs ls ss (take (i + 1) rs) (i + 1 + 1) (drop (i + 1) rs) in
    first_longer v cells more whole k (sym w ∙ rows_next cs ls ss rs i row h e ∙ ap (λ xs. xs ++ more) f)

pub row_right : (cs ls ss : List Sent) (rs : List TableRow) (i : ℕ) (row : TableRow) (whole cells : List TableVerdict) → i < length rs → row ≡ get_or rs i row → faults_of_row cs ls ss (take i rs) (i + 1) row ≡ cells → cells ≡ [] →
    row_faults cs ls ss (take i rs) (i + 1) (drop i rs) ≡ whole → row_faults cs ls ss (take (i + 1) rs) (i + 1 + 1) (drop (i + 1) rs) ≡ whole
row_right cs ls ss rs i row whole cells h e f k w =
    let more : List TableVerdict = row_faults cs ls ss (take (i + 1) rs) (i + 1 + 1) (drop (i + 1) rs) in
    sym (ap (λ xs. xs ++ more) (f ∙ k)) ∙ sym (rows_next cs ls ss rs i row h e) ∙ w

pub flag_set : (cs ls : List Sent) (rs : List TableRow) (i : ℕ) (row : TableRow) (seen : List Bool) (q : ℕ) → i < length rs → row ≡ get_or rs i row → seen ≡ seen_flags cs ls (take i rs) → q < 2 ^ length ls → row_values (length ls) (q + 1) ≡ values_of cs ls row →
    set seen q true ≡ seen_flags cs ls (take (i + 1) rs)
flag_set cs ls rs i row seen q h e s l v =
    ap (λ xs. set xs q true) s ∙ seen_more cs ls (take i rs) row q l v ∙ ap (seen_flags cs ls) (sym (take_more rs i row h ∙ ap (λ y. take i rs ++ y ∷ []) (sym e)))

pub few_flags : (ls : List Sent) → length ls ≤ 12 → 2 ^ length ls ≤ 4096
few_flags ls h = pow_mono h
