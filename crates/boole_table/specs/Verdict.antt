-- How a student's table is judged: by the first of all things that are wrong with it.
use Rattle.std.specs.Prelude.{◌≡◌, ℕ, ◌+◌, Bool, true, false, not, ◌&&◌, List, [], ◌∷◌, ◌++◌, length, map, filter, ◌⊎◌, if◌then◌else◌}
use Rattle.std.specs.List.{list_any}
use Rattle.fol_core.specs.declared.sent.Sent.{Sent}
use Rattle.taut_con.specs.Letters.{letters}
use Rattle.taut_con.specs.Rows.{row_values, rows}
use Rattle.taut_con.specs.Values.{valuation, agree}
use Rattle.boole_table.specs.declared.fault.TableTextFault.{TableTextFault}
use Rattle.boole_table.specs.declared.table.TableRow.{TableRow}
use Rattle.boole_table.specs.declared.table.TableAnswer.{TableAnswer}
use Rattle.boole_table.specs.declared.table.TableText.{TableText}
use Rattle.boole_table.specs.declared.table.Question.{Question}
use Rattle.boole_table.specs.declared.table.TableVerdict.{TableVerdict}
use Rattle.boole_table.specs.declared.table.TableVerdict.TheVariants.{Correct, Unreadable, RepeatedRow, WrongCell, MissingRow, WrongAssessment}
use Rattle.boole_table.specs.Asked.{exercise}
use Rattle.boole_table.specs.TableLines.{SpellsTable}
use Rattle.boole_table.specs.TableFaults.{IsFirstTableFault}
use Rattle.boole_table.specs.StandardTable.{values_under, standard_rows}
use Rattle.boole_table.specs.Questions.{decided, is_answered}

-- The values are the same, one by one.
abbrev pub same_values : List Bool → List Bool → Bool
same_values [] [] = true
same_values (b ∷ bs) (c ∷ cs) = agree b c && same_values bs cs
same_values _ _ = false

-- `values_of columns ls row`: the values of the letters ls in a row whose columns have these letters.
abbrev pub values_of : List Sent → List Sent → TableRow → List Bool
values_of columns ls row = map (valuation columns row.letters) ls

-- One of the rows gives the letters ls these values.
abbrev pub has_row : List Sent → List Sent → List TableRow → List Bool → Bool
has_row columns ls found values = list_any (λ row. same_values (values_of columns ls row) values) found

-- The wrong cells of row n: the given values that aren't the right ones, from column k on.
abbrev pub wrong_cells : ℕ → ℕ → List Bool → List Bool → List TableVerdict
wrong_cells n k (b ∷ bs) (c ∷ cs) = if agree b c then wrong_cells n (k + 1) bs cs else WrongCell n k ∷ wrong_cells n (k + 1) bs cs
wrong_cells n k _ _ = []

-- What is wrong with row n of the text behind the earlier rows: that it repeats one of them, and then its wrong cells. It
-- repeats a row that has the same value for each letter.
abbrev pub faults_of_row : List Sent → List Sent → List Sent → List TableRow → ℕ → TableRow → List TableVerdict
faults_of_row columns ls ss earlier n row =
    (if has_row columns ls earlier (values_of columns ls row) then RepeatedRow n ∷ [] else [])
    ++ wrong_cells n 1 row.sentences (values_under columns row.letters ss)

-- What is wrong with the rows of the text, of which the first is row n, behind the earlier ones.
abbrev pub row_faults : List Sent → List Sent → List Sent → List TableRow → ℕ → List TableRow → List TableVerdict
row_faults columns ls ss earlier n [] = []
row_faults columns ls ss earlier n (row ∷ more) = faults_of_row columns ls ss earlier n row ++ row_faults columns ls ss (earlier ++ row ∷ []) (n + 1) more

-- The rows of the standard order that no row of the text has.
abbrev pub missing_rows : List Sent → List Sent → List TableRow → List TableVerdict
missing_rows columns ls found = map MissingRow (filter (λ r. not (has_row columns ls found (row_values (length ls) r))) (rows (length ls)))

-- The questions, of which the first is question k, whose answer is wrong or missing. They are decided over the standard rows.
abbrev pub wrong_answers : List TableRow → List TableAnswer → ℕ → List Question → List TableVerdict
wrong_answers standard answers k [] = []
wrong_answers standard answers k (q ∷ qs) =
    if is_answered answers k (decided standard q) then wrong_answers standard answers (k + 1) qs else WrongAssessment k ∷ wrong_answers standard answers (k + 1) qs

-- All that is wrong with the table text: in its rows, then with the set of its rows, and then in its answers.
abbrev pub faults_over : List Sent → List Sent → List Question → TableText → List TableVerdict
faults_over ls ss qs t =
    row_faults t.table.letters ls ss [] 1 t.table.rows
    ++ missing_rows t.table.letters ls t.table.rows
    ++ wrong_answers (standard_rows ls ss) t.answers 1 qs

abbrev pub faults_of : List Sent → List Question → TableText → List TableVerdict
faults_of ss qs t = faults_over (letters ss) ss qs t

-- The first of the faults, and Correct where there is none.
abbrev pub first_of : List TableVerdict → TableVerdict
first_of [] = Correct
first_of (v ∷ vs) = v

-- The verdict on a student's text for an exercise with these sentences and questions. A text that isn't the table text of the
-- exercise is unreadable, with its least faulty line and its fault. Else the first thing that is wrong decides.
abbrev pub IsVerdict : List Sent → List Question → List ℕ → TableVerdict → Type 0
IsVerdict ss qs text verdict =
    ((n : ℕ) × ((fault : TableTextFault) × IsFirstTableFault (exercise (letters ss) ss (length qs)) text n fault × (verdict ≡ Unreadable n fault)))
    ⊎ ((t : TableText) × (SpellsTable (exercise (letters ss) ss (length qs)) text t × (verdict ≡ first_of (faults_of ss qs t))))
