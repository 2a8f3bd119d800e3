-- The questions of an exercise, decided over all rows of a table.
use Rattle.std.specs.Prelude.{ℕ, ◌+◌, ◌-◌, ◌==◌, Bool, true, false, not, ◌&&◌, ◌||◌, List, [], ◌∷◌, slice_index_or}
use Rattle.std.specs.List.{list_all, list_any}
use Rattle.taut_con.specs.Values.{agree}
use Rattle.boole_table.specs.declared.table.TableRow.{TableRow}
use Rattle.boole_table.specs.declared.table.TableAnswer.{TableAnswer}
use Rattle.boole_table.specs.declared.table.Question.{Question}
use Rattle.boole_table.specs.declared.table.Question.TheVariants.{Tautology, Possible, Equivalent, Consequence}

-- The value of sentence i, counted from 1, in the row.
abbrev pub cell : ℕ → TableRow → Bool
cell i row = slice_index_or row.sentences (i - 1) false

-- `are_true_beside i k bs`: the first of these values is that of sentence k. Each of them is true, but for that of sentence i.
abbrev pub are_true_beside : ℕ → ℕ → List Bool → Bool
are_true_beside i k [] = true
are_true_beside i k (b ∷ bs) = (b || k == i) && are_true_beside i (k + 1) bs

-- In the row, all sentences but sentence i are true.
abbrev pub others_true : ℕ → TableRow → Bool
others_true i row = are_true_beside i 1 row.sentences

-- The answer to the question, from all rows of the table: sentence i is true in every row, or in some row; the two sentences
-- have one value in every row; or sentence i is true in every row in which all the other sentences are true.
abbrev pub decided : List TableRow → Question → Bool
decided rows (Tautology i) = list_all (cell i) rows
decided rows (Possible i) = list_any (cell i) rows
decided rows (Equivalent i j) = list_all (λ row. agree (cell i row) (cell j row)) rows
decided rows (Consequence i) = list_all (λ row. not (others_true i row) || cell i row) rows

-- One of the answers is this one to question k.
abbrev pub is_answered : List TableAnswer → ℕ → Bool → Bool
is_answered answers k b = list_any (λ (a : TableAnswer). (a.question == k) && agree a.yes b) answers
