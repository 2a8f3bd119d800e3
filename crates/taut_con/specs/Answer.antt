-- The answer of the propositional consequence rule, by all rows of the truth table.
use Rattle.std.specs.Prelude.{ℕ, Bool, not, ◌&&◌, List, [], ◌∷◌, ◌++◌, length, filter, nat_lt, if◌then◌else◌}
use Rattle.std.specs.List.{list_all}
use Rattle.fol_core.specs.declared.sent.Sent.{Sent}
use Rattle.taut_con.specs.declared.answer.TautAnswer.{TautAnswer}
use Rattle.taut_con.specs.declared.answer.TautAnswer.TheVariants as a
use Rattle.taut_con.specs.Letters.{letters}
use Rattle.taut_con.specs.Rows.{row_values, rows}
use Rattle.taut_con.specs.Values.{valuation, value}

-- Under the valuation each premise is true and the goal is false.
abbrev pub refutes : (Sent → Bool) → List Sent → Sent → Bool
refutes v ps g = list_all (value v) ps && not (value v g)

-- `is_countermodel ls ps g r`: in row r of the letters ls each premise is true and the goal is false.
abbrev pub is_countermodel : List Sent → List Sent → Sent → ℕ → Bool
is_countermodel ls ps g r = refutes (valuation ls (row_values (length ls) r)) ps g

-- No, with the first of these rows, and Yes where there is none.
abbrev pub answer_by : List ℕ → TautAnswer
answer_by [] = a.Yes
answer_by (r ∷ rs) = a.No r

-- The answer over these letters: the first row in which each premise is true and the goal is false, if there is one.
-- Over more than 16 letters no table is made.
abbrev pub answer_over : List Sent → List Sent → Sent → TautAnswer
answer_over ls ps g = if nat_lt 16 (length ls) then a.TooManyLetters (length ls) else answer_by (filter (is_countermodel ls ps g) (rows (length ls)))

-- The answer to whether the goal is a tautological consequence of the premises.
abbrev pub taut_answer : List Sent → Sent → TautAnswer
taut_answer ps g = answer_over (letters (ps ++ g ∷ [])) ps g
