-- What a table text must be about.
use Rattle.std.specs.Prelude.{◌≡◌, ◌≢◌, ℕ, ◌≤◌, List, Contains}
use Rattle.std.specs.List.{AllByRecursion, AllPairs}
use Rattle.fol_core.specs.declared.sent.Sent.{Sent}

-- Any table, or the table of an exercise with these letters, these sentences and so many questions.
pub data Asked : Type 0 where
  any_table : Asked
  exercise : (letters sentences : List Sent) (questions : ℕ) → Asked

-- No two of the sentences are one.
abbrev pub Differ : List Sent → Type 0
Differ ss = AllPairs (λ s t. s ≢ t) ss

-- The letters that a text may have: none stands twice, and in an exercise they are just its letters.
abbrev pub SuitLetters : Asked → List Sent → Type 0
SuitLetters any_table ls = Differ ls
SuitLetters (exercise letters sentences questions) ls = Differ ls × AllByRecursion (Contains letters) ls × AllByRecursion (Contains ls) letters

-- The sentences that it may have: in an exercise they are its sentences, in their order.
abbrev pub SuitSentences : Asked → List Sent → Type 0
SuitSentences any_table ss = Unit {0}
SuitSentences (exercise letters sentences questions) ss = ss ≡ sentences

-- The questions that it may answer, by their numbers from 1.
abbrev pub SuitsQuestion : Asked → ℕ → Type 0
SuitsQuestion any_table k = 1 ≤ k
SuitsQuestion (exercise letters sentences questions) k = (1 ≤ k) × (k ≤ questions)
