-- What a shelf of texts answers.
use Rattle.std.specs.Prelude.{◌≡◌, ℕ, ◌<◌, ◌≤◌, List, length, Result, Ok, Err, IsErrOf, IfSome, IfOk, IsSomeAnd, Some, None, ⊤}
use Rattle.std.specs.declared.option.Option.{Option}
use Rattle.edge_io.specs.Causes.{Rose}
use Rattle.edge_io.specs.declared.shelf.ShelfFault.{ShelfFault}
use Rattle.edge_io.specs.declared.shelf.ShelfFault.TheVariants.{Failed, TooLong, Memory}

-- the most bytes of a text that a shelf hands out
abbrev pub text_limit : ℕ
text_limit = 262144

-- The text under each name, or none.
abbrev pub TextsByName : Type 0
TextsByName = List ℕ → Option (List ℕ)

-- A shelf that tells nothing of its texts.
abbrev pub untold : Option TextsByName
untold = None

-- Where the texts are told: the text under the name is handed out, none where there is none, and a text over the limit
-- is too long.
abbrev pub Answers : Option TextsByName → List ℕ → Result (Option (List ℕ)) ShelfFault → Type 0
Answers None name result = ⊤
Answers (Some texts) name (Ok found) = texts name ≡ found
Answers (Some texts) name (Err TooLong) = IsSomeAnd (texts name) (λ text. text_limit < length text)
Answers (Some texts) name (Err Failed) = ⊤
Answers (Some texts) name (Err Memory) = ⊤

-- No text that is handed out is over the limit.
abbrev pub IsWithinLimit : Result (Option (List ℕ)) ShelfFault → Type 0
IsWithinLimit result = IfOk result (λ found. IfSome found (λ text. length text ≤ text_limit))

-- The count of faults never falls, and Failed comes only where it rose.
pub record HasShelfCause {T : Type 0} (before now : ℕ) (result : Result T ShelfFault) : Type 0 where
  pub later : before ≤ now
  pub failed : IsErrOf result Failed → Rose before now
