-- What one line of a task text declares, after the lines before it.
use Rattle.std.specs.Prelude.{◌≡◌, ◌≢◌, ℕ, ◌<◌, true, false, List, [], ◌∷◌, ◌++◌, length, codes, Some, None, ◌⊎◌}
use Rattle.texts.specs.Blanks.{trimmed}
use Rattle.fol_core.specs.declared.sent.Sent.{Sent}
use Rattle.fol_text.specs.Readable.{IsReadable}
use Rattle.fitch_file.specs.declared.task.Allowed.{Allowed}
use Rattle.fitch_file.specs.declared.draft.Draft.{Draft}
use Rattle.fitch_file.specs.Words.{first_word, behind_word, ends_word}

-- Nothing is allowed, and nothing is declared.
abbrev pub none_allowed : Allowed
none_allowed = record { taut = false; fo = false; ana = false }

abbrev pub nothing : Draft
nothing = record { premises = []; goal = None; allowed = None }

-- The line is the keyword alone, or the keyword, a blank and the text. Blanks at the ends of the text aren't part of it.
pub record IsBehind (keyword line text : List ℕ) : Type 0 where
  pub tail : List ℕ
  pub begins : line ≡ keyword ++ tail
  pub parted : ends_word tail ≡ true
  pub is : text ≡ trimmed tail

-- The keywords before a premise, a goal, and the consequence rules that are allowed.
abbrev pub premise_word : List ℕ
premise_word = codes "premise"

abbrev pub goal_word : List ℕ
goal_word = codes "goal"

abbrev pub con_word : List ℕ
con_word = codes "con"

-- The word allows one consequence rule beside those that are allowed before.
abbrev pub AllowsOne : Allowed → List ℕ → Allowed → Type 0
AllowsOne before word after =
    ((word ≡ codes "Taut") × (before.taut ≡ false) × (after ≡ record before { taut = true }))
    ⊎ ((word ≡ codes "FO") × (before.fo ≡ false) × (after ≡ record before { fo = true }))
    ⊎ ((word ≡ codes "Ana") × (before.ana ≡ false) × (after ≡ record before { ana = true }))

-- `Allow before text after`: each word of the text allows one rule more.
pub data Allow : Allowed → List ℕ → Allowed → Type 0 where
  no_word : (a : Allowed) (text : List ℕ) → first_word text ≡ [] → Allow a text a
  word : (a b c : Allowed) (text : List ℕ) → AllowsOne a (first_word text) b → Allow b (behind_word text) c → Allow a text c

-- The text is one to three different words, which allow these rules.
pub record AllowsText (text : List ℕ) (a : Allowed) : Type 0 where
  pub some : text ≢ []
  pub words : Allow none_allowed text a

-- The text is one premise more, of at most 32.
pub record AddsPremise (before : Draft) (text : List ℕ) (after : Draft) : Type 0 where
  pub premise : Sent
  pub readable : IsReadable text premise
  pub room : length before.premises < 32
  pub is : after ≡ record before { premises = before.premises ++ premise ∷ [] }

-- The text is the goal, of which there was none.
pub record AddsGoal (before : Draft) (text : List ℕ) (after : Draft) : Type 0 where
  pub goal : Sent
  pub first : before.goal ≡ None
  pub readable : IsReadable text goal
  pub is : after ≡ record before { goal = Some goal }

-- The text is what is allowed, of which there was no line.
pub record AddsAllowed (before : Draft) (text : List ℕ) (after : Draft) : Type 0 where
  pub allowed : Allowed
  pub first : before.allowed ≡ None
  pub allows : AllowsText text allowed
  pub is : after ≡ record before { allowed = Some allowed }

-- The line is the keyword and a text of which this holds.
pub record Says (keyword line : List ℕ) (P : List ℕ → Type 0) : Type 0 where
  pub text : List ℕ
  pub behind : IsBehind keyword line text
  pub holds : P text

-- After what was declared before, the line declares one thing more: a premise, the goal, or what is allowed.
abbrev pub Declares : Draft → List ℕ → Draft → Type 0
Declares before line after =
    Says premise_word line (λ text. AddsPremise before text after)
    ⊎ Says goal_word line (λ text. AddsGoal before text after)
    ⊎ Says con_word line (λ text. AddsAllowed before text after)
