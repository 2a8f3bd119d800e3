-- A run of a tool that goes by a text of the shelf, as the edges show it.
use Rattle.std.specs.Prelude.{◌≡◌, ◌⊎◌, ◌<◌, ◌≤◌, ℕ, List, [], ◌∷◌, ◌++◌, length, None, Some, Ok, Err, codes}
use Rattle.std.specs.declared.option.Option.{Option}
use Rattle.std.specs.Io.KnownBytes.{Appends, Keeps}
use Rattle.edge_io.specs.Shelves.{Answers, TextsByName, text_limit}
use Rattle.edge_io.specs.declared.shelf.ShelfFault.TheVariants.{TooLong}
use Rattle.tutor_app.specs.Run.{ToolRuns, ToolRunsOn}
use Rattle.tutor_app.specs.Transfer.{WritesFront}
use Rattle.tutor_app.specs.declared.tool.Reply.{Reply}

-- The reply that says something of a text of the shelf, which is named behind it.
abbrev pub said_of : List ℕ → List ℕ → Reply
said_of said name = record { code = 3; text = said ++ name ++ 10 ∷ [] }

-- the reply that names a text which the shelf hasn't
abbrev pub no_file : List ℕ → Reply
no_file name = said_of (codes "no file ") name

-- the reply that names a text which hasn't the form
abbrev pub unreadable_text : List ℕ → Reply
unreadable_text name = said_of (codes "unreadable ") name

-- The reply was written, whose status this is; or the sink failed, and no more than a front of it was written.
abbrev pub Says : Reply → Option (List ℕ) → Option (List ℕ) → ℕ → Type 0
Says reply taken taken' code = ((code ≡ reply.code) × Appends taken taken' reply.text) ⊎ ((code ≡ 5) × WritesFront taken taken' reply.text)

-- Nothing was read or written. Here and below `unread` says that the input is as it was.
pub record StaysStill (unread : Type 0) (taken taken' : Option (List ℕ)) : Type 0 where
  pub input : unread
  pub output : Keeps taken taken'

-- The shelf failed or memory ran out, before anything was read or written.
pub record Stops (unread : Type 0) (taken taken' : Option (List ℕ)) (code : ℕ) : Type 0 where
  pub still : StaysStill unread taken taken'
  pub why : (code ≡ 8) ⊎ (code ≡ 7)

-- The text under the name is over the limit, and nothing was read or written.
pub record IsOverLong (texts : Option TextsByName) (name : List ℕ) (unread : Type 0) (taken taken' : Option (List ℕ)) (code : ℕ) : Type 0 where
  pub long : Answers texts name (Err TooLong)
  pub still : StaysStill unread taken taken'
  pub status : code ≡ 9

-- The shelf has no text of the name: the reply says so, and the input isn't read.
pub record IsMissing (texts : Option TextsByName) (name : List ℕ) (unread : Type 0) (taken taken' : Option (List ℕ)) (code : ℕ) : Type 0 where
  pub none : Answers texts name (Ok None)
  pub input : unread
  pub says : Says (no_file name) taken taken' code

-- This is the text under the name, and it is within the limit.
pub record IsHeld (texts : Option TextsByName) (name text : List ℕ) : Type 0 where
  pub is : Answers texts name (Ok (Some text))
  pub fits : length text ≤ text_limit

-- The text under the name hasn't the form: the reply says so, and the input isn't read.
abbrev pub IsUnfit : (List ℕ → Type 0) → Option TextsByName → List ℕ → Type 0 → Option (List ℕ) → Option (List ℕ) → ℕ → Type 0
IsUnfit HasForm texts name unread taken taken' code =
    (text : List ℕ) × IsHeld texts name text × (HasForm text → ⊥) × unread × Says (unreadable_text name) taken taken' code

-- The text under the name has the form, and the tool over it ran, whose definition `answers` gives for each text.
abbrev pub RunsOver : (List ℕ → Type 0) → (List ℕ → List ℕ → Reply → Type 0) → Option TextsByName → List ℕ → Option (List ℕ) → Option (List ℕ) → Option (List ℕ) → Option (List ℕ) → ℕ → Type 0
RunsOver HasForm answers texts name left left' taken taken' code =
    (text : List ℕ) × IsHeld texts name text × HasForm text × ToolRuns (answers text) left left' taken taken' code

-- What was read and written with each status, where the command goes by the text of the shelf under the name.
abbrev pub ShelvedRuns : (List ℕ → Type 0) → (List ℕ → List ℕ → Reply → Type 0) → Option TextsByName → List ℕ → Type 0 → Option (List ℕ) → Option (List ℕ) → Option (List ℕ) → Option (List ℕ) → ℕ → Type 0
ShelvedRuns HasForm answers texts name unread left left' taken taken' code =
    Stops unread taken taken' code
    ⊎ IsOverLong texts name unread taken taken' code
    ⊎ IsMissing texts name unread taken taken' code
    ⊎ IsUnfit HasForm texts name unread taken taken' code
    ⊎ RunsOver HasForm answers texts name left left' taken taken' code

-- The same where the shelf's text under the name is told, and the input: it is these bytes. The shelf's failure and want of
-- memory are the only other answers.
pub record ShelvedRunsOn (HasForm : List ℕ → Type 0) (answers : List ℕ → List ℕ → Reply → Type 0) (found : Option (List ℕ)) (name : List ℕ) (unread : Type 0)
    (bytes : List ℕ) (left' taken taken' : Option (List ℕ)) (code : ℕ) : Type 0 where
  -- There is no such text.
  pub missing : found ≡ None → Stops unread taken taken' code ⊎ (unread × Says (no_file name) taken taken' code)
  -- It is over the limit.
  pub over_long : (text : List ℕ) → found ≡ Some text → text_limit < length text → Stops unread taken taken' code ⊎ (StaysStill unread taken taken' × (code ≡ 9))
  -- It hasn't the form.
  pub unfit : (text : List ℕ) → found ≡ Some text → length text ≤ text_limit → (HasForm text → ⊥) → Stops unread taken taken' code ⊎ (unread × Says (unreadable_text name) taken taken' code)
  -- It has the form, and the tool over it ran on the bytes.
  pub ran : (text : List ℕ) → found ≡ Some text → length text ≤ text_limit → HasForm text → Stops unread taken taken' code ⊎ ToolRunsOn (answers text) bytes left' taken taken' code
