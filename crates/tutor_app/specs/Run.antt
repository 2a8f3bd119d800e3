-- A run of a tool, as its edges show it.
use Rattle.std.specs.Prelude.{◌≡◌, ◌⊎◌, ◌<◌, ◌≤◌, ℕ, List, [], Some, length}
use Rattle.std.specs.declared.option.Option.{Option}
use Rattle.std.specs.Io.KnownBytes.{Appends, Keeps}
use Rattle.tutor_app.specs.Reply.{IsReplyCode, TheReply}
use Rattle.tutor_app.specs.Transfer.{ReadsAll, ReadsTooMuch, WritesFront, input_limit}
use Rattle.tutor_app.specs.declared.tool.Reply.{Reply}

-- What was read and written with each status, where `answers` is the tool's definition.
pub record ToolRuns (answers : List ℕ → Reply → Type 0) (left left' taken taken' : Option (List ℕ)) (code : ℕ) : Type 0 where
  -- The input was read to its end, and the reply to it was written, whose status this is.
  pub answered : IsReplyCode code → (bytes : List ℕ) × ReadsAll left left' bytes
      × ((reply : Reply) × TheReply answers bytes reply × (code ≡ reply.code) × Appends taken taken' reply.text)
  -- The input was read to its end, and no more than a front of the reply to it was written.
  pub cut_off : code ≡ 5 → (bytes : List ℕ) × ReadsAll left left' bytes
      × ((reply : Reply) × TheReply answers bytes reply × WritesFront taken taken' reply.text)
  -- The input is over the limit.
  pub too_long : code ≡ 9 → ReadsTooMuch left left'
  -- Nothing was written.
  pub silent : (code ≡ 4) ⊎ (code ≡ 7) ⊎ (code ≡ 9) → Keeps taken taken'
  -- There is no other status.
  pub codes : IsReplyCode code ⊎ (code ≡ 4) ⊎ (code ≡ 5) ⊎ (code ≡ 7) ⊎ (code ≡ 9)

-- The same where the input is told: it is these bytes.
pub record ToolRunsOn (answers : List ℕ → Reply → Type 0) (bytes : List ℕ) (left' taken taken' : Option (List ℕ)) (code : ℕ) : Type 0 where
  -- Nothing is left of the input, and the reply to it was written, whose status this is.
  pub answered : IsReplyCode code → (left' ≡ Some [])
      × ((reply : Reply) × TheReply answers bytes reply × (code ≡ reply.code) × Appends taken taken' reply.text)
  -- Nothing is left of the input, and no more than a front of the reply to it was written.
  pub cut_off : code ≡ 5 → (left' ≡ Some [])
      × ((reply : Reply) × TheReply answers bytes reply × WritesFront taken taken' reply.text)
  -- The status 9 says that the input is over the limit.
  pub too_long : code ≡ 9 → input_limit < length bytes
  -- An input over the limit has no other status, but where the source failed or memory ran out.
  pub over_limit : input_limit < length bytes → (code ≡ 9) ⊎ (code ≡ 4) ⊎ (code ≡ 7)
  -- An input within the limit has the status of the reply to it, but where an edge failed or memory ran out.
  pub within_limit : length bytes ≤ input_limit → (reply : Reply) → answers bytes reply
      → (code ≡ reply.code) ⊎ (code ≡ 4) ⊎ (code ≡ 5) ⊎ (code ≡ 7)
