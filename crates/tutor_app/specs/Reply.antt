-- What a tool replies to an input.
use Rattle.std.specs.Prelude.{◌≡◌, ◌⊎◌, ℕ, List}
use Rattle.tutor_app.specs.declared.tool.Reply.{Reply}

-- The status of a reply is 0 (done), 1 (the judgement is against the input) or 3 (the input has not the form).
abbrev pub IsReplyCode : ℕ → Type 0
IsReplyCode code = (code ≡ 0) ⊎ (code ≡ 1) ⊎ (code ≡ 3)

-- The reply, the only one, that the tool's definition gives to these bytes.
pub record TheReply (answers : List ℕ → Reply → Type 0) (bytes : List ℕ) (reply : Reply) : Type 0 where
  pub is : answers bytes reply
  pub only : (other : Reply) → answers bytes other → other ≡ reply
