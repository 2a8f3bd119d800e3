-- The texts that are sentences.
use Rattle.std.specs.Prelude.{◌≡◌, ℕ, ◌≤◌, true, List, length, Ok}
use Rattle.fol_core.specs.declared.sent.Sent.{Sent}
use Rattle.fol_core.specs.Size.{within_limits}
use Rattle.fol_core.specs.Closed.{closed}
use Rattle.fol_core.specs.Blocks.{has_places}
use Rattle.fol_text.specs.declared.token.Placed.{Placed}
use Rattle.fol_text.specs.Tokens.{AreTokens, tokens_of}
use Rattle.fol_text.specs.Grammar.{Spells}

-- How many parentheses, `~` and quantifiers may be pending at a token.
abbrev pub most_pending : ℕ
most_pending = 120

-- How many bytes a sentence's text may have.
abbrev pub most_bytes : ℕ
most_bytes = 4000

-- The text spells the sentence by the grammar, whatever its length, however many are pending, and whatever it says.
pub record SpellsText (text : List ℕ) (s : Sent) : Type 0 where
  pub tokens : List Placed
  pub are_tokens : AreTokens 0 text tokens
  pub room : ℕ
  pub spells : Spells room (tokens_of tokens) s

-- The sentence is within the limits of depth and nodes, each predicate of the blocks language in it has its number of
-- places, and it is closed.
pub record IsFit (s : Sent) : Type 0 where
  pub within : within_limits s ≡ Ok tt
  pub places : has_places s ≡ true
  pub closed : closed s ≡ true

-- The text is a sentence, and this is the sentence: its tokens spell a fit sentence. The text has at most 4,000 bytes, and
-- at most 120 are pending at any token.
pub record IsReadable (text : List ℕ) (s : Sent) : Type 0 where
  pub short : length text ≤ most_bytes
  pub tokens : List Placed
  pub are_tokens : AreTokens 0 text tokens
  pub spells : Spells most_pending (tokens_of tokens) s
  pub fit : IsFit s
