-- Why a text is no sentence: the first refusal, in the grammar's words.
use Rattle.std.specs.Prelude.{◌≡◌, ℕ, ◌≤◌, ◌<◌, true, false, List, [], ◌∷◌, ◌++◌, length, Some, Result, Ok, Err}
use Rattle.fol_core.specs.declared.sent.Sent.{Sent}
use Rattle.fol_core.specs.declared.sent.SentFault.{SentFault}
use Rattle.fol_core.specs.declared.sent.SentFault.TheVariants as limit
use Rattle.fol_core.specs.Size.{within_limits}
use Rattle.fol_core.specs.Blocks.{has_places}
use Rattle.fol_text.specs.declared.token.Token.{Token}
use Rattle.fol_text.specs.declared.token.Token.TheVariants.{AndSign, OrSign, IfSign, IffSign}
use Rattle.fol_text.specs.declared.token.Placed.{Placed}
use Rattle.fol_text.specs.Tokens.{AreTokens, IsBadAt, tokens_of}
use Rattle.fol_text.specs.Grammar.{Spells, SpellsPart}
use Rattle.fol_text.specs.Occurrences.{predicate_places, term_places, fitting, boundness, first_false}
use Rattle.fol_text.specs.Readable.{most_pending, most_bytes}
use Rattle.fol_text.specs.declared.fault.ReadFault.{ReadFault}
use Rattle.fol_text.specs.declared.fault.ReadFault.TheVariants.{BadByte, Unexpected, Ambiguous, FreeVariable, BlockArity, TooDeep, TooMany, TooLong, Memory}

-- Some continuation of the tokens is a sentence, at no token of which more than so many are pending.
abbrev pub BeginsWithin : ℕ → List Token → Type 0
BeginsWithin room ks = (js : List Token) × ((s : Sent) × Spells room (ks ++ js) s)

-- Some continuation of the tokens is a sentence by the grammar, however many are pending.
abbrev pub Begins : List Token → Type 0
Begins ks = (room : ℕ) × BeginsWithin room ks

-- The token is a connective.
pub data IsConnective : Token → Type 0 where
  and_is : IsConnective AndSign
  or_is : IsConnective OrSign
  if_is : IsConnective IfSign
  iff_is : IsConnective IffSign

-- The last of the tokens spell a part, so a part is complete behind them.
pub record EndsInPart (ks : List Token) : Type 0 where
  pub before : List Token
  pub part : List Token
  pub is_all : ks ≡ before ++ part
  pub room : ℕ
  pub sentence : Sent
  pub spells : SpellsPart room part sentence

-- A connective stands behind a complete part.
abbrev pub JoinsPart : List Token → Token → Type 0
JoinsPart before k = IsConnective k × EndsInPart before

-- `IsStopped end ks fault`: the tokens up to the first one that begins no sentence with those before it, or the end. A
-- connective behind a complete part, which could only be refused because another connective stands in the same sentence
-- and doesn't chain with it, is ambiguous. Any other token there is unexpected, and so is an end where no sentence is
-- complete. A token with which too many are pending is too deep.
pub data IsStopped : ℕ → List Placed → ReadFault → Type 0 where
  ambiguous : (end : ℕ) (before : List Placed) (here : Placed) (after : List Placed)
      → BeginsWithin most_pending (tokens_of before) → (Begins (tokens_of before ++ here.token ∷ []) → ⊥)
      → JoinsPart (tokens_of before) here.token → IsStopped end (before ++ here ∷ after) (Ambiguous here.place)
  unexpected : (end : ℕ) (before : List Placed) (here : Placed) (after : List Placed)
      → BeginsWithin most_pending (tokens_of before) → (Begins (tokens_of before ++ here.token ∷ []) → ⊥)
      → (JoinsPart (tokens_of before) here.token → ⊥) → IsStopped end (before ++ here ∷ after) (Unexpected here.place)
  too_deep : (end : ℕ) (before : List Placed) (here : Placed) (after : List Placed)
      → BeginsWithin most_pending (tokens_of before) → Begins (tokens_of before ++ here.token ∷ [])
      → (BeginsWithin most_pending (tokens_of before ++ here.token ∷ []) → ⊥) → IsStopped end (before ++ here ∷ after) (TooDeep here.place)
  ends_early : (end : ℕ) (ks : List Placed)
      → BeginsWithin most_pending (tokens_of ks) → ((s : Sent) → Spells most_pending (tokens_of ks) s → ⊥) → IsStopped end ks (Unexpected end)

-- The fault of a sentence that is over a limit.
abbrev pub limit_fault : Result Unit SentFault → Result Unit ReadFault
limit_fault (Ok done) = Ok tt
limit_fault (Err limit.TooDeep) = Err (TooDeep 0)
limit_fault (Err limit.TooMany) = Err (TooMany 0)
limit_fault (Err limit.Memory) = Err Memory

-- What is wrong with a sentence that is spelled, in this order: its depth, its number of nodes, its first predicate of
-- the blocks language with another number of places, and its first free variable.
pub data IsUnfit : List Placed → Sent → ReadFault → Type 0 where
  depth_over : (ks : List Placed) (s : Sent) → within_limits s ≡ Err limit.TooDeep → IsUnfit ks s (TooDeep 0)
  nodes_over : (ks : List Placed) (s : Sent) → within_limits s ≡ Err limit.TooMany → IsUnfit ks s (TooMany 0)
  wrong_places : (ks : List Placed) (s : Sent) (p : ℕ) → within_limits s ≡ Ok tt → first_false (fitting s) (predicate_places ks) ≡ Some p → IsUnfit ks s (BlockArity p)
  free : (ks : List Placed) (s : Sent) (p : ℕ) → within_limits s ≡ Ok tt → has_places s ≡ true
      → first_false (boundness s []) (term_places false ks) ≡ Some p → IsUnfit ks s (FreeVariable p)

-- The first refusal of a text, in this order: its length, its first byte where no token begins, the first of its tokens
-- that begins no sentence, and what is wrong with the sentence that it spells.
pub data IsRefused : List ℕ → ReadFault → Type 0 where
  too_long : (text : List ℕ) → most_bytes < length text → IsRefused text (TooLong (length text))
  bad_byte : (text : List ℕ) (p : ℕ) → length text ≤ most_bytes → IsBadAt 0 text p → IsRefused text (BadByte p)
  stopped : (text : List ℕ) (ks : List Placed) (fault : ReadFault) → length text ≤ most_bytes → AreTokens 0 text ks → IsStopped (length text) ks fault → IsRefused text fault
  unfit : (text : List ℕ) (ks : List Placed) (s : Sent) (fault : ReadFault) → length text ≤ most_bytes → AreTokens 0 text ks → Spells most_pending (tokens_of ks) s
      → IsUnfit ks s fault → IsRefused text fault
