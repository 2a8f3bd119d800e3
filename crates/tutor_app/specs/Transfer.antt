-- What was read of an input, and what was written of a text.
use Rattle.std.specs.Prelude.{◌≡◌, ℕ, ◌+◌, ◌≤◌, List, length, take}
use Rattle.std.specs.declared.option.Option.{Option}
use Rattle.std.specs.Io.KnownBytes.{Consumes, Appends, IsAtEnd}

-- the most bytes that an input may have
abbrev pub input_limit : ℕ
input_limit = 262144

-- The input was these bytes: all of them were read, none is left, and they are within the limit.
pub record ReadsAll (left left' : Option (List ℕ)) (bytes : List ℕ) : Type 0 where
  pub consumed : Consumes left left' bytes
  pub ended : IsAtEnd left'
  pub fits : length bytes ≤ input_limit

-- One byte more than the limit was read.
abbrev pub ReadsTooMuch : Option (List ℕ) → Option (List ℕ) → Type 0
ReadsTooMuch left left' = (bytes : List ℕ) × Consumes left left' bytes × (length bytes ≡ input_limit + 1)

-- A front of the text was written, and nothing else.
abbrev pub WritesFront : Option (List ℕ) → Option (List ℕ) → List ℕ → Type 0
WritesFront taken taken' text = (n : ℕ) × Appends taken taken' (take n text)
