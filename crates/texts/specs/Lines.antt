-- The physical line with which a text begins.
use Rattle.std.specs.Prelude.{◌≢◌, ℕ, List, []}
use Rattle.std.specs.Str.Lines.{strip_carriage_return}
use Rattle.texts.specs.Cuts.{Lacks, IsCut}

-- `IsFirstLine text line rest`: the text begins with the line, and the rest follows it. The line ends at the first line feed,
-- without one carriage return right before it, or with the text.
pub data IsFirstLine : List ℕ → List ℕ → List ℕ → Type 0 where
  ended : (text raw rest : List ℕ) → IsCut 10 text raw rest → IsFirstLine text (strip_carriage_return raw) rest
  last : (text : List ℕ) → text ≢ [] → Lacks 10 text → IsFirstLine text text []
