-- The cites of a line: numbers of lines, and ranges for subproofs, with commas between them.
use Rattle.std.specs.Prelude.{◌≡◌, ℕ, ◌≤◌, Bool, true, false, ◌==◌, List, [], length, Option, Some, None}
use Rattle.std.specs.List.{slice_split}
use Rattle.texts.specs.Blanks.{trimmed}
use Rattle.texts.specs.Cuts.{IsCut}
use Rattle.texts.specs.Numbers.{IsCount}
use Rattle.deriv_laws.specs.declared.rule.Rule.{Rule}
use Rattle.deriv_laws.specs.declared.rule.Rule.TheVariants as r
use Rattle.deriv_laws.specs.declared.line.Cite.{Cite}
use Rattle.fitch_file.specs.Beside.{Beside}

-- A cite of one line, and a cite of a subproof.
abbrev pub line_cite : ℕ → Cite
line_cite n = record { first = n; last = n; sub = false }

abbrev pub subproof_cite : ℕ → ℕ → Cite
subproof_cite n m = record { first = n; last = m; sub = true }

-- The text is a range: two numbers in order, with a hyphen between them.
pub record IsRange (text : List ℕ) (first last : ℕ) : Type 0 where
  pub front : List ℕ
  pub back : List ℕ
  pub parted : IsCut 45 text front back
  pub from_line : IsCount front first
  pub to_line : IsCount back last
  pub in_order : first ≤ last

-- The text is the cite: the number of a line, or a range.
pub data IsCite : List ℕ → Cite → Type 0 where
  line : (text : List ℕ) (n : ℕ) → IsCount text n → IsCite text (line_cite n)
  subproof : (text : List ℕ) (n m : ℕ) → IsRange text n m → IsCite text (subproof_cite n m)

-- The text, without the blanks at its ends, is the cite.
abbrev pub IsPart : List ℕ → Cite → Type 0
IsPart text c = IsCite (trimmed text) c

-- The text is the cites with commas between them, at most 64.
pub record AreCites (text : List ℕ) (cites : List Cite) : Type 0 where
  pub each : Beside IsPart (slice_split (λ b. b == 44) text) cites
  pub few : length cites ≤ 64

-- A line with this rule may cite: it is no premise and opens no subproof.
abbrev pub may_cite : Rule → Bool
may_cite r.Premise = false
may_cite r.Assume = false
may_cite r.BoxOnly = false
may_cite _ = true

-- What a line with this rule cites: by the text after its colon, or nothing where it has no colon.
abbrev pub AreCited : Rule → Option (List ℕ) → List Cite → Type 0
AreCited rule None cites = cites ≡ []
AreCited rule (Some text) cites = (may_cite rule ≡ true) × AreCites text cites
