use Rattle.std.proofs.Common.{ℕ, ◌+◌, ◌≤◌, List, length}
use Rattle.std.specs.Str.Lines.{lines}
use Rattle.physical_lines.specs.Leading.{LeadsTo}
use Rattle.physical_lines.specs.Physical.{AreBlank, ComesFirst}
use Rattle.physical_lines.proofs.physical.first_line.Given as goal

abbrev pub invariant-loop-line : goal.invariant-loop-line
invariant-loop-line l = record {
  counted : l.place + length l.rest ≤ length l.text;
  comes : (n : ℕ) (line : List ℕ) (rest : List (List ℕ)) → ComesFirst (l.place + 1) (lines l.rest) n line rest → ComesFirst 1 (lines l.text) n line rest;
  leads : (n : ℕ) (line rest : List ℕ) → LeadsTo (l.place + 1) l.rest n line rest → LeadsTo 1 l.text n line rest;
  blank : AreBlank (lines l.rest) → AreBlank (lines l.text);
}

abbrev pub decreases-loop-line : goal.decreases-loop-line
decreases-loop-line l = length l.rest
