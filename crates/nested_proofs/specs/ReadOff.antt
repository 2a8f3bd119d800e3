-- What the cites of a line name, read off the flat lines. Where the cites are visible, this is what they find in scope.
use Rattle.std.specs.Prelude.{ℕ, ◌-◌, ◌<◌, ◌≤◌, if◌then◌else◌, List, [], ◌∷◌, take, drop, slice_get, Option, Some, None}
use Rattle.fol_core.specs.declared.sent.Sent.{Sent}
use Rattle.deriv_laws.specs.declared.line.Cite.{Cite}
use Rattle.deriv_laws.specs.declared.line.FlatLine.{FlatLine}
use Rattle.nested_proofs.specs.Scope.{Subproof, prepend}
use Rattle.nested_proofs.specs.Levels.{last_at}

-- The cite's numbers are those of lines, in order. There are so many lines.
pub record IsWithin (n : ℕ) (c : Cite) : Type 0 where
  pub from_one : 0 < c.first
  pub in_order : c.first ≤ c.last
  pub to_last : c.last ≤ n

-- The sentence of the line.
abbrev pub stated_by : Option FlatLine → Option Sent
stated_by None = None
stated_by (Some l) = l.sentence

-- The sentence of line i.
abbrev pub stated_at : List FlatLine → ℕ → Option Sent
stated_at lines i = stated_by (slice_get lines (i - 1))

-- The sentence that a subproof ends in, where it begins with line l and has these lines after it.
abbrev pub ends_in : FlatLine → List FlatLine → Option Sent
ends_in l inner = last_at l.depth l.sentence inner

-- The subproof from line n, which is this one, to line m.
abbrev pub begun_by : List FlatLine → ℕ → ℕ → Option FlatLine → Option Subproof
begun_by lines n m None = None
begun_by lines n m (Some l) = Some (record { first = n; last = m; boxed = l.boxed; hypothesis = l.sentence; conclusion = ends_in l (take (m - n) (drop n lines)) })

-- The subproof from line n to line m.
abbrev pub subproof_between : List FlatLine → ℕ → ℕ → Option Subproof
subproof_between lines n m = begun_by lines n m (slice_get lines (n - 1))

-- The sentences of the cited lines, in the order of the cites.
abbrev pub sentences_read : List FlatLine → List Cite → List Sent
sentences_read lines [] = []
sentences_read lines (c ∷ cs) = if c.sub then sentences_read lines cs else prepend (stated_at lines c.first) (sentences_read lines cs)

-- The cited subproofs, in the order of the cites.
abbrev pub subproofs_read : List FlatLine → List Cite → List Subproof
subproofs_read lines [] = []
subproofs_read lines (c ∷ cs) = if c.sub then prepend (subproof_between lines c.first c.last) (subproofs_read lines cs) else subproofs_read lines cs

-- The sentence that the subproof, where there is one, ends in.
abbrev pub concluded_by : Option Subproof → Option Sent
concluded_by None = None
concluded_by (Some b) = b.conclusion
