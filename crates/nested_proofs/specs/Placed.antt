-- The lines of a nested proof, each with what stands around it.
use Rattle.std.specs.Prelude.{ℕ, ◌+◌, List, [], ◌∷◌, ◌++◌, Option, Some, None}
use Rattle.fol_core.specs.declared.sent.Sent.{Sent}
use Rattle.fol_core.specs.Word.{Word}
use Rattle.deriv_laws.specs.declared.line.FlatLine.{FlatLine}
use Rattle.nested_proofs.specs.Items.{Opening, Items, Done, Step, Sub, box_of, assumption_of, step_line, opening_line, size}
use Rattle.nested_proofs.specs.Scope.{Subproof, Scope, prepend}

-- The last sentence of the items' own list, past all subproofs in it; where there is none, the one before the items.
abbrev pub last_of : Option Sent → Items → Option Sent
last_of before Done = before
last_of before (Step s rule cites rest) = last_of (Some s) rest
last_of before (Sub o body rest) = last_of before rest

-- The subproof whose first line has this number, as it is cited once it is closed. Without items of
-- its own it ends in its assumption.
abbrev pub subproof_from : ℕ → Opening → Items → Subproof
subproof_from k o body = record { first = k; last = k + size body; boxed = box_of o; hypothesis = assumption_of o; conclusion = last_of (assumption_of o) body }

-- The scope with one sentence more.
abbrev pub with_sentence : ℕ → Sent → Scope → Scope
with_sentence k s sc = record { sentences = record { number = k; sentence = s } ∷ sc.sentences; subproofs = sc.subproofs }

-- The scope with an assumption more, where there is one.
abbrev pub with_assumption : ℕ → Option Sent → Scope → Scope
with_assumption k None sc = sc
with_assumption k (Some p) sc = with_sentence k p sc

-- The scope with one closed subproof more.
abbrev pub with_subproof : Subproof → Scope → Scope
with_subproof b sc = record { sentences = sc.sentences; subproofs = b ∷ sc.subproofs }

-- What stands around an item: what may be cited there, and the assumptions and the boxed constants
-- of the subproofs that it stands in, the innermost first.
pub record Around : Type 0 where
  pub scope : Scope
  pub assumed : List Sent
  pub boxes : List Word

-- Around the first item of a proof stands nothing.
abbrev pub outside : Around
outside = record { scope = record { sentences = []; subproofs = [] }; assumed = []; boxes = [] }

-- Around the items after a step, its sentence may be cited.
abbrev pub after_step : ℕ → Sent → Around → Around
after_step k s a = record { scope = with_sentence k s a.scope; assumed = a.assumed; boxes = a.boxes }

-- Around the items of a subproof, its assumption may be cited, and its assumption and its box are open.
abbrev pub inside : ℕ → Opening → Around → Around
inside k o a = record { scope = with_assumption k (assumption_of o) a.scope; assumed = prepend (assumption_of o) a.assumed; boxes = prepend (box_of o) a.boxes }

-- Around the items after a subproof, it may be cited as a whole, and nothing in it may.
abbrev pub after_sub : ℕ → Opening → Items → Around → Around
after_sub k o body a = record { scope = with_subproof (subproof_from k o body) a.scope; assumed = a.assumed; boxes = a.boxes }

-- A line with its number and what stands around it; for an opening line, what stands around its subproof.
pub record Placed : Type 0 where
  pub number : ℕ
  pub line : FlatLine
  pub around : Around

-- The lines of the items of a list at depth d, numbered from k on, each with what stands around it.
abbrev pub placed : Around → ℕ → ℕ → Items → List Placed
placed a k d Done = []
placed a k d (Step s rule cites rest) = record { number = k; line = step_line d s rule cites; around = a } ∷ placed (after_step k s a) (k + 1) d rest
placed a k d (Sub o body rest) =
    record { number = k; line = opening_line (d + 1) o; around = a }
    ∷ placed (inside k o a) (k + 1) (d + 1) body ++ placed (after_sub k o body a) (k + 1 + size body) d rest

-- The lines of a whole proof, numbered from 1.
abbrev pub lines_of : Items → List Placed
lines_of items = placed outside 1 1 items
