-- The size of terms and sentences: how deep they are, how many nodes they have, and the limits of both.
use Rattle.std.specs.Prelude.{ℕ, ◌+◌, max, List, [], ◌∷◌, map, nat_lt, Result, Ok, Err, if◌then◌else◌}
use Rattle.fol_core.specs.declared.sent.SentFault.{SentFault}
use Rattle.fol_core.specs.declared.sent.SentFault.TheVariants.{TooDeep, TooMany}
use Rattle.fol_core.specs.declared.sent.Term.{Term}
use Rattle.fol_core.specs.declared.sent.Term.TheOpen.{Term-F}
use Rattle.fol_core.specs.declared.sent.Term.TheOpen as t
use Rattle.fol_core.specs.declared.sent.Term.TheFolds.{fold-Term}
use Rattle.fol_core.specs.declared.sent.Sent.{Sent}
use Rattle.fol_core.specs.declared.sent.Sent.TheOpen.{Sent-F}
use Rattle.fol_core.specs.declared.sent.Sent.TheOpen as f
use Rattle.fol_core.specs.declared.sent.Sent.TheFolds.{fold-Sent}

-- The greatest of the numbers, and 0 of none.
abbrev pub greatest : List ℕ → ℕ
greatest [] = 0
greatest (n ∷ ns) = max n (greatest ns)

-- The sum of the numbers.
abbrev pub total : List ℕ → ℕ
total [] = 0
total (n ∷ ns) = n + total ns

-- One form of term: a function is one deeper than its deepest argument, and nothing lies in a variable or a name.
abbrev pub term_depth_step : Term-F ℕ → ℕ
term_depth_step (t.Var x) = 0
term_depth_step (t.Name n) = 0
term_depth_step (t.App g ds) = 1 + greatest ds

-- The depth of a term: how many functions lie in one another.
abbrev pub term_depth : Term → ℕ
term_depth = fold-Term ℕ term_depth_step

-- One form of term is one node more than its arguments are together.
abbrev pub term_nodes_step : Term-F ℕ → ℕ
term_nodes_step (t.Var x) = 1
term_nodes_step (t.Name n) = 1
term_nodes_step (t.App g ns) = 1 + total ns

-- The number of nodes of a term: it and the terms in it, each once where it stands.
abbrev pub term_nodes : Term → ℕ
term_nodes = fold-Term ℕ term_nodes_step

-- One form of sentence is one deeper than its deepest part or term; without parts and terms it has depth 1.
abbrev pub depth_step : Sent-F ℕ → ℕ
depth_step (f.Atom p ts) = 1 + greatest (map term_depth ts)
depth_step (f.Eq a b) = 1 + max (term_depth a) (term_depth b)
depth_step f.Bottom = 1
depth_step (f.Not d) = 1 + d
depth_step (f.And ds) = 1 + greatest ds
depth_step (f.Or ds) = 1 + greatest ds
depth_step (f.If d e) = 1 + max d e
depth_step (f.Iff d e) = 1 + max d e
depth_step (f.All x d) = 1 + d
depth_step (f.Ex x d) = 1 + d

-- The depth of a sentence: how many sentences and functions lie in one another, itself and an atomic one among them.
abbrev pub depth : Sent → ℕ
depth = fold-Sent ℕ depth_step

-- One form of sentence is one node more than its terms and its parts are together.
abbrev pub nodes_step : Sent-F ℕ → ℕ
nodes_step (f.Atom p ts) = 1 + total (map term_nodes ts)
nodes_step (f.Eq a b) = 1 + term_nodes a + term_nodes b
nodes_step f.Bottom = 1
nodes_step (f.Not n) = 1 + n
nodes_step (f.And ns) = 1 + total ns
nodes_step (f.Or ns) = 1 + total ns
nodes_step (f.If m n) = 1 + m + n
nodes_step (f.Iff m n) = 1 + m + n
nodes_step (f.All x n) = 1 + n
nodes_step (f.Ex x n) = 1 + n

-- The number of nodes of a sentence: it, the sentences in it and the terms in them, each once where it stands.
abbrev pub nodes : Sent → ℕ
nodes = fold-Sent ℕ nodes_step

-- A sentence is too deep past depth 60, and else has too many nodes past 400.
abbrev pub within_limits : Sent → Result Unit SentFault
within_limits s = if nat_lt 60 (depth s) then Err TooDeep else (if nat_lt 400 (nodes s) then Err TooMany else Ok tt)
