-- A derivation tree read as a whole: its conclusion, its open assumptions, and its nodes.
use Rattle.std.specs.Prelude.{List, [], ◌∷◌, map, Option}
use Rattle.std.specs.List.{flat_map}
use Rattle.fol_core.specs.declared.sent.Sent.{Sent}
use Rattle.fol_core.specs.Word.{Word}
use Rattle.deriv_laws.specs.declared.rule.Rule.{Rule}
use Rattle.deriv_laws.specs.declared.rule.Rule.TheVariants as r
use Rattle.deriv_laws.specs.declared.tree.Tree.{Tree, out-Tree}
use Rattle.deriv_laws.specs.declared.tree.Tree.TheOpen.{Tree-F}
use Rattle.deriv_laws.specs.declared.tree.Tree.TheFolds.{fold-Tree}
use Rattle.deriv_laws.specs.Discharge.{discharged, joined}

-- The conclusion: the sentence at the root.
abbrev pub concl : Tree → Sent
concl t = (out-Tree t).sentence

-- A node, seen with what each of its parts concludes and leaves open, from left to right.
pub record Node : Type 0 where
  pub rule : Rule
  pub boxed : Option Word
  pub concls : List Sent
  pub opens : List (List Sent)
  pub sentence : Sent

-- The assumptions open at a node. At an assumption they are its own sentence, and what parts that
-- it shouldn't have leave open; at every other node, what the parts leave open less what the node
-- discharges in them.
abbrev pub open_at : Node → List Sent
open_at n = elim (n.rule) [ r.Assume ↦ n.sentence ∷ joined n.opens [] | _ ↦ joined n.opens (discharged n.rule n.boxed n.concls n.sentence) ]

-- A tree as its conclusion, its open assumptions, and its nodes in preorder.
pub record Seen : Type 0 where
  pub concl : Sent
  pub opens : List Sent
  pub nodes : List Node

-- The root as a node, over its parts as they are seen.
abbrev pub root_over : Tree-F Seen → Node
root_over x = record { rule = x.rule; boxed = x.boxed; concls = map (λ s. s.concl) x.parts; opens = map (λ s. s.opens) x.parts; sentence = x.sentence }

-- The root's sentence is concluded, its open assumptions are open, and in preorder the root comes
-- before the nodes of its parts, which follow from left to right.
abbrev pub seen_over : Tree-F Seen → Seen
seen_over x = record { concl = x.sentence; opens = open_at (root_over x); nodes = root_over x ∷ flat_map (λ s. s.nodes) x.parts }

-- A tree, seen from its leaves to its root.
unfoldable pub seen : Tree → Seen
seen = fold-Tree Seen seen_over

-- The open assumptions of a tree, from left to right.
unfoldable pub undischarged : Tree → List Sent
undischarged t = (seen t).opens

-- The nodes of a tree in preorder: the root first, then those of each part from left to right.
unfoldable pub nodes : Tree → List Node
nodes t = (seen t).nodes

-- The root as a node.
abbrev pub node_at : Tree → Node
node_at t = let x = out-Tree t in record { rule = x.rule; boxed = x.boxed; concls = map concl x.parts; opens = map undischarged x.parts; sentence = x.sentence }
