-- The recursion equations of what a tree leaves open and of its nodes.
use Rattle.std.proofs.Common.{◌≡◌, List, [], ◌∷◌, ◌++◌, map, refl, ap, ap₂, ◌∙◌}
use Rattle.std.specs.List.{flat_map}
use Rattle.fol_core.specs.declared.sent.Sent.{Sent}
use Rattle.deriv_laws.specs.declared.rule.Rule.{Rule}
use Rattle.deriv_laws.specs.declared.rule.Rule.TheVariants as r
use Rattle.deriv_laws.specs.declared.tree.Tree.{Tree, out-Tree}
use Rattle.deriv_laws.specs.declared.tree.Tree.TheFolds.{fold_out-Tree}
use Rattle.deriv_laws.specs.Discharge.{discharged, joined}
use Rattle.deriv_laws.specs.Trees.{Node, Seen, seen, seen_over, concl, nodes, undischarged, node_at, open_at}

pub concl_seen : (t : Tree) → (seen t).concl ≡ concl t
unfolding seen
concl_seen t = ap (λ (s : Seen). s.concl) (fold_out-Tree Seen seen_over t)

concls_seen : (ts : List Tree) → map (λ (s : Seen). s.concl) (map seen ts) ≡ map concl ts
concls_seen [] = refl
concls_seen (t ∷ ts) = ap₂ ◌∷◌ (concl_seen t) (concls_seen ts)

opens_seen : (ts : List Tree) → map (λ (s : Seen). s.opens) (map seen ts) ≡ map undischarged ts
unfolding undischarged
opens_seen [] = refl
opens_seen (t ∷ ts) = ap (λ os. undischarged t ∷ os) (opens_seen ts)

nodes_seen : (ts : List Tree) → flat_map (λ (s : Seen). s.nodes) (map seen ts) ≡ flat_map nodes ts
unfolding nodes
nodes_seen [] = refl
nodes_seen (t ∷ ts) = ap (λ ns. nodes t ++ ns) (nodes_seen ts)

-- what a tree leaves open is what its root leaves open
pub undischarged_out : (t : Tree) → undischarged t ≡ open_at (node_at t)
unfolding seen undischarged
undischarged_out t =
    ap (λ (s : Seen). s.opens) (fold_out-Tree Seen seen_over t)
    ∙ ap₂ (λ (cs : List Sent) (os : List (List Sent)). open_at (record { rule = (out-Tree t).rule; boxed = (out-Tree t).boxed; concls = cs; opens = os; sentence = (out-Tree t).sentence }))
    (concls_seen (out-Tree t).parts) (opens_seen (out-Tree t).parts)

-- the nodes of a tree are its root, and then the nodes of its parts
pub nodes_out : (t : Tree) → nodes t ≡ node_at t ∷ flat_map nodes (out-Tree t).parts
unfolding seen nodes
nodes_out t =
    ap (λ (s : Seen). s.nodes) (fold_out-Tree Seen seen_over t)
    ∙ ap₂ ◌∷◌
    (ap₂ (λ (cs : List Sent) (os : List (List Sent)). let n : Node = record { rule = (out-Tree t).rule; boxed = (out-Tree t).boxed; concls = cs; opens = os; sentence = (out-Tree t).sentence } in n)
    (concls_seen (out-Tree t).parts) (opens_seen (out-Tree t).parts))
    (nodes_seen (out-Tree t).parts)

-- at every rule but Assume, what the parts leave open, less what is discharged, is open
pub open_other_at : (rule : Rule) (n : Node) → (rule ≡ r.Assume → ⊥) → open_at (record n { rule = rule }) ≡ joined n.opens (discharged rule n.boxed n.concls n.sentence)
open_other_at r.Assume n h = absurd (h refl)
open_other_at _ n h = refl
