-- What a scan of the nodes finds, and what an tree leaves open.
use Rattle.std.proofs.Common.{◌≡◌, ℕ, zero, suc, ◌+◌, ◌<◌, List, [], ◌∷◌, ◌++◌, length, map, take, get_or, refl, ap, sym, ◌∙◌, Ok, arith, length-append, zero-add, add-one, add_assoc}
use native.Mathlib.Nat.{suc-add}
use Rattle.std.specs.List.{flat_map, AllByRecursion}
use Rattle.deriv_laws.specs.declared.rule.Rule.{Rule}
use Rattle.deriv_laws.specs.declared.rule.Rule.TheVariants as r
use Rattle.deriv_laws.specs.declared.tree.Tree.{Tree, out-Tree}
use Rattle.deriv_laws.specs.Discharge.{discharged, joined}
use Rattle.deriv_laws.specs.Trees.{Node, nodes, undischarged, node_at, open_at}
use Rattle.deriv_laws.specs.Valid.{Meets}
use Rattle.deriv_laws.specs.Scan.{IsFirstBad, IsScan}
use Rattle.deriv_laws.proofs.Lists.{all_both, all_left, all_right, flat_more}
use Rattle.deriv_laws.proofs.Equations.{nodes_out, undischarged_out, open_other_at}

later_bad : (ms ns : List Node) (k : ℕ) → AllByRecursion Meets ms → IsFirstBad ns k → IsFirstBad (ms ++ ns) (length ms + k)
later_bad [] ns k a b = rw (zero-add k) b
later_bad (m ∷ ms) ns k a b = rw (suc-add (length ms) k) (a.0, later_bad ms ns k a.1 b)

first_bad : (ms ns : List Node) (k : ℕ) → IsFirstBad ms k → IsFirstBad (ms ++ ns) k
first_bad [] ns k a = absurd a
first_bad (m ∷ ms) ns zero a = a
first_bad (m ∷ ms) ns (suc k) a = (a.0, first_bad ms ns k a.1)

pub bad_within : (ms : List Node) (k : ℕ) → IsFirstBad ms k → k < length ms
bad_within [] k a = absurd a
bad_within (m ∷ ms) zero a = omega arith
bad_within (m ∷ ms) (suc k) a = omega (arith, bad_within ms k a.1)

-- the first bad node of a part is the first of all, where the parts before it have none
pub bad_part : (ts : List Tree) (i : ℕ) (t : Tree) (k : ℕ) → i < length ts → t ≡ get_or ts i t →
    AllByRecursion Meets (flat_map nodes (take i ts)) → IsFirstBad (nodes t) k → IsFirstBad (flat_map nodes ts) (length (flat_map nodes (take i ts)) + k)
bad_part [] i t k h e a b = absurd (omega arith)
bad_part (u ∷ ts) zero t k h e a b = rw (zero-add k) (first_bad (nodes u) (flat_map nodes ts) k (rw e at b))
bad_part (u ∷ ts) (suc i) t k h e a b =
    rw (length-append (nodes u) (flat_map nodes (take i ts)), add_assoc (length (nodes u)) (length (flat_map nodes (take i ts))) k)
    (later_bad (nodes u) (flat_map nodes ts) (length (flat_map nodes (take i ts)) + k) (all_left Meets (nodes u) (flat_map nodes (take i ts)) a)
    (bad_part ts i t k (omega arith) e (all_right Meets (nodes u) (flat_map nodes (take i ts)) a) b))

-- the count of the parts so far, and of one more
pub scan_more : (ts : List Tree) (i : ℕ) (t : Tree) (before count : ℕ) → i < length ts → t ≡ get_or ts i t →
    IsScan (flat_map nodes (take i ts)) (Ok before) → IsScan (nodes t) (Ok count) → IsScan (flat_map nodes (take (i + 1) ts)) (Ok (before + count))
scan_more ts i t before count h e a b =
    rw (flat_more nodes ts i t h e)
    (all_both Meets (flat_map nodes (take i ts)) (nodes t) a.0 b.0, omega (arith, a.1, b.1, length-append (flat_map nodes (take i ts)) (nodes t)))

pub count_out : (t : Tree) → length (nodes t) ≡ 1 + length (flat_map nodes (out-Tree t).parts)
count_out t = rw (nodes_out t) (omega arith)

-- what the test of the root and the scan of the parts make
pub root_bad : (t : Tree) → (Meets (node_at t) → ⊥) → IsFirstBad (nodes t) 0
root_bad t h = rw (nodes_out t) h

pub root_counts : (t : Tree) (count : ℕ) → Meets (node_at t) → IsScan (flat_map nodes (out-Tree t).parts) (Ok count) → IsScan (nodes t) (Ok (count + 1))
root_counts t count m h = rw (nodes_out t) ((m, h.0), omega (arith, h.1))

pub root_later : (t : Tree) (k : ℕ) → Meets (node_at t) → IsFirstBad (flat_map nodes (out-Tree t).parts) k → IsFirstBad (nodes t) (k + 1)
root_later t k m h = rw (nodes_out t) (rw (add-one k) (m, h))

-- where all nodes are in order, none is the first bad one
pub none_bad : (ns : List Node) (k : ℕ) → AllByRecursion Meets ns → IsFirstBad ns k → ⊥
none_bad [] k a b = b
none_bad (n ∷ ns) zero a b = b a.0
none_bad (n ∷ ns) (suc k) a b = none_bad ns k a.1 b.1

-- there is at most one first bad node
pub bad_unique : (ns : List Node) (j k : ℕ) → IsFirstBad ns j → IsFirstBad ns k → j ≡ k
bad_unique [] j k a b = absurd a
bad_unique (n ∷ ns) zero zero a b = refl
bad_unique (n ∷ ns) zero (suc k) a b = absurd (a b.0)
bad_unique (n ∷ ns) (suc j) zero a b = absurd (b a.0)
bad_unique (n ∷ ns) (suc j) (suc k) a b = ap suc (bad_unique ns j k a.1 b.1)

-- an assumption leaves itself open, and what its parts do
pub open_assume : (t : Tree) → (out-Tree t).rule ≡ r.Assume →
    undischarged t ≡ (out-Tree t).sentence ∷ joined (map undischarged (out-Tree t).parts) (discharged (node_at t).rule (node_at t).boxed (node_at t).concls (node_at t).sentence)
open_assume t e =
    undischarged_out t ∙ ap (λ (rule : Rule). open_at (record (node_at t) { rule = rule })) e
    ∙ ap (λ (rule : Rule). (out-Tree t).sentence ∷ joined (map undischarged (out-Tree t).parts) (discharged rule (node_at t).boxed (node_at t).concls (node_at t).sentence)) (sym e)

-- any other node leaves open what its parts do, less what it discharges
pub open_other : (t : Tree) → ((out-Tree t).rule ≡ r.Assume → ⊥) → undischarged t ≡ joined (map undischarged (out-Tree t).parts) (discharged (node_at t).rule (node_at t).boxed (node_at t).concls (node_at t).sentence)
open_other t h = undischarged_out t ∙ open_other_at (out-Tree t).rule (node_at t) h
