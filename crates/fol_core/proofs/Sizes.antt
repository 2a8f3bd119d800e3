-- The sizes of each form of sentence.
use Rattle.std.proofs.Common.{◌≡◌, ◌+◌, max, List, map, rules}
use Rattle.fol_core.specs.declared.sent.Term.{Term}
use Rattle.fol_core.specs.declared.sent.Sent.{Sent, the_lemmas}
use Rattle.fol_core.specs.declared.sent.Sent.TheVariants as s
use Rattle.fol_core.specs.Word.{Word}
use Rattle.fol_core.specs.Size.{greatest, total, depth, nodes, term_depth, term_nodes}

pub depth_atom : (p : Word) (ts : List Term) → depth (s.Atom p ts) ≡ 1 + greatest (map term_depth ts)
depth_atom p ts = search (rules, the_lemmas)

pub depth_eq : (a b : Term) → depth (s.Eq a b) ≡ 1 + max (term_depth a) (term_depth b)
depth_eq a b = search (rules, the_lemmas)

pub depth_bottom : depth s.Bottom ≡ 1
depth_bottom = search (rules, the_lemmas)

pub depth_not : (p : Sent) → depth (s.Not p) ≡ 1 + depth p
depth_not p = search (rules, the_lemmas)

pub depth_and : (ps : List Sent) → depth (s.And ps) ≡ 1 + greatest (map depth ps)
depth_and ps = search (rules, the_lemmas)

pub depth_or : (ps : List Sent) → depth (s.Or ps) ≡ 1 + greatest (map depth ps)
depth_or ps = search (rules, the_lemmas)

pub depth_if : (p q : Sent) → depth (s.If p q) ≡ 1 + max (depth p) (depth q)
depth_if p q = search (rules, the_lemmas)

pub depth_iff : (p q : Sent) → depth (s.Iff p q) ≡ 1 + max (depth p) (depth q)
depth_iff p q = search (rules, the_lemmas)

pub depth_all : (x : Word) (p : Sent) → depth (s.All x p) ≡ 1 + depth p
depth_all x p = search (rules, the_lemmas)

pub depth_ex : (x : Word) (p : Sent) → depth (s.Ex x p) ≡ 1 + depth p
depth_ex x p = search (rules, the_lemmas)

pub nodes_atom : (p : Word) (ts : List Term) → nodes (s.Atom p ts) ≡ 1 + total (map term_nodes ts)
nodes_atom p ts = search (rules, the_lemmas)

pub nodes_eq : (a b : Term) → nodes (s.Eq a b) ≡ 1 + term_nodes a + term_nodes b
nodes_eq a b = search (rules, the_lemmas)

pub nodes_bottom : nodes s.Bottom ≡ 1
nodes_bottom = search (rules, the_lemmas)

pub nodes_not : (p : Sent) → nodes (s.Not p) ≡ 1 + nodes p
nodes_not p = search (rules, the_lemmas)

pub nodes_and : (ps : List Sent) → nodes (s.And ps) ≡ 1 + total (map nodes ps)
nodes_and ps = search (rules, the_lemmas)

pub nodes_or : (ps : List Sent) → nodes (s.Or ps) ≡ 1 + total (map nodes ps)
nodes_or ps = search (rules, the_lemmas)

pub nodes_if : (p q : Sent) → nodes (s.If p q) ≡ 1 + nodes p + nodes q
nodes_if p q = search (rules, the_lemmas)

pub nodes_iff : (p q : Sent) → nodes (s.Iff p q) ≡ 1 + nodes p + nodes q
nodes_iff p q = search (rules, the_lemmas)

pub nodes_all : (x : Word) (p : Sent) → nodes (s.All x p) ≡ 1 + nodes p
nodes_all x p = search (rules, the_lemmas)

pub nodes_ex : (x : Word) (p : Sent) → nodes (s.Ex x p) ≡ 1 + nodes p
nodes_ex x p = search (rules, the_lemmas)
