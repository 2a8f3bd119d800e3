-- Valid derivations.
use Rattle.std.specs.Prelude.{IsTrue}
use Rattle.std.specs.List.{AllByRecursion}
use Rattle.fol_core.specs.Statements.{statement}
use Rattle.deriv_laws.specs.declared.tree.Tree.{Tree}
use Rattle.deriv_laws.specs.Rows.{Row}
use Rattle.deriv_laws.specs.Eigen.{IsEigen}
use Rattle.deriv_laws.specs.Trees.{Node, nodes}

-- A node is in order where its sentence is a statement, it follows from its parts by its rule, and its boxed constant meets
-- the eigenconstant condition. So each sentence of a valid tree is a statement: closed, and of the form that a text can spell
-- but for the kinds of words and the places of block predicates, of which no rule makes use.
pub record Meets (n : Node) : Type 0 where
  pub stated : IsTrue (statement n.sentence)
  pub row : Row n.rule n.boxed n.concls n.sentence
  pub eigen : IsEigen n.rule n.boxed n.concls n.opens n.sentence

-- A tree is valid where each of its nodes is in order.
abbrev pub IsValid : Tree → Type 0
IsValid t = AllByRecursion Meets (nodes t)
