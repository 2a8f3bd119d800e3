-- Derivability.
use Rattle.std.specs.Prelude.{◌≡◌, List, Contains}
use Rattle.std.specs.List.{AllByRecursion}
use Rattle.fol_core.specs.declared.sent.Sent.{Sent}
use Rattle.deriv_laws.specs.declared.tree.Tree.{Tree}
use Rattle.deriv_laws.specs.Trees.{concl, undischarged}
use Rattle.deriv_laws.specs.Valid.{IsValid}

-- `Der gs p`, usually written with a turnstile: some valid tree concludes p, and each of its open
-- assumptions is one of gs.
pub record Der (gs : List Sent) (p : Sent) : Type 0 where
  pub tree : Tree
  pub valid : IsValid tree
  pub concludes : concl tree ≡ p
  pub within : AllByRecursion (λ s. Contains gs s) (undischarged tree)
