-- Fresh constants: those that may be boxed.
use Rattle.std.specs.Prelude.{◌≡◌, false, List, Contains, Option, Some, None}
use Rattle.std.specs.List.{AllByRecursion}
use Rattle.fol_core.specs.declared.sent.Sent.{Sent}
use Rattle.fol_core.specs.Word.{Word}
use Rattle.fol_core.specs.Subst.{occurs}
use Rattle.nested_proofs.specs.Scope.{Numbered}
use Rattle.nested_proofs.specs.Placed.{Around}

-- A constant is fresh at a line where it occurs in no premise, in no sentence that may be cited there,
-- and is no boxed constant of a subproof that the line stands in.
pub record IsFresh (premises : List Sent) (a : Around) (c : Word) : Type 0 where
  pub premises_free : AllByRecursion (λ p. occurs c p ≡ false) premises
  pub scope_free : AllByRecursion (λ (x : Numbered). occurs c x.sentence ≡ false) a.scope.sentences
  pub boxes_free : Contains a.boxes c → ⊥

-- The boxed constant, where there is one, is fresh.
abbrev pub HasFreshBox : List Sent → Around → Option Word → Type 0
HasFreshBox premises a None = Unit {0}
HasFreshBox premises a (Some c) = IsFresh premises a c
