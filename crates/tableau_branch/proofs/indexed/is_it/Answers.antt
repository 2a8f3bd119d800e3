use Rattle.std.proofs.Common.{sym, ◌∙◌}
use Rattle.tableau_branch.proofs.Indexing.{alike_is, signed_alike}
use Rattle.tableau_branch.proofs.indexed.is_it.Goals as goal

pub returns-then-item : goal.returns-then-item
returns-then-item c = record { value = signed_alike _ _ _ _ (alike_is c.same.result _ _ c.same.ensures.value) (c.if-holds.true ∙ sym c.if-item.true) }

pub returns-then-not-item : goal.returns-then-not-item
returns-then-not-item c = record { value = signed_alike _ _ _ _ (alike_is c.same-then-not-item.result _ _ c.same-then-not-item.ensures.value) (c.if-holds.false ∙ sym c.if-not-item.true) }
