use Rattle.std.proofs.Common.{length, sym, ◌∙◌, ap}
use Rattle.std.proofs.lemmas.Bool.{le-ltb}
use Rattle.tableau_laws.specs.declared.literal.Literal.{Literal as Signed}
use Rattle.tableau_laws.specs.Branch.{same_signed}
use Rattle.tableau_branch.proofs.Indexing.{at_get, past_end}
use Rattle.tableau_branch.proofs.indexed.is_there.Goals as goal

pub returns-then-place-items : goal.returns-then-place-items
returns-then-place-items c =
    let l : Signed = record { holds = c.args.holds; sentence = c.args.s.now } in
    record { value = c.is_it.ensures.value ∙ ap (same_signed l) c.index-items-place.is ∙ sym (at_get c.args.items.now l c.index-items-place.result c.args.place c.if-place-items.true) }

pub returns-else-place-items : goal.returns-else-place-items
returns-else-place-items c =
    let l : Signed = record { holds = c.args.holds; sentence = c.args.s.now } in
    record { value = le-ltb c.args.place (length c.args.items.now) c.if-place-items.false ∙ sym (past_end c.args.items.now l c.args.place c.if-place-items.false) }
