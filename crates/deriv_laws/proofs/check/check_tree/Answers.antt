use Rattle.std.proofs.Common.{◌+◌, Err, ap, arith}
use Rattle.deriv_laws.specs.declared.tree.TreeFault.TheVariants as fault
use Rattle.deriv_laws.specs.Trees.{nodes}
use Rattle.deriv_laws.specs.Valid.{IsValid}
use Rattle.deriv_laws.proofs.Lists.{if_ok}
use Rattle.deriv_laws.proofs.Showing.{shows}
use Rattle.deriv_laws.proofs.Scanning.{bad_within, bad_unique, none_bad}
use Rattle.deriv_laws.proofs.check.check_tree.Goals as goal

pub overflow_add-result : goal.overflow_add-result
overflow_add-result c =
    let within = bad_within (nodes c.args.tree.now) c.in-Err.place (c.in-Err.ensures.scanned c.requires) in
    omega arith

pub returns-in-Ok-clause-valid : goal.returns-in-Ok-clause-valid
returns-in-Ok-clause-valid c = if_ok c.answer.result (IsValid c.args.tree.now) ((c.in-Ok.ensures.scanned c.requires).0)

pub returns-in-Ok-clause-refused : goal.returns-in-Ok-clause-refused
returns-in-Ok-clause-refused c = λ j b. absurd (none_bad (nodes c.args.tree.now) j (c.in-Ok.ensures.scanned c.requires).0 b)

pub returns-in-Err-clause-refused : goal.returns-in-Err-clause-refused
returns-in-Err-clause-refused c = λ j b. ap (λ k. Err (fault.BadNode (k + 1))) (bad_unique (nodes c.args.tree.now) c.in-Err.place j (c.in-Err.ensures.scanned c.requires) b)

pub returns-in-Ok-clause-derives : goal.returns-in-Ok-clause-derives
returns-in-Ok-clause-derives c = shows c.answer.result c.args.tree.now (c.in-Ok.ensures.scanned c.requires).0 c.answer.ensures.conclusion c.answer.ensures.assumptions
