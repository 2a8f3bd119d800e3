use Rattle.std.proofs.Common.{rules}
use Rattle.deriv_laws.specs.declared.discharge.Dropped.{the_lemmas}
use Rattle.deriv_laws.specs.Trees.{undischarged}
use Rattle.deriv_laws.proofs.Discharging.{from_nothing}
use Rattle.deriv_laws.proofs.check.read_off.Goals as goal

pub returns-clause-assumptions : goal.returns-clause-assumptions
returns-clause-assumptions c =
    from_nothing c.new-assumptions.result c.put_open.new.assumptions (undischarged c.args.tree.now) _ (search (rules, the_lemmas)) c.new-assumptions.ensures.empty c.in_ok-put_open.ensures.added
