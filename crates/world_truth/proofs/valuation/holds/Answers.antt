use Rattle.std.proofs.Common.{sym, arith}
use Rattle.worlds.specs.Predicates.{predicate_of}
use Rattle.worlds.specs.Assignments.{block_of, own_names}
use Rattle.world_truth.specs.Places.{given}
use Rattle.world_truth.proofs.Saying.{many_places}
use Rattle.world_truth.proofs.valuation.holds.Goals as goal

pub returns-in_default-terms-2 : goal.returns-in_default-terms-2
returns-in_default-terms-2 c = record {
  value = sym (many_places (predicate_of c.args.p.now) (block_of c.args.world.now (given c.args.places.now (own_names c.args.world.now))) c.args.terms.now (omega (arith, c.in_default-terms.len_at_least)));
}
