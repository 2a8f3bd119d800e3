use Rattle.std.proofs.Common.{◌+◌, drop, sym, ◌∙◌}
use Rattle.boole_table.specs.Judges.{unset}
use Rattle.boole_table.proofs.Scanning.{unset_at}
use Rattle.boole_table.proofs.rows.first_missing.Goals as goal

pub returns-then-not-seen-index : goal.returns-then-not-seen-index
returns-then-not-seen-index c = record {
  value = (unset (c.loop-index.index + 1 + 1) (drop (c.loop-index.index + 1) c.args.seen.now), sym c.loop-index.invariant ∙ unset_at c.args.seen.now c.loop-index.index c.loop-index-test.true c.if-not-seen-index.true);
}
