use Rattle.std.proofs.Common.{take}
use Rattle.worlds.specs.Assignments.{put}
use Rattle.world_truth.specs.inside.Bound.{standing}
use Rattle.world_truth.specs.inside.Tables.{AreExtensions, joined}
use Rattle.worlds.specs.Truth.{val}
use Rattle.worlds.specs.Worlds.{numbers}
use Rattle.world_truth.proofs.extension.+extension.Given as goal

abbrev pub invariant-tabulate_joined-loop-part : goal.invariant-tabulate_joined-loop-part
invariant-tabulate_joined-loop-part l = AreExtensions l.extent.columns l.extent.rows (λ r k. joined l.junction (val l.world (standing l.bound l.world r k)) (take l.part-index l.parts)) l.table

abbrev pub invariant-tabulate_by_turns-loop-before : goal.invariant-tabulate_by_turns-loop-before
invariant-tabulate_by_turns-loop-before l = AreExtensions l.extent.columns l.extent.rows (λ r k. joined l.junction (λ m. val l.world (put l.x m (standing l.bound l.world r k)) l.part) (take l.before (numbers l.world))) l.table
