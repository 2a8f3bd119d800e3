use Rattle.std.proofs.Common.{sym, ◌∙◌}
use Rattle.worlds.specs.Scales.{measure_of}
use Rattle.worlds.proofs.Scaling.{on_scale, off_scale}
use Rattle.worlds.proofs.board.World.below.Goals as goal

pub returns-in-Some : goal.returns-in-Some
returns-in-Some c =
    record { value = on_scale c.args.self.now (measure_of c.args.measure) c.args.number c.scale.result.now c.in-Some.set c.scale.ensures.value (sym c.set_at.ensures.value ∙ c.in-Some.is) }

pub returns-in-None : goal.returns-in-None
returns-in-None c =
    record { value = off_scale c.args.self.now (measure_of c.args.measure) c.args.number c.scale.result.now c.scale.ensures.value (sym c.set_at.ensures.value ∙ c.in-None.is) }
