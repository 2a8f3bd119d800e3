use Rattle.std.proofs.Common.{◌≡◌, sym, ap, subst}
use Rattle.tutor_app.specs.Running.{RunsAs}
use Rattle.tutor_app.specs.Words.{request_of}
use Rattle.tutor_app.specs.declared.words.Command.{Command}
use Rattle.tutor_app.proofs.tutor.run.Goals as goal

pub returns-in-World-clause-runs : goal.returns-in-World-clause-runs
returns-in-World-clause-runs g c =
    subst (λ (command : Command). RunsAs (request_of command) (g.F.Shelf.texts c.args.shelf.now) (c.run_world.new.input ≡ c.args.input.now) (g.S.Source.left c.args.input.now) (g.S.Source.left c.run_world.new.input)
    (g.W.Sink.taken c.args.output.now) (g.W.Sink.taken c.run_world.new.output) c.run_world.result) (sym c.in-World.is) c.run_world.ensures.runs

pub returns-in-World-clause-shelf_idle : goal.returns-in-World-clause-shelf_idle
returns-in-World-clause-shelf_idle g c = λ idle. absurd (idle c.in-World.name.now (ap request_of c.in-World.is))
