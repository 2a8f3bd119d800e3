use Rattle.std.proofs.Common.{◌≡◌, sym, subst}
use Rattle.tutor_app.specs.Running.{RunsAs}
use Rattle.tutor_app.specs.Words.{Request, to_check, nothing, request_of, NamesNoText}
use Rattle.tutor_app.proofs.Asking.{asked_once, runs_on}
use Rattle.tutor_app.proofs.CheckReplies.{reads_tree}
use Rattle.tutor_app.proofs.tutor.tutor.Goals as goal

pub returns-clause-runs : goal.returns-clause-runs
returns-clause-runs g c = λ asked h.
    subst (λ (r : Request). RunsAs r (g.F.Shelf.texts c.args.shelf.now) (c.run-code.new.input ≡ c.args.input.now) (g.S.Source.left c.args.input.now) (g.S.Source.left c.run-code.new.input)
    (g.W.Sink.taken c.args.output.now) (g.W.Sink.taken c.run-code.new.output) c.run-code.result)
    (asked_once c.args.words.now (request_of c.command_of-command.result) asked c.command_of-command.ensures.asked h) c.run-code.ensures.runs

pub returns-clause-told : goal.returns-clause-told
returns-clause-told g c = λ asked h bytes e.
    runs_on asked (g.F.Shelf.texts c.args.shelf.now) (c.run-code.new.input ≡ c.args.input.now) bytes (g.S.Source.left c.args.input.now) (g.S.Source.left c.run-code.new.input)
    (g.W.Sink.taken c.args.output.now) (g.W.Sink.taken c.run-code.new.output) c.run-code.result e (returns-clause-runs g c asked h)

pub returns-clause-proved : goal.returns-clause-proved
returns-clause-proved g c = λ e.
    reads_tree (g.S.Source.left c.args.input.now) (g.S.Source.left c.run-code.new.input) (g.W.Sink.taken c.args.output.now) (g.W.Sink.taken c.run-code.new.output) c.run-code.result (returns-clause-runs g c to_check e)

pub returns-clause-untouched : goal.returns-clause-untouched
returns-clause-untouched g c = λ none.
    c.run-code.ensures.untouched (asked_once c.args.words.now (request_of c.command_of-command.result) nothing c.command_of-command.ensures.asked none)

pub returns-clause-shelf_idle : goal.returns-clause-shelf_idle
returns-clause-shelf_idle g c = λ asked h idle.
    c.run-code.ensures.shelf_idle (subst NamesNoText (sym (asked_once c.args.words.now (request_of c.command_of-command.result) asked c.command_of-command.ensures.asked h)) idle)
