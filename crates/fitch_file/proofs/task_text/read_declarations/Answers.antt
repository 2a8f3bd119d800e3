use Rattle.std.proofs.Common.{◌-◌, true, false, length, refl, sym, subst, ◌∙◌, arith, inr}
use Rattle.std.specs.Str.Lines.{lines}
use Rattle.physical_lines.specs.Physical.{IsHeaded}
use Rattle.fitch_file.specs.Headers.{task_header}
use Rattle.fitch_file.specs.Words.{begins_proof}
use Rattle.fitch_file.proofs.Tasking.{Tasked, tasked_start, tasked_more, headed, IsOver, over_at_proof, over_at_end, Finishes, over_read, over_exact, over_refused, refused_at, memory_at}
use Rattle.fitch_file.proofs.task_text.read_declarations.Goals as goal

pub loop-line-init : goal.loop-line-init
loop-line-init c =
    tasked_start c.args.text.now c.args.header.place c.args.header.line.now c.args.header.rest.now (record { draft = c.new.result; place = c.args.header.place; written = c.args.header.place })
    c.requires.leads c.requires.is c.new.ensures refl refl

pub finish-requires : goal.finish-requires
finish-requires c = omega (arith, c.loop-line.invariant.room, c.loop-line.invariant.within, c.requires.short)

pub returns-then-begins_proof-clause-read : goal.returns-then-begins_proof-clause-read
returns-then-begins_proof-clause-read c =
    let h : IsHeaded task_header (lines c.args.text.now) c.args.header.place (lines c.args.header.rest.now) = headed c.args.text.now c.args.header.place c.args.header.line.now c.args.header.rest.now c.requires.leads c.requires.is in
    let o : IsOver c.args.text.now c.args.header.place (lines c.args.header.rest.now) c.loop-line.progress c.loop-line.progress.place (length c.args.text.now - length c.loop-line.rest.now) = over_at_proof c.args.text.now c.args.header.place (lines c.args.header.rest.now) c.loop-line.progress c.loop-line.rest.now c.in-Some.line.now c.in-Some.after.now h c.loop-line.invariant c.in-Some.ensures.first (sym c.begins_proof.ensures.value ∙ c.if-begins_proof.true) in
    let f : Finishes c.loop-line.progress c.loop-line.progress.place (length c.args.text.now - length c.loop-line.rest.now) c.finish.result = record { found = c.finish.ensures.found; lines = c.finish.ensures.lines; rest_is = c.finish.ensures.rest; place = c.finish.ensures.place; no_goal = c.finish.ensures.no_goal } in
    over_read c.args.text.now c.args.header.place (lines c.args.header.rest.now) c.loop-line.progress c.loop-line.progress.place (length c.args.text.now - length c.loop-line.rest.now) c.finish.result o f

pub returns-then-begins_proof-clause-exact : goal.returns-then-begins_proof-clause-exact
returns-then-begins_proof-clause-exact c =
    let h : IsHeaded task_header (lines c.args.text.now) c.args.header.place (lines c.args.header.rest.now) = headed c.args.text.now c.args.header.place c.args.header.line.now c.args.header.rest.now c.requires.leads c.requires.is in
    let o : IsOver c.args.text.now c.args.header.place (lines c.args.header.rest.now) c.loop-line.progress c.loop-line.progress.place (length c.args.text.now - length c.loop-line.rest.now) = over_at_proof c.args.text.now c.args.header.place (lines c.args.header.rest.now) c.loop-line.progress c.loop-line.rest.now c.in-Some.line.now c.in-Some.after.now h c.loop-line.invariant c.in-Some.ensures.first (sym c.begins_proof.ensures.value ∙ c.if-begins_proof.true) in
    let f : Finishes c.loop-line.progress c.loop-line.progress.place (length c.args.text.now - length c.loop-line.rest.now) c.finish.result = record { found = c.finish.ensures.found; lines = c.finish.ensures.lines; rest_is = c.finish.ensures.rest; place = c.finish.ensures.place; no_goal = c.finish.ensures.no_goal } in
    over_exact c.args.text.now c.args.header.place (lines c.args.header.rest.now) c.loop-line.progress c.loop-line.progress.place (length c.args.text.now - length c.loop-line.rest.now) c.finish.result o f

pub returns-then-begins_proof-clause-refused : goal.returns-then-begins_proof-clause-refused
returns-then-begins_proof-clause-refused c =
    let h : IsHeaded task_header (lines c.args.text.now) c.args.header.place (lines c.args.header.rest.now) = headed c.args.text.now c.args.header.place c.args.header.line.now c.args.header.rest.now c.requires.leads c.requires.is in
    let o : IsOver c.args.text.now c.args.header.place (lines c.args.header.rest.now) c.loop-line.progress c.loop-line.progress.place (length c.args.text.now - length c.loop-line.rest.now) = over_at_proof c.args.text.now c.args.header.place (lines c.args.header.rest.now) c.loop-line.progress c.loop-line.rest.now c.in-Some.line.now c.in-Some.after.now h c.loop-line.invariant c.in-Some.ensures.first (sym c.begins_proof.ensures.value ∙ c.if-begins_proof.true) in
    let f : Finishes c.loop-line.progress c.loop-line.progress.place (length c.args.text.now - length c.loop-line.rest.now) c.finish.result = record { found = c.finish.ensures.found; lines = c.finish.ensures.lines; rest_is = c.finish.ensures.rest; place = c.finish.ensures.place; no_goal = c.finish.ensures.no_goal } in
    over_refused c.args.text.now c.args.header.place (lines c.args.header.rest.now) c.loop-line.progress c.loop-line.progress.place (length c.args.text.now - length c.loop-line.rest.now) c.finish.result o f

pub returns-clause-read : goal.returns-clause-read
returns-clause-read c =
    let h : IsHeaded task_header (lines c.args.text.now) c.args.header.place (lines c.args.header.rest.now) = headed c.args.text.now c.args.header.place c.args.header.line.now c.args.header.rest.now c.requires.leads c.requires.is in
    let o : IsOver c.args.text.now c.args.header.place (lines c.args.header.rest.now) c.loop-line.progress c.loop-line.progress.written (length c.args.text.now) = over_at_end c.args.text.now c.args.header.place (lines c.args.header.rest.now) c.loop-line.progress h (subst (λ t. Tasked c.args.text.now c.args.header.place (lines c.args.header.rest.now) c.loop-line.progress t) (c.in_default.ensures.none.0 refl) c.loop-line.invariant) in
    let f : Finishes c.loop-line.progress c.loop-line.progress.written (length c.args.text.now) c.finish-2.result = record { found = c.finish-2.ensures.found; lines = c.finish-2.ensures.lines; rest_is = c.finish-2.ensures.rest; place = c.finish-2.ensures.place; no_goal = c.finish-2.ensures.no_goal } in
    over_read c.args.text.now c.args.header.place (lines c.args.header.rest.now) c.loop-line.progress c.loop-line.progress.written (length c.args.text.now) c.finish-2.result o f

pub returns-clause-exact : goal.returns-clause-exact
returns-clause-exact c =
    let h : IsHeaded task_header (lines c.args.text.now) c.args.header.place (lines c.args.header.rest.now) = headed c.args.text.now c.args.header.place c.args.header.line.now c.args.header.rest.now c.requires.leads c.requires.is in
    let o : IsOver c.args.text.now c.args.header.place (lines c.args.header.rest.now) c.loop-line.progress c.loop-line.progress.written (length c.args.text.now) = over_at_end c.args.text.now c.args.header.place (lines c.args.header.rest.now) c.loop-line.progress h (subst (λ t. Tasked c.args.text.now c.args.header.place (lines c.args.header.rest.now) c.loop-line.progress t) (c.in_default.ensures.none.0 refl) c.loop-line.invariant) in
    let f : Finishes c.loop-line.progress c.loop-line.progress.written (length c.args.text.now) c.finish-2.result = record { found = c.finish-2.ensures.found; lines = c.finish-2.ensures.lines; rest_is = c.finish-2.ensures.rest; place = c.finish-2.ensures.place; no_goal = c.finish-2.ensures.no_goal } in
    over_exact c.args.text.now c.args.header.place (lines c.args.header.rest.now) c.loop-line.progress c.loop-line.progress.written (length c.args.text.now) c.finish-2.result o f

pub returns-clause-refused : goal.returns-clause-refused
returns-clause-refused c =
    let h : IsHeaded task_header (lines c.args.text.now) c.args.header.place (lines c.args.header.rest.now) = headed c.args.text.now c.args.header.place c.args.header.line.now c.args.header.rest.now c.requires.leads c.requires.is in
    let o : IsOver c.args.text.now c.args.header.place (lines c.args.header.rest.now) c.loop-line.progress c.loop-line.progress.written (length c.args.text.now) = over_at_end c.args.text.now c.args.header.place (lines c.args.header.rest.now) c.loop-line.progress h (subst (λ t. Tasked c.args.text.now c.args.header.place (lines c.args.header.rest.now) c.loop-line.progress t) (c.in_default.ensures.none.0 refl) c.loop-line.invariant) in
    let f : Finishes c.loop-line.progress c.loop-line.progress.written (length c.args.text.now) c.finish-2.result = record { found = c.finish-2.ensures.found; lines = c.finish-2.ensures.lines; rest_is = c.finish-2.ensures.rest; place = c.finish-2.ensures.place; no_goal = c.finish-2.ensures.no_goal } in
    over_refused c.args.text.now c.args.header.place (lines c.args.header.rest.now) c.loop-line.progress c.loop-line.progress.written (length c.args.text.now) c.finish-2.result o f

pub returns-in-Err-clause-exact : goal.returns-in-Err-clause-exact
returns-in-Err-clause-exact c = λ t s.
    let h : IsHeaded task_header (lines c.args.text.now) c.args.header.place (lines c.args.header.rest.now) = headed c.args.text.now c.args.header.place c.args.header.line.now c.args.header.rest.now c.requires.leads c.requires.is in
    inr (memory_at c.args.text.now c.args.header.place (lines c.args.header.rest.now) c.loop-line.progress c.loop-line.rest.now c.in-Some.line.now c.in-Some.after.now c.in-Err.fault h c.loop-line.invariant c.in-Some.ensures.first (sym c.begins_proof.ensures.value ∙ c.if-begins_proof.false) c.in-Err.ensures.refused c.in-Err.ensures.none t s)

pub returns-in-Err-clause-refused : goal.returns-in-Err-clause-refused
returns-in-Err-clause-refused c =
    let h : IsHeaded task_header (lines c.args.text.now) c.args.header.place (lines c.args.header.rest.now) = headed c.args.text.now c.args.header.place c.args.header.line.now c.args.header.rest.now c.requires.leads c.requires.is in
    refused_at c.args.text.now c.args.header.place (lines c.args.header.rest.now) c.loop-line.progress c.loop-line.rest.now c.in-Some.line.now c.in-Some.after.now c.in-Err.fault h c.loop-line.invariant c.in-Some.ensures.first (sym c.begins_proof.ensures.value ∙ c.if-begins_proof.false) c.in-Err.ensures.refused

pub loop-line-preserved : goal.loop-line-preserved
loop-line-preserved c =
    tasked_more c.args.text.now c.args.header.place (lines c.args.header.rest.now) c.loop-line.progress c.in-Ok.next c.loop-line.rest.now c.in-Some.line.now c.in-Some.after.now c.loop-line.invariant c.in-Some.ensures.first (sym c.begins_proof.ensures.value ∙ c.if-begins_proof.false) c.in-Ok.ensures.read c.in-Ok.ensures.only
