use Rattle.std.proofs.Common.{◌≢◌, [], length, ap, arith, subst, sym}
use Rattle.std.proofs.lemmas.Bool.Decides.{nat_tests}
use Rattle.fitch_file.specs.Declarations.{AllowsOne}
use Rattle.fitch_file.proofs.Allowing.{Allowing, allowing_more, allowing_end, allowing_none}
use Rattle.fitch_file.specs.declared.task.Allowed.{Allowed}
use Rattle.fitch_file.proofs.consequence.read_allowed.Goals as goal

pub returns-in-None : goal.returns-in-None
returns-in-None c =
    allowing_none c.args.text.now c.loop-word.rest.now c.loop-word.allowed c.loop-word.invariant c.in-Some.ensures.none
    (subst (λ w. (b : Allowed) → AllowsOne c.loop-word.allowed w b → ⊥) c.in-Some.ensures.word c.in-None.ensures)

pub loop-word-preserved : goal.loop-word-preserved
loop-word-preserved c =
    subst (λ t. Allowing c.args.text.now c.in-Some-allow.more t) (sym c.in-Some.ensures.behind)
    (allowing_more c.args.text.now c.loop-word.rest.now c.loop-word.allowed c.in-Some-allow.more c.loop-word.invariant
    (subst (λ w. AllowsOne c.loop-word.allowed w c.in-Some-allow.more) c.in-Some.ensures.word c.in-Some-allow.ensures))

pub returns : goal.returns
returns c =
    let some : c.args.text.now ≢ [] = λ e. let l = ap length e in grind (arith, nat_tests, l) in
    record { some = some; words = allowing_end c.args.text.now c.loop-word.rest.now c.loop-word.allowed c.loop-word.invariant c.in_default.ensures.none }
