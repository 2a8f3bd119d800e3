use Rattle.std.proofs.Common.{◌∷◌, ap, sym, subst, ◌∙◌, arith, length}
use Rattle.texts.specs.Lines.{IsFirstLine, ended, last}
use Rattle.std.specs.Str.Lines.{lines}
use Rattle.std.proofs.lemmas.Bool.Decides.{nat_tests}
use Rattle.texts.proofs.Splitting.{lines-cut, lines-last}
use Rattle.texts.proofs.lines.next_line.Goals as goal

pub returns-in-Some-clause-line : goal.returns-in-Some-clause-line
returns-in-Some-clause-line c =
    lines-cut c.args.text.now c.in-Some.line.now c.in-Some.rest.now c.in-Some.ensures.value ∙ ap (λ l. l ∷ lines c.in-Some.rest.now) (sym c.without_return.ensures)

pub returns-in-None-clause-line : goal.returns-in-None-clause-line
returns-in-None-clause-line c = lines-last c.args.text.now (grind (arith, nat_tests)) c.in-None.ensures.value

pub returns-in-Some-clause-first : goal.returns-in-Some-clause-first
returns-in-Some-clause-first c =
    subst (λ l. IsFirstLine c.args.text.now l c.in-Some.rest.now) (sym c.without_return.ensures) (ended c.args.text.now c.in-Some.line.now c.in-Some.rest.now c.in-Some.ensures.value)

pub returns-in-None-clause-first : goal.returns-in-None-clause-first
returns-in-None-clause-first c = last c.args.text.now (λ e. let l = ap length e in grind (arith, nat_tests, l)) c.in-None.ensures.value
