use Rattle.std.proofs.Common.{◌+◌, sym, subst, arith, rules}
use Rattle.std.specs.Str.Lines.{lines}
use Rattle.physical_lines.specs.Leading.{leads_here, leads_on}
use Rattle.physical_lines.specs.Physical.{IsBlankLine, AreBlank, ComesFirst, at_once, past_blank}
use Rattle.physical_lines.proofs.physical.first_line.Goals as goal

pub returns-then-not-is_blank-clause-value : goal.returns-then-not-is_blank-clause-value
returns-then-not-is_blank-clause-value c =
    let written : IsBlankLine c.in-Some.line.now → ⊥ = λ h. let t = c.is_blank.ensures.1 h in cc in
    c.loop-line.invariant.comes (c.loop-line.place + 1) c.in-Some.line.now (lines c.in-Some.after.now)
    (subst (λ ls. ComesFirst (c.loop-line.place + 1) ls (c.loop-line.place + 1) c.in-Some.line.now (lines c.in-Some.after.now)) (sym c.in-Some.ensures.line)
    (at_once (c.loop-line.place + 1) c.in-Some.line.now (lines c.in-Some.after.now) written))

pub returns-then-not-is_blank-clause-leads : goal.returns-then-not-is_blank-clause-leads
returns-then-not-is_blank-clause-leads c =
    let written : IsBlankLine c.in-Some.line.now → ⊥ = λ h. let t = c.is_blank.ensures.1 h in cc in
    c.loop-line.invariant.leads (c.loop-line.place + 1) c.in-Some.line.now c.in-Some.after.now
    (leads_here (c.loop-line.place + 1) c.loop-line.rest.now c.in-Some.line.now c.in-Some.after.now c.in-Some.ensures.first written)

pub loop-line-preserved : goal.loop-line-preserved
loop-line-preserved c =
    let blank : IsBlankLine c.in-Some.line.now = c.is_blank.ensures.0 (search rules) in
    record {
      counted = omega (arith, c.in-Some.ensures.shorter);
      comes = λ n line rest h.
          c.loop-line.invariant.comes n line rest
          (subst (λ ls. ComesFirst (c.loop-line.place + 1) ls n line rest) (sym c.in-Some.ensures.line)
          (past_blank (c.loop-line.place + 1) c.in-Some.line.now (lines c.in-Some.after.now) n line rest blank h));
      leads = λ n line rest h. c.loop-line.invariant.leads n line rest (leads_on (c.loop-line.place + 1) c.loop-line.rest.now c.in-Some.line.now c.in-Some.after.now n line rest c.in-Some.ensures.first blank h);
      blank = λ h. c.loop-line.invariant.blank (subst AreBlank (sym c.in-Some.ensures.line) (blank, h));
    }
