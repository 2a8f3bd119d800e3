use Rattle.std.proofs.Common.{◌+◌, refl, sym, ap, ◌∙◌, arith, rules}
use Rattle.std.specs.Str.Lines.{lines}
use Rattle.physical_lines.specs.Physical.{IsBlankLine}
use Rattle.boole_table.specs.WrittenLines.{written_from}
use Rattle.boole_table.proofs.Lining.{written_blank, written_here, line_fits}
use Rattle.boole_table.proofs.written.next_written.Goals as goal

pub returns-then-not-is_blank-clause-value : goal.returns-then-not-is_blank-clause-value
returns-then-not-is_blank-clause-value c =
    let w : IsBlankLine c.in-Some.line.now → ⊥ = λ h. let t = c.is_blank.ensures.1 h in cc in
    sym c.loop-line.invariant.are ∙ ap (written_from (c.loop-line.place + 1)) c.in-Some.ensures.line
    ∙ written_here (c.loop-line.place + 1) c.in-Some.line.now (lines c.in-Some.after.now) w

pub returns-then-not-is_blank-clause-within : goal.returns-then-not-is_blank-clause-within
returns-then-not-is_blank-clause-within c = omega (arith, line_fits c.in-Some.ensures.first, c.loop-line.invariant.fits)

pub returns-clause-value : goal.returns-clause-value
returns-clause-value c = sym c.loop-line.invariant.are ∙ ap (λ t. written_from (c.loop-line.place + 1) (lines t)) (c.in_default.ensures.none.0 refl)

pub loop-line-preserved : goal.loop-line-preserved
loop-line-preserved c =
    let blank : IsBlankLine c.in-Some.line.now = c.is_blank.ensures.0 (search rules) in
    record {
      are = sym (ap (written_from (c.loop-line.place + 1)) c.in-Some.ensures.line ∙ written_blank (c.loop-line.place + 1) c.in-Some.line.now (lines c.in-Some.after.now) blank) ∙ c.loop-line.invariant.are;
      fits = omega (arith, c.in-Some.ensures.shorter, c.loop-line.invariant.fits);
      less = omega (arith, c.in-Some.ensures.shorter, c.loop-line.invariant.less);
    }
