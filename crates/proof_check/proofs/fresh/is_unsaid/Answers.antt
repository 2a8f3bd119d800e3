-- One line back.
use Rattle.std.proofs.Common.{◌≡◌, ◌∙◌, ◌-◌, ◌+◌, ◌<◌, ◌≤◌, min, not, length, Some, ap, ap₂, sym, arith, true, false}
use Rattle.std.specs.Prelude.{nat_le, ◌&&◌, slice_get}
use Rattle.nested_proofs.specs.Hearing.{silent, speaks_of, is_word}
use Rattle.nested_proofs.specs.Items.{opens}
use Rattle.nested_proofs.proofs.Reading.{line_at}
use Rattle.nested_proofs.proofs.Silence.{passes_on}
use Rattle.proof_check.proofs.Freshness.{was_silent, silent_since}
use Rattle.proof_check.proofs.fresh.is_unsaid.Goals as goal

pub loop-number-preserved : goal.loop-number-preserved
loop-number-preserved c =
    let ls = c.args.lines.now in
    let n = c.loop-number.number in
    let v = c.loop-number.reach in
    let l = c.index-lines-number.result in
    let passed : (nat_le l.depth v && speaks_of c.args.c.now l) ≡ false = sym c.speaks_within.ensures.value ∙ c.if-speaks_within.false in
    record {
      within = omega (arith, c.loop-number.invariant.within);
      same = c.loop-number.invariant.same
          ∙ passes_on c.args.c.now ls n v l c.loop-number-test.true (omega (arith, c.loop-number.invariant.within, c.requires.within)) c.index-lines-number.is passed
          ∙ ap (silent c.args.c.now ls (n - 1)) (sym (c.min-reach.ensures ∙ ap (min v) c.level.ensures.value));
    }

pub returns-then-boxes_anew : goal.returns-then-boxes_anew
returns-then-boxes_anew c =
    let ls = c.args.lines.now in
    let n = c.loop-number.number in
    let v = c.loop-number.reach in
    let l = c.index-lines-number.result in
    let high : n ≤ length ls = omega (arith, c.loop-number.invariant.within, c.requires.within) in
    let less : n < c.args.count + 1 = omega (arith, c.loop-number.invariant.within) in
    let at : slice_get ls (n - 1) ≡ Some l = line_at ls n l c.loop-number-test.true high c.index-lines-number.is in
    let passed : (nat_le l.depth v && speaks_of c.args.c.now l) ≡ false = sym c.speaks_within.ensures.value ∙ c.if-speaks_within.false in
    let boxes : (opens l.rule && is_word c.args.c.now l.boxed) ≡ true = sym c.boxes_anew.ensures.value ∙ c.if-boxes_anew.true in
    let free = was_silent c.args.task.now ls (c.args.count + 1) n l c.args.c.now c.requires.lines c.loop-number-test.true high less c.requires.before at boxes in
    let quiet = c.loop-number.invariant.same ∙ silent_since c.args.task.now ls (c.args.count + 1) n v l c.args.c.now c.requires.lines c.loop-number-test.true high less c.requires.before at passed boxes in
    record { value = sym (ap₂ (λ a b. not a && b) free.0 quiet) }
