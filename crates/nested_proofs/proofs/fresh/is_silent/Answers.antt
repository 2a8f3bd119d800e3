-- One line back.
use Rattle.std.proofs.Common.{◌≡◌, ◌∙◌, ◌-◌, min, ap, sym, arith, false}
use Rattle.std.specs.Prelude.{nat_le, ◌&&◌}
use Rattle.std.proofs.lemmas.Bool.{lt-leb}
use Rattle.std.proofs.Math.Bool.{and-false}
use Rattle.nested_proofs.specs.Hearing.{silent, speaks_of}
use Rattle.nested_proofs.proofs.Silence.{passes_on}
use Rattle.nested_proofs.proofs.fresh.is_silent.Goals as goal
use Rattle.nested_proofs.proofs.fresh.is_silent.Goals.{else-line-reach-via-then-line-reach+else-speaks_of, else-line-reach-via-else-line-reach}

pub loop-number-preserved : goal.loop-number-preserved
loop-number-preserved c =
    let ls = c.args.lines.now in
    let n = c.loop-number.number in
    let v = c.loop-number.reach in
    let l = c.index-lines-number.result in
    let name = c.args.c.now in
    let passed : (nat_le l.depth v && speaks_of name l) ≡ false = elim c.else-line-reach.branch [
      | else-line-reach-via-then-line-reach+else-speaks_of w ↦ ap (λ b. nat_le l.depth v && b) (sym w.speaks_of.ensures.value ∙ w.if-speaks_of.false) ∙ and-false (nat_le l.depth v)
      | else-line-reach-via-else-line-reach w ↦ ap (λ b. b && speaks_of name l) (lt-leb l.depth v w.if-line-reach.false)
    ] in
    record {
      within = omega (arith, c.loop-number.invariant.within);
      same = c.loop-number.invariant.same
          ∙ passes_on name ls n v l c.loop-number-test.true (omega (arith, c.loop-number.invariant.within, c.requires.within)) c.index-lines-number.is passed
          ∙ ap (silent name ls (n - 1)) (sym (c.min-reach.ensures ∙ ap (min v) c.level.ensures.value));
    }
