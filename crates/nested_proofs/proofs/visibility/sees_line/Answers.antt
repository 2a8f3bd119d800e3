-- The test of a line by the last line of a lower level.
use Rattle.std.proofs.Common.{◌≡◌, ◌-◌, get_or, ap, sym, ◌∙◌, arith}
use Rattle.std.specs.Prelude.{nat_le, ◌&&◌}
use Rattle.nested_proofs.specs.Enclosing.{last_below}
use Rattle.nested_proofs.proofs.SentenceTest.{sentence_test}
use Rattle.nested_proofs.proofs.visibility.sees_line.Goals as goal

pub returns-then-is_some : goal.returns-then-is_some
returns-then-is_some c = record {
  value =
      let ls = c.args.proof.now in
      let l = c.index-as_slice-i.result in
      let e : l ≡ get_or ls (c.args.i - 1) l = cc in
      ap (λ k. nat_le k c.args.i) c.last_below.ensures.value
      ∙ ap (λ b. b && nat_le (last_below l.depth ls c.args.j) c.args.i) (sym c.if-is_some.true ∙ c.is_some.ensures)
      ∙ sym (sentence_test ls c.args.i c.args.j l c.requires.first (omega (arith, c.if-i-j.false)) c.requires.within e);
}

pub returns-else-is_some : goal.returns-else-is_some
returns-else-is_some c = record {
  value =
      let ls = c.args.proof.now in
      let l = c.index-as_slice-i.result in
      let e : l ≡ get_or ls (c.args.i - 1) l = cc in
      c.if-is_some.false
      ∙ ap (λ b. b && nat_le (last_below l.depth ls c.args.j) c.args.i) (sym c.if-is_some.false ∙ c.is_some.ensures)
      ∙ sym (sentence_test ls c.args.i c.args.j l c.requires.first (omega (arith, c.if-i-j.false)) c.requires.within e);
}
