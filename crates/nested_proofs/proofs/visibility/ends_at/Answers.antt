-- The test of a subproof's last line.
use Rattle.std.proofs.Common.{◌≡◌, get_or, ap, sym, ◌∙◌, true, false}
use Rattle.std.specs.Prelude.{nat_le, nat_lt, ◌&&◌}
use Rattle.std.proofs.lemmas.Bool.{le-leb, lt-leb}
use Rattle.nested_proofs.specs.Levels.{level}
use Rattle.nested_proofs.specs.Enclosing.{last_below}
use Rattle.nested_proofs.proofs.SubproofTest.{ends_test}
use Rattle.nested_proofs.proofs.visibility.ends_at.Goals as goal

pub returns-then-last_below-n : goal.returns-then-last_below-n
returns-then-last_below-n c = record {
  value =
      let ls = c.args.proof.now in
      let l = c.index-as_slice-m.result in
      let e : l ≡ get_or ls c.args.m l = cc in
      let stays : nat_le (last_below c.args.depth ls c.args.m) c.args.n ≡ true = ap (λ k. nat_le k c.args.n) (sym c.last_below.ensures.value) ∙ le-leb c.last_below.result c.args.n c.if-last_below-n.true in
      ap (λ k. nat_lt k c.args.depth) c.level.ensures.value
      ∙ ap (λ b. b && nat_lt (level l) c.args.depth) (sym stays)
      ∙ sym (ends_test ls c.args.depth c.args.n c.args.m l c.requires.in_order c.requires.followed e);
}

pub returns-else-last_below-n : goal.returns-else-last_below-n
returns-else-last_below-n c = record {
  value =
      let ls = c.args.proof.now in
      let l = c.index-as_slice-m.result in
      let e : l ≡ get_or ls c.args.m l = cc in
      let leaves : nat_le c.last_below.result c.args.n ≡ false = lt-leb c.last_below.result c.args.n c.if-last_below-n.false in
      leaves
      ∙ ap (λ b. b && nat_lt (level l) c.args.depth) (sym (ap (λ k. nat_le k c.args.n) (sym c.last_below.ensures.value) ∙ leaves))
      ∙ sym (ends_test ls c.args.depth c.args.n c.args.m l c.requires.in_order c.requires.followed e);
}
