-- The test of a subproof by the last lines of lower levels.
use Rattle.std.proofs.Common.{◌≡◌, ◌-◌, ◌==◌, length, drop, get_or, ap, sym, ◌∙◌, arith, true}
use Rattle.std.specs.Prelude.{nat_le, ◌&&◌}
use Rattle.nested_proofs.specs.Items.{opens}
use Rattle.nested_proofs.specs.Levels.{level, body_of}
use Rattle.nested_proofs.specs.Enclosing.{last_below}
use Rattle.nested_proofs.proofs.SubproofTest.{subproof_test}
use Rattle.nested_proofs.proofs.visibility.sees_subproof.Goals as goal

pub returns-then-ends : goal.returns-then-ends
returns-then-ends c = record {
  value =
      let ls = c.args.proof.now in
      let l = c.index-as_slice-n.result in
      let e : l ≡ get_or ls (c.args.n - 1) l = cc in
      let o : opens l.rule ≡ true = cc in
      let b : length (body_of l.depth (drop c.args.n ls)) == c.args.m - c.args.n ≡ true = cc in
      let v : c.last_below.result ≡ last_below (level l) ls c.args.j = cc in
      ap (λ k. nat_le k c.args.n) v
      ∙ ap (λ a. (a && true) && nat_le (last_below (level l) ls c.args.j) c.args.n) (sym o)
      ∙ sym (subproof_test ls c.args.n c.args.m c.args.j l true c.requires.first (omega arith) (omega arith) c.requires.within e b);
}
