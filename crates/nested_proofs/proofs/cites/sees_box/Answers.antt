-- A visible subproof boxes a constant where its first line does.
use Rattle.std.proofs.Common.{◌≡◌, ◌-◌, get_or, ap, sym, ◌∙◌, arith, Bool, true, false, refl}
use Rattle.std.specs.Prelude.{not, ◌&&◌}
use Rattle.std.specs.Option.{is_some}
use Rattle.nested_proofs.specs.CiteTests.{is_boxed}
use Rattle.nested_proofs.specs.Visible.{visible_subproof}
use Rattle.nested_proofs.proofs.SubproofTest.{box_of_first, begins_before}
use Rattle.nested_proofs.proofs.cites.sees_box.Goals as goal

is_there : (b : Bool) → not b ≡ false → b ≡ true
is_there true e = refl
is_there false e = cc

pub returns : goal.returns
returns c = record {
  value =
      let ls = c.args.proof.now in
      let n = c.args.cite.first in
      let m = c.args.cite.last in
      let l = c.index-as_slice-cite.result in
      let e : l ≡ get_or ls (n - 1) l = cc in
      let seen : is_some (visible_subproof ls n m c.args.j) ≡ true = cc in
      c.is_some.ensures ∙ ap (λ y. is_some y.boxed) (sym c.index-as_slice-cite.is)
      ∙ sym (box_of_first ls n m c.args.j l c.requires.first (omega (arith, c.requires.within, begins_before ls n m c.args.j seen)) e seen)
      ∙ ap (λ b. b && is_boxed (visible_subproof ls n m c.args.j)) (sym (is_there c.args.cite.sub c.if-not-cite.false));
}
