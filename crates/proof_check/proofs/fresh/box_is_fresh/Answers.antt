-- What the lines say of the constant is what stands around the line.
use Rattle.std.proofs.Common.{◌-◌, ◌≡◌, get_or, not, Some, None}
use Rattle.std.specs.Prelude.{◌&&◌}
use Rattle.std.specs.List.{list_any}
use Rattle.fol_core.specs.Subst.{occurs}
use Rattle.nested_proofs.specs.Levels.{level}
use Rattle.nested_proofs.specs.Hearing.{silent}
use Rattle.nested_proofs.proofs.Reading.{line_at}
use Rattle.nested_proofs.proofs.Silence.{fresh_test, no_box_to_test}
use Rattle.proof_check.proofs.fresh.box_is_fresh.Goals as goal

pub returns-in-None : goal.returns-in-None
returns-in-None c =
    let at : c.index-as_slice-count.result ≡ get_or c.args.lines.now (c.args.j - 1) c.index-as_slice-count.result = cc in
    let none : c.index-as_slice-count.result.boxed ≡ None = cc in
    record { exact = no_box_to_test c.args.task.now.premises c.args.lines.now c.args.j c.index-as_slice-count.result (line_at c.args.lines.now c.args.j c.index-as_slice-count.result c.requires.first c.requires.within at) none }

pub returns-in-Some : goal.returns-in-Some
returns-in-Some c =
    let l = c.index-as_slice-count.result in
    let at : l ≡ get_or c.args.lines.now (c.args.j - 1) l = cc in
    let box : l.boxed ≡ Some c.in-Some.c = cc in
    let said : c.is_unsaid.result ≡ (not (list_any (occurs c.in-Some.c) c.args.task.now.premises) && silent c.in-Some.c c.args.lines.now (c.args.j - 1) (level l)) = cc in
    record { exact = fresh_test c.args.task.now.premises c.args.lines.now c.args.j l c.in-Some.c c.is_unsaid.result (line_at c.args.lines.now c.args.j l c.requires.first c.requires.within at) box said }
