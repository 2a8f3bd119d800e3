use Rattle.std.proofs.Common.{ℕ, List, ◌++◌, ap, ◌∙◌}
use Rattle.fol_text.specs.Printed.{printed}
use Rattle.fol_text.proofs.ReadBack.{printed_spells, printed_readable}
use Rattle.fol_text.proofs.print.print_sentence.Goals as goal

pub returns-clause-spelled : goal.returns-clause-spelled
returns-clause-spelled c = printed_spells c.args.s.now c.add.new.text (c.in_ok-add.ensures.value ∙ ap (λ (t : List ℕ). t ++ printed c.args.s.now) c.new-text.ensures.empty)

pub returns-clause-readable : goal.returns-clause-readable
returns-clause-readable c = printed_readable c.args.s.now c.add.new.text (c.in_ok-add.ensures.value ∙ ap (λ (t : List ℕ). t ++ printed c.args.s.now) c.new-text.ensures.empty)
