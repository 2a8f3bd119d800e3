use Rattle.std.proofs.Common.{ap, sym, ◌∙◌}
use Rattle.std.specs.List.{list_all}
use Rattle.world_truth.specs.Answers.{has_block}
use Rattle.world_truth.proofs.Terms.{has_block_app}
use Rattle.world_truth.proofs.answer.+borne_terms.Goals as goal

pub has_block-returns-in-App : goal.has_block-returns-in-App
has_block-returns-in-App t c =
    let w = c.args.w.now in
    record { value = c.have_blocks.ensures.value ∙ ap (list_all (has_block w)) c.as_slice-in-App.ensures.value ∙ sym (has_block_app w c.in-App.field-0 c.in-App.args) ∙ ap (has_block w) (sym c.in-App.is) }
