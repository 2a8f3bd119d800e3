use Rattle.std.proofs.Common.{ap, sym, ◌∙◌, inl, inr}
use Rattle.std.specs.List.{list_all}
use Rattle.world_truth.specs.Answers.{all_borne}
use Rattle.world_truth.proofs.Forms.{borne_and, borne_or}
use Rattle.world_truth.proofs.answer.+borne.Goals as goal

pub are_borne-returns-in-And : goal.are_borne-returns-in-And
are_borne-returns-in-And t c =
    let w = c.args.w.now in
    let all = c.are_borne_in_all.ensures.value ∙ ap (list_all (all_borne w)) c.as_slice-in-And.ensures.value in
    elim c.in-And.is [
      | inl e ↦ record { value = all ∙ sym (borne_and w c.in-And.parts) ∙ ap (all_borne w) (sym e) }
      | inr e ↦ record { value = all ∙ sym (borne_or w c.in-And.parts) ∙ ap (all_borne w) (sym e) }
    ]
