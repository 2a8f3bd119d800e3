use Rattle.std.proofs.Common.{◌∷◌, ap₂, sym, ◌∙◌, arith}
use Rattle.std.specs.Prelude.{ℕ, List}
use Rattle.world_text.specs.Lines.{words}
use Rattle.world_text.proofs.Wording.{split_at_blank, split_at_end}
use Rattle.play_text.proofs.Wording.{shorter_back, word_some}
use Rattle.play_text.proofs.words.split_word.Goals as goal

pub returns-then-is_blank-clause-value : goal.returns-then-is_blank-clause-value
returns-then-is_blank-clause-value c =
    split_at_blank c.args.text.now c.loop-place.place c.requires c.loop-place-test.true c.loop-place.invariant (sym c.is_blank.ensures.value ∙ c.if-is_blank.true)
    ∙ ap₂ (λ (w r : List ℕ). w ∷ words r) (sym c.split_at.ensures.front) (sym c.split_at.ensures.back)

pub returns-then-is_blank-clause-shorter : goal.returns-then-is_blank-clause-shorter
returns-then-is_blank-clause-shorter c =
    shorter_back c.args.text.now c.loop-place.place c.split_at.result.1.now c.requires c.loop-place-test.true (sym c.is_blank.ensures.value ∙ c.if-is_blank.true) c.split_at.ensures.back

pub returns-clause-value : goal.returns-clause-value
returns-clause-value c = split_at_end c.args.text.now c.loop-place.place c.requires (omega arith) c.loop-place.invariant

pub returns-clause-shorter : goal.returns-clause-shorter
returns-clause-shorter c = word_some c.args.text.now c.requires
