use Rattle.std.proofs.Common.{◌∷◌, ap₂, sym, ◌∙◌, arith}
use Rattle.std.specs.Prelude.{ℕ, List}
use Rattle.world_text.specs.Lines.{words}
use Rattle.world_text.proofs.Wording.{split_at_blank, split_at_end}
use Rattle.world_text.proofs.line.split_word.Goals as goal

pub returns-then-is_blank : goal.returns-then-is_blank
returns-then-is_blank c = record {
  value = split_at_blank c.args.text.now c.loop-place.place c.requires c.loop-place-test.true c.loop-place.invariant (sym c.is_blank.ensures.value ∙ c.if-is_blank.true)
      ∙ ap₂ (λ (w r : List ℕ). w ∷ words r) (sym c.split_at.ensures.front) (sym c.split_at.ensures.back);
}

pub returns : goal.returns
returns c = record { value = split_at_end c.args.text.now c.loop-place.place c.requires (omega arith) c.loop-place.invariant }
