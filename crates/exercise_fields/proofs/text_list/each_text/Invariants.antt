use Rattle.std.proofs.Common.{◌≡◌, ◌++◌, drop, option_map}
use Rattle.toml.specs.View.{items_view}
use Rattle.exercise_fields.specs.Lists.{all_texts}
use Rattle.exercise_fields.proofs.text_list.each_text.Given as goal

abbrev pub invariant-loop-item : goal.invariant-loop-item
invariant-loop-item l = option_map (λ ts. l.texts ++ ts) (all_texts (items_view (drop l.item-index l.items.items))) ≡ all_texts (items_view l.items.items)
