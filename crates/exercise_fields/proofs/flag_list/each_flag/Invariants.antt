use Rattle.std.proofs.Common.{◌≡◌, ◌++◌, drop, option_map}
use Rattle.toml.specs.View.{items_view}
use Rattle.exercise_fields.specs.Lists.{all_flags}
use Rattle.exercise_fields.proofs.flag_list.each_flag.Given as goal

abbrev pub invariant-loop-item : goal.invariant-loop-item
invariant-loop-item l = option_map (λ ts. l.flags ++ ts) (all_flags (items_view (drop l.item-index l.items.items))) ≡ all_flags (items_view l.items.items)
