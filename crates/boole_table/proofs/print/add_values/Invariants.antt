use Rattle.std.proofs.Common.{◌≡◌, ◌++◌, [], ◌∷◌, take}
use Rattle.std.specs.List.{flat_map}
use Rattle.boole_table.specs.RowLines.{value_byte}
use Rattle.boole_table.proofs.print.add_values.Given as goal

abbrev pub invariant-loop-value : goal.invariant-loop-value
invariant-loop-value l = l.text ≡ l.fn.text ++ flat_map (λ b. 32 ∷ value_byte b ∷ []) (take l.value-index l.values)
