-- Which positions the player wins by the best play.
use Rattle.std.specs.Prelude.{ℕ, zero, suc, Bool, List, [], map}
use Rattle.std.specs.List.{list_all, list_any}
use Rattle.fol_core.specs.Subst.{itself}
use Rattle.worlds.specs.declared.block.Block.{Block}
use Rattle.hintikka_game.specs.declared.position.Position.{Position}
use Rattle.hintikka_game.specs.Positions.{Side, Player, Computer, Negation, Conditional, Value, side, nexts, is_kept}
use Rattle.hintikka_game.specs.Weight.{weight}

-- The player wins where the player can choose an alternative that wins; where the machine must choose, and where nobody
-- chooses, each alternative has to win; where the value decides, the commitment has to be the value.
abbrev pub wins_by : Side → List Bool → Bool → Bool
wins_by Player outcomes kept = list_any itself outcomes
wins_by Computer outcomes kept = list_all itself outcomes
wins_by Negation outcomes kept = list_all itself outcomes
wins_by Conditional outcomes kept = list_all itself outcomes
wins_by Value outcomes kept = kept

-- The player wins the position in at most so many moves.
abbrev pub wins_in : ℕ → List Block → Position → Bool
wins_in zero w p = wins_by (side p) [] (is_kept w p)
wins_in (suc n) w p = wins_by (side p) (map (wins_in n w) (nexts w p)) (is_kept w p)

-- The player wins the position: by recursion on positions, each of which is lighter than the one before it.
abbrev pub wins : List Block → Position → Bool
wins w p = wins_in (weight p.sentence) w p

-- The recursion on positions that `wins` meets.
abbrev pub wins_by_turns : List Block → Position → Bool
wins_by_turns w p = wins_by (side p) (map (wins w) (nexts w p)) (is_kept w p)
