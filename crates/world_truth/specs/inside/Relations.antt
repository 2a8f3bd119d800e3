-- What is said of two blocks, by their numbers.
use Rattle.std.specs.Prelude.{ℕ, Bool, ◌==◌, List, [], ◌∷◌}
use Rattle.worlds.specs.declared.block.Block.{Block}
use Rattle.worlds.specs.declared.predicate.Predicate.TheVariants as predicate
use Rattle.world_truth.specs.declared.relation.Relation.{Relation}
use Rattle.world_truth.specs.declared.relation.Relation.TheVariants.{Same, Says, Between, Behind, Around}
use Rattle.worlds.specs.Predicates.{says}
use Rattle.worlds.specs.Worlds.{block_at}

-- That both are one; what a predicate says of them; and with a third block, that the first stands between the others, that the
-- second does, and that the third does.
abbrev pub relates : List Block → Relation → ℕ → ℕ → Bool
relates w Same m n = m == n
relates w (Says q) m n = says q (block_at w m ∷ block_at w n ∷ [])
relates w (Between d) m n = says predicate.Between (block_at w m ∷ block_at w n ∷ block_at w d ∷ [])
relates w (Behind d) m n = says predicate.Between (block_at w n ∷ block_at w m ∷ block_at w d ∷ [])
relates w (Around d) m n = says predicate.Between (block_at w d ∷ block_at w m ∷ block_at w n ∷ [])

-- The same with another third block, if there is one.
abbrev pub about : Relation → ℕ → Relation
about Same d = Same
about (Says q) d = Says q
about (Between c) d = Between d
about (Behind c) d = Behind d
about (Around c) d = Around d
