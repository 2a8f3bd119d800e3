-- Truth in a world of blocks.
use Rattle.std.specs.Prelude.{Bool, true, false, not, ◌||◌, ◌==◌, List, map}
use Rattle.std.specs.List.{list_all, list_any}
use Rattle.fol_core.specs.declared.sent.Sent.{Sent}
use Rattle.fol_core.specs.declared.sent.Sent.TheOpen.{Sent-F}
use Rattle.fol_core.specs.declared.sent.Sent.TheOpen as f
use Rattle.fol_core.specs.declared.sent.Sent.TheFolds.{fold-Sent}
use Rattle.worlds.specs.declared.block.Block.{Block}
use Rattle.worlds.specs.Predicates.{predicate_of, is_true_of}
use Rattle.worlds.specs.Worlds.{numbers}
use Rattle.worlds.specs.Assignments.{Assignment, number_at, put, block_of}

-- Both are true, or both are false.
abbrev pub are_alike : Bool → Bool → Bool
are_alike true b = b
are_alike false b = not b

-- One form of sentence under an assignment. An atomic sentence is true where its predicate, one of the blocks language,
-- holds of the blocks that its terms stand for; an equation, where they stand for one block. Falsum is false. A universal
-- sentence is true where its part is true with its variable for each block, an existential one where it is for some block.
abbrev pub val_step : List Block → Sent-F (Assignment → Bool) → Assignment → Bool
val_step w (f.Atom p ts) a = is_true_of (predicate_of p) (map (block_of w a) ts)
val_step w (f.Eq s t) a = number_at a s == number_at a t
val_step w f.Bottom a = false
val_step w (f.Not g) a = not (g a)
val_step w (f.And gs) a = list_all (λ g. g a) gs
val_step w (f.Or gs) a = list_any (λ g. g a) gs
val_step w (f.If g h) a = not (g a) || h a
val_step w (f.Iff g h) a = are_alike (g a) (h a)
val_step w (f.All x g) a = list_all (λ k. g (put x k a)) (numbers w)
val_step w (f.Ex x g) a = list_any (λ k. g (put x k a)) (numbers w)

-- The value of a sentence in a world, as a function of the assignment.
abbrev pub val_under : List Block → Sent → Assignment → Bool
val_under w = fold-Sent (Assignment → Bool) (val_step w)

-- The value of a sentence in a world under an assignment.
abbrev pub val : List Block → Assignment → Sent → Bool
val w a s = val_under w s a
