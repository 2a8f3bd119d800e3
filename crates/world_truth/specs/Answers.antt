-- Whether a sentence has a value in a world, and what is answered.
use Rattle.std.specs.Prelude.{ℕ, Bool, true, false, not, ◌&&◌, List, length, nat_lt, Result, Ok, Err, if◌then◌else◌}
use Rattle.std.specs.List.{list_all}
use Rattle.fol_core.specs.Word.{Word}
use Rattle.fol_core.specs.Subst.{itself}
use Rattle.fol_core.specs.declared.sent.Term.{Term}
use Rattle.fol_core.specs.declared.sent.Term.TheOpen.{Term-F}
use Rattle.fol_core.specs.declared.sent.Term.TheOpen as t
use Rattle.fol_core.specs.declared.sent.Term.TheFolds.{fold-Term}
use Rattle.fol_core.specs.declared.sent.Sent.{Sent}
use Rattle.fol_core.specs.declared.sent.Sent.TheOpen.{Sent-F}
use Rattle.fol_core.specs.declared.sent.Sent.TheOpen as f
use Rattle.fol_core.specs.declared.sent.Sent.TheFolds.{fold-Sent}
use Rattle.worlds.specs.declared.block.Block.{Block}
use Rattle.world_truth.specs.declared.answer.TruthFault.{TruthFault}
use Rattle.world_truth.specs.declared.answer.TruthFault.TheVariants.{NotBlocks, NoSuchName, TooLarge}
use Rattle.worlds.specs.Worlds.{is_borne}
use Rattle.worlds.specs.Predicates.{predicate_of, is_of_blocks}
use Rattle.worlds.specs.Assignments.{own_names}
use Rattle.worlds.specs.Truth.{val}
use Rattle.world_truth.specs.Work.{units}

-- One form of term: a variable and a name are no function.
abbrev pub simple_step : Term-F Bool → Bool
simple_step (t.Var x) = true
simple_step (t.Name n) = true
simple_step (t.App g bs) = false

-- The term is a variable or a name: the blocks language has no functions.
abbrev pub is_simple : Term → Bool
is_simple = fold-Term Bool simple_step

-- One form of sentence: its predicate is one of the blocks language, no term is a function, and so it is in its parts.
abbrev pub blocks_step : Sent-F Bool → Bool
blocks_step (f.Atom p ts) = is_of_blocks (predicate_of p) (length ts) && list_all is_simple ts
blocks_step (f.Eq a b) = is_simple a && is_simple b
blocks_step f.Bottom = true
blocks_step (f.Not b) = b
blocks_step (f.And bs) = list_all itself bs
blocks_step (f.Or bs) = list_all itself bs
blocks_step (f.If b c) = b && c
blocks_step (f.Iff b c) = b && c
blocks_step (f.All x b) = b
blocks_step (f.Ex x b) = b

-- Each predicate that stands in the sentence is one of the blocks language, with its number of places, and no function
-- stands in it.
abbrev pub in_blocks : Sent → Bool
in_blocks = fold-Sent Bool blocks_step

-- One form of term: a name is one that a block of the world has, and so are those in a function's arguments.
abbrev pub has_block_step : List Block → Term-F Bool → Bool
has_block_step w (t.Var x) = true
has_block_step w (t.Name n) = is_borne w n
has_block_step w (t.App g bs) = list_all itself bs

-- Each name that stands in the term is one that a block of the world has.
abbrev pub has_block : List Block → Term → Bool
has_block w = fold-Term Bool (has_block_step w)

-- One form of sentence: each name in it is one that a block has.
abbrev pub borne_step : List Block → Sent-F Bool → Bool
borne_step w (f.Atom p ts) = list_all (has_block w) ts
borne_step w (f.Eq a b) = has_block w a && has_block w b
borne_step w f.Bottom = true
borne_step w (f.Not b) = b
borne_step w (f.And bs) = list_all itself bs
borne_step w (f.Or bs) = list_all itself bs
borne_step w (f.If b c) = b && c
borne_step w (f.Iff b c) = b && c
borne_step w (f.All x b) = b
borne_step w (f.Ex x b) = b

-- Each name that stands in the sentence is one that a block of the world has.
abbrev pub all_borne : List Block → Sent → Bool
all_borne w = fold-Sent Bool (borne_step w)

-- The greatest work that a sentence may be.
abbrev pub most_units : ℕ
most_units = 20000000

-- The answer on a sentence in a world: NotBlocks where a predicate is outside the blocks language or a function stands in
-- the sentence; else NoSuchName where a name is one that no block has; else TooLarge where its work is over the limit; else
-- its value by the world's own names.
abbrev pub truth_of : List Block → Sent → Result Bool TruthFault
truth_of w s =
    if not (in_blocks s) then Err NotBlocks
    else (if not (all_borne w s) then Err NoSuchName
    else (if nat_lt most_units (units (length w) s) then Err TooLarge
    else Ok (val w (own_names w) s)))
