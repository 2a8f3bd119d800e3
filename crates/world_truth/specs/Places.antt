-- Blocks that are given for variables.
use Rattle.std.specs.Prelude.{List, [], ◌∷◌}
use Rattle.world_truth.specs.declared.answer.Place.{Place}
use Rattle.worlds.specs.Assignments.{Assignment, put}

-- The places put over an assignment one by one, so that the last one for a variable counts.
abbrev pub given : List Place → Assignment → Assignment
given [] a = a
given (p ∷ ps) a = given ps (put p.variable p.block a)
