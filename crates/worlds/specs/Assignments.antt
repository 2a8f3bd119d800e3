-- Assignments: finite maps from names, variables, and function symbols with lists of blocks, to blocks.
use Rattle.std.specs.Prelude.{◌≡◌, ℕ, Bool, true, ◌&&◌, nat_le, List, [], ◌∷◌, length, map, Option, if◌then◌else◌}
use Rattle.std.specs.List.{list_all}
use Rattle.std.specs.Str.{bytes_eq}
use Rattle.fol_core.specs.Word.{Word}
use Rattle.fol_core.specs.declared.sent.Term.{Term}
use Rattle.fol_core.specs.declared.sent.Term.TheOpen.{Term-F}
use Rattle.fol_core.specs.declared.sent.Term.TheOpen as t
use Rattle.fol_core.specs.declared.sent.Term.TheFolds.{fold-Term}
use Rattle.worlds.specs.declared.block.Block.{Block}
use Rattle.worlds.specs.Geometry.{letters}
use Rattle.worlds.specs.Worlds.{block_at, bearer}

-- A name or a variable, with the number of the block that it stands for.
pub record Standing : Type 0 where
  pub word : Word
  pub block : ℕ

-- A function symbol and the numbers of the blocks that it is applied to, with the number of the block that it gives for them.
pub record Value : Type 0 where
  pub symbol : Word
  pub arguments : List ℕ
  pub block : ℕ

-- An assignment: what variables, names and function symbols stand for. The first one for a word, or for a symbol and
-- arguments, counts.
pub record Assignment : Type 0 where
  pub variables : List Standing
  pub names : List Standing
  pub functions : List Value

-- The number of the block that the word stands for: block 1 where none is listed for it.
abbrev pub block_for : List Standing → Word → ℕ
block_for [] w = 1
block_for (s ∷ ss) w = if bytes_eq s.word w then s.block else block_for ss w

-- The number of the block that the symbol gives for the blocks of these numbers: block 1 where none is listed for them.
abbrev pub value_for : List Value → Word → List ℕ → ℕ
value_for [] g ns = 1
value_for (v ∷ vs) g ns = if bytes_eq v.symbol g && bytes_eq v.arguments ns then v.block else value_for vs g ns

-- The number of the block that the variable stands for.
abbrev pub variable_at : Assignment → Word → ℕ
variable_at a x = block_for a.variables x

-- The number of the block that the name stands for.
abbrev pub name_at : Assignment → Word → ℕ
name_at a n = block_for a.names n

-- One form of term: a function gives a block for the blocks of its arguments.
abbrev pub number_step : Assignment → Term-F ℕ → ℕ
number_step a (t.Var x) = variable_at a x
number_step a (t.Name n) = name_at a n
number_step a (t.App g ns) = value_for a.functions g ns

-- The number of the block that the term stands for.
abbrev pub number_at : Assignment → Term → ℕ
number_at a = fold-Term ℕ (number_step a)

-- The assignment by which the variable stands for the block of that number, and all else for what it stood for.
abbrev pub put : Word → ℕ → Assignment → Assignment
put x k a = record { variables = record { word = x; block = k } ∷ a.variables; names = a.names; functions = a.functions }

-- The assignment by the world's own names: each letter stands for the block that has it.
abbrev pub own_names : List Block → Assignment
own_names w = record { variables = []; names = map (λ l. record { word = l ∷ []; block = bearer w l }) letters; functions = [] }

-- The block that a term stands for in a world under an assignment.
abbrev pub block_of : List Block → Assignment → Term → Option Block
block_of w a t = block_at w (number_at a t)

-- The number is that of a block of the world.
abbrev pub is_number : List Block → ℕ → Bool
is_number w k = nat_le 1 k && nat_le k (length w)

-- An assignment to blocks of the world: whatever is listed stands for one of them.
pub record AreBlocks (w : List Block) (a : Assignment) : Type 0 where
  pub variables : list_all (λ s. is_number w s.block) a.variables ≡ true
  pub names : list_all (λ s. is_number w s.block) a.names ≡ true
  pub functions : list_all (λ v. is_number w v.block) a.functions ≡ true
