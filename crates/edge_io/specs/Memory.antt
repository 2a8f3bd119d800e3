-- What callers see of the edges in memory.
use Rattle.std.specs.Prelude.{ℕ, List}
use Rattle.edge_io.specs.Calls.{Tally}

-- A source in memory: the bytes that are left, the most that one call gives, and its calls.
pub record MemInput : Type 0 where
  pub left : List ℕ
  pub piece : ℕ
  pub calls : Tally

-- A sink in memory: the bytes that were taken, how many more it has room for, the most that one call takes, and its calls.
pub record MemOutput : Type 0 where
  pub taken : List ℕ
  pub room : ℕ
  pub piece : ℕ
  pub calls : Tally
