-- The headers of a task text and of a proof text.
use Rattle.std.specs.Prelude.{ℕ, List, codes}

-- The header of a task text.
abbrev pub task_header : List ℕ
task_header = codes "task 1"

-- The header of a proof text.
abbrev pub proof_header : List ℕ
proof_header = codes "proof 1"
