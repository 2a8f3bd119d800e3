-- How the code looks for a constant around a line: back over the lines, past those of closed subproofs.
use Rattle.std.specs.Prelude.{ℕ, zero, suc, min, nat_le, Bool, true, false, ◌&&◌, ◌||◌, if◌then◌else◌, List, slice_get, Option, Some, None}
use Rattle.std.specs.Str.{bytes_eq}
use Rattle.fol_core.specs.declared.sent.Sent.{Sent}
use Rattle.fol_core.specs.Word.{Word}
use Rattle.fol_core.specs.Subst.{occurs}
use Rattle.deriv_laws.specs.declared.line.FlatLine.{FlatLine}
use Rattle.nested_proofs.specs.Items.{opens}
use Rattle.nested_proofs.specs.Levels.{level}

-- The sentence, where there is one, has the name c in it.
abbrev pub states_name : Word → Option Sent → Bool
states_name c None = false
states_name c (Some s) = occurs c s

-- The word, where there is one, is c.
abbrev pub is_word : Word → Option Word → Bool
is_word c None = false
is_word c (Some w) = bytes_eq w c

-- The line speaks of c: its sentence has the name c in it, or the subproof that it opens boxes c.
abbrev pub speaks_of : Word → FlatLine → Bool
speaks_of c l = states_name c l.sentence || (opens l.rule && is_word c l.boxed)

-- What goes on from a line: the line counts where its depth is at most v, and before it those count whose
-- depth is at most its level too.
abbrev pub silent_before : Word → ℕ → (ℕ → Bool) → Option FlatLine → Bool
silent_before c v earlier None = true
silent_before c v earlier (Some l) = if nat_le l.depth v && speaks_of c l then false else earlier (min v (level l))

-- None of the first k lines speaks of c, those aside that stand in subproofs closed before a line of level v.
abbrev pub silent : Word → List FlatLine → ℕ → ℕ → Bool
silent c ls zero v = true
silent c ls (suc k) v = silent_before c v (silent c ls k) (slice_get ls k)
