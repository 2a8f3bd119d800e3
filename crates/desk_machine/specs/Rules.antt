-- A course's rules: functions of texts.
use Rattle.std.specs.Prelude.{◌≡◌, ⊤, ℕ, List, Result, Ok, Err, IfOk}
use Rattle.std.specs.declared.alloc.AllocError.{AllocError}
use Rattle.desk_keeper.specs.declared.rows.Settings.{Settings}
use Rattle.desk_keeper.specs.declared.rows.Grade.{Grade}
use Rattle.desk_machine.specs.declared.grader.Refusal.{Refusal}
use Rattle.desk_machine.specs.declared.grader.SettingsFault.{SettingsFault}
use Rattle.desk_machine.specs.declared.grader.SettingsFault.TheVariants.{Refused, Memory}
use Rattle.desk_machine.specs.declared.grader.DueFault.{DueFault}
use Rattle.desk_machine.specs.declared.grader.DueFault.TheVariants as due

-- The settings of an exercise by the zone and its text; the grade of a file by an exercise's text; the moment of a civil time by the zone.
pub record Rules : Type 0 where
  pub settings : List ℕ → List ℕ → Result Settings Refusal
  pub grade : List ℕ → List ℕ → Grade
  pub due : List ℕ → List ℕ → Result ℕ DueFault

-- The answer is the function's value, or want of memory.
abbrev pub Sets : Result Settings Refusal → Result Settings SettingsFault → Type 0
Sets told (Ok settings) = told ≡ Ok settings
Sets told (Err (Refused code field)) = told ≡ Err (record { code = code; field = field })
Sets told (Err Memory) = ⊤

abbrev pub Grades : Grade → Result Grade AllocError → Type 0
Grades told result = IfOk result (λ grade. grade ≡ told)

abbrev pub Dues : Result ℕ DueFault → Result ℕ DueFault → Type 0
Dues told (Ok moment) = told ≡ Ok moment
Dues told (Err due.ZoneRefused) = told ≡ Err due.ZoneRefused
Dues told (Err due.DateRefused) = told ≡ Err due.DateRefused
Dues told (Err due.Memory) = ⊤
