-- The desk as a machine.
use Rattle.std.specs.Prelude.{⊤, ℕ, true, false, List, [], ◌∷◌, ◌++◌, Result, Ok, Err, Some, None, if◌then◌else◌}
use Rattle.std.specs.declared.option.Option.{Option}
use Rattle.desk_keeper.specs.declared.rows.Grade.{Grade}
use Rattle.desk_keeper.specs.declared.rows.Row.TheVariants.{Graded}
use Rattle.desk_keeper.specs.declared.tables.Tables.{Tables}
use Rattle.desk_keeper.specs.Rows.{with_rows}
use Rattle.desk_machine.specs.declared.answers.Answer.{Answer}
use Rattle.desk_machine.specs.declared.answers.Answer.TheVariants as answer
use Rattle.desk_machine.specs.declared.answers.Slip.{Slip}
use Rattle.desk_machine.specs.declared.commands.Command.{Command}
use Rattle.desk_machine.specs.declared.commands.Command.TheVariants as command
use Rattle.desk_machine.specs.declared.faults.FinishFault.TheVariants.{NotTaken}
use Rattle.desk_machine.specs.declared.plans.Held.{Held}
use Rattle.desk_machine.specs.declared.plans.Hold.{Hold}
use Rattle.desk_machine.specs.declared.plans.Hold.TheVariants.{Stays, Takes, Drops}
use Rattle.desk_machine.specs.declared.plans.Plan.{Plan}
use Rattle.desk_machine.specs.declared.plans.Planned.{Planned}
use Rattle.desk_machine.specs.Books.{plan_book}
use Rattle.desk_machine.specs.Enrolling.{plan_roll}
use Rattle.desk_machine.specs.Extending.{plan_extend}
use Rattle.desk_machine.specs.Jobs.{holds, offered, without}
use Rattle.desk_machine.specs.Ordering.{plan_regrade}
use Rattle.desk_machine.specs.Reading.{plan_mine, plan_names, plan_one, plan_sheet}
use Rattle.desk_machine.specs.Rules.{Rules}
use Rattle.desk_machine.specs.Setting.{plan_set}
use Rattle.desk_machine.specs.Submitting.{plan_submit}
use Rattle.desk_machine.specs.Users.{user_of}

-- The course's zone, its tables, and the jobs that workers hold.
pub record State : Type 0 where
  pub zone : List ℕ
  pub tables : Tables
  pub held : List Held

-- What is planned, as a command's plan: no job is taken or let go.
abbrev pub planned : {T : Type 0} → (T → Answer) → Planned T → Plan
planned kind p = record { answer = kind p.answer; rows = p.rows; hold = Stays }

-- The answer, and nothing changes.
abbrev pub tells : Answer → Plan
tells told = record { answer = told; rows = []; hold = Stays }

-- A worker takes the job that is offered.
abbrev pub plan_take : ℕ → Option Slip → Plan
plan_take worker None = tells (answer.Take None)
plan_take worker (Some slip) = record { answer = answer.Take (Some slip); rows = []; hold = Takes (record { worker = worker; ticket = slip.ticket; version = slip.version }) }

-- A worker's grade of a job that it holds is kept, and the job is no longer held.
abbrev pub plan_finish : List Held → ℕ → ℕ → ℕ → Grade → Plan
plan_finish held worker ticket version grade = if holds held worker ticket version
    then record {
      answer = answer.Finish (Ok tt);
      rows = Graded (record { ticket = ticket; version = version; grade = grade }) ∷ [];
      hold = Drops (record { worker = worker; ticket = ticket; version = version });
    }
    else tells (answer.Finish (Err NotTaken))

-- A worker lets go of a job that it holds.
abbrev pub plan_release : List Held → ℕ → ℕ → ℕ → Plan
plan_release held worker ticket version = if holds held worker ticket version
    then record { answer = answer.Release true; rows = []; hold = Drops (record { worker = worker; ticket = ticket; version = version }) }
    else tells (answer.Release false)

-- What a command answers and changes.
abbrev pub plan : Rules → State → Command → Plan
plan rules s (command.Roll token users) = planned answer.Roll (plan_roll (user_of s.tables.users token) s.tables.users users)
plan rules s (command.SetExercise token name text) = planned answer.SetExercise (plan_set rules s.zone (user_of s.tables.users token) s.tables.exercises name text)
plan rules s (command.Extend token name student civil) = planned answer.Extend (plan_extend rules s.zone (user_of s.tables.users token) s.tables name student civil)
plan rules s (command.Submit token name key file moment) = planned answer.Submit (plan_submit (user_of s.tables.users token) s.tables (record { name = name; key = key; file = file; moment = moment }))
plan rules s (command.Mine token) = tells (answer.Mine (plan_mine (user_of s.tables.users token) s.tables))
plan rules s (command.One token number) = tells (answer.One (plan_one (user_of s.tables.users token) s.tables number))
plan rules s (command.Names token) = tells (answer.Names (plan_names (user_of s.tables.users token) s.tables.exercises))
plan rules s (command.Sheet token name) = tells (answer.Sheet (plan_sheet (user_of s.tables.users token) s.tables.exercises name))
plan rules s (command.Book token) = tells (answer.Book (plan_book (user_of s.tables.users token) s.tables))
plan rules s (command.Regrade token name) = planned answer.Regrade (plan_regrade (user_of s.tables.users token) s.tables name)
plan rules s (command.Take worker) = plan_take worker (offered s.tables s.held)
plan rules s (command.Finish worker ticket version grade) = plan_finish s.held worker ticket version grade
plan rules s (command.Release worker ticket version) = plan_release s.held worker ticket version

-- The jobs that are held afterwards.
abbrev pub held_after : List Held → Hold → List Held
held_after held Stays = held
held_after held (Takes one) = held ++ one ∷ []
held_after held (Drops one) = without one held

-- The state afterwards: the rows stand last in their tables.
abbrev pub next : State → Plan → State
next s p = record { zone = s.zone; tables = with_rows s.tables p.rows; held = held_after s.held p.hold }

-- One answer and one next state.
abbrev pub step : Rules → State → Command → Answer × State
step rules s c = ((plan rules s c).answer, next s (plan rules s c))

-- The command is a request, and no worker's.
abbrev pub IsRequest : Command → Type 0
IsRequest (command.Take worker) = ⊥
IsRequest (command.Finish worker ticket version grade) = ⊥
IsRequest (command.Release worker ticket version) = ⊥
IsRequest c = ⊤

-- The command is a request that changes nothing.
abbrev pub IsReading : Command → Type 0
IsReading (command.Mine token) = ⊤
IsReading (command.One token number) = ⊤
IsReading (command.Names token) = ⊤
IsReading (command.Sheet token name) = ⊤
IsReading (command.Book token) = ⊤
IsReading c = ⊥
