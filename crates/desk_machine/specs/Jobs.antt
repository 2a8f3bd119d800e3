-- Jobs: which submission is to be graded by which version.
use Rattle.std.specs.Prelude.{ℕ, ◌+◌, ◌-◌, Bool, not, ◌&&◌, ◌==◌, nat_le, List, [], ◌∷◌, ◌++◌, flat_map, filter, slice_get, Some, None, if◌then◌else◌}
use Rattle.std.specs.Str.{bytes_eq}
use Rattle.std.specs.List.{find, list_any}
use Rattle.std.specs.declared.option.Option.{Option}
use Rattle.desk_keeper.specs.declared.rows.ExerciseRow.{ExerciseRow}
use Rattle.desk_keeper.specs.declared.rows.GradeRow.{GradeRow}
use Rattle.desk_keeper.specs.declared.rows.OrderRow.{OrderRow}
use Rattle.desk_keeper.specs.declared.rows.SubmissionRow.{SubmissionRow}
use Rattle.desk_keeper.specs.declared.tables.Tables.{Tables}
use Rattle.desk_machine.specs.declared.answers.Slip.{Slip}
use Rattle.desk_machine.specs.declared.jobs.Job.{Job}
use Rattle.desk_machine.specs.declared.plans.Held.{Held}
use Rattle.desk_machine.specs.Exercises.{text_of}

-- Each of these submissions by its own version, where the first of them has this ticket.
abbrev pub own_jobs : ℕ → List SubmissionRow → List Job
own_jobs ticket [] = []
own_jobs ticket (row ∷ rows) = record { ticket = ticket; version = row.version } ∷ own_jobs (ticket + 1) rows

-- Each of these submissions that the order is for, by the order's version.
abbrev pub ordered_jobs : OrderRow → ℕ → List SubmissionRow → List Job
ordered_jobs order ticket [] = []
ordered_jobs order ticket (row ∷ rows) = if bytes_eq row.name order.name && nat_le ticket order.upto
    then record { ticket = ticket; version = order.version } ∷ ordered_jobs order (ticket + 1) rows else ordered_jobs order (ticket + 1) rows

-- The jobs: first each submission by its own version, then for each order each submission that it is for. A job may stand in the list again.
abbrev pub jobs : Tables → List Job
jobs tables = own_jobs 1 tables.submissions ++ flat_map (λ order. ordered_jobs order 1 tables.submissions) tables.orders

-- A grade of the job is kept.
abbrev pub is_graded : List GradeRow → Job → Bool
is_graded grades job = list_any (λ row. row.ticket == job.ticket && row.version == job.version) grades

-- A worker holds the job.
abbrev pub is_held : List Held → Job → Bool
is_held held job = list_any (λ one. one.ticket == job.ticket && one.version == job.version) held

-- The job is open, and nobody holds it.
abbrev pub is_ready : List GradeRow → List Held → Job → Bool
is_ready grades held job = not (is_graded grades job) && not (is_held held job)

-- The first job that is open and isn't held.
abbrev pub next_job : Tables → List Held → Option Job
next_job tables held = find (is_ready tables.grades held) (jobs tables)

-- The submission with the ticket, which is its place from 1.
abbrev pub submission_of : List SubmissionRow → ℕ → Option SubmissionRow
submission_of rows ticket = if ticket == 0 then None else slice_get rows (ticket - 1)

-- What a worker needs for the job of this submission.
abbrev pub slip_by : Option SubmissionRow → List ExerciseRow → Job → Option Slip
slip_by None exercises job = None
slip_by (Some row) exercises job = Some (record { ticket = job.ticket; version = job.version; text = text_of exercises row.name job.version; file = row.file })

abbrev pub slip_for : Option Job → Tables → Option Slip
slip_for None tables = None
slip_for (Some job) tables = slip_by (submission_of tables.submissions job.ticket) tables.exercises job

-- What is offered to a worker.
abbrev pub offered : Tables → List Held → Option Slip
offered tables held = slip_for (next_job tables held) tables

-- This worker holds this job.
abbrev pub is_one : ℕ → ℕ → ℕ → Held → Bool
is_one worker ticket version one = one.worker == worker && one.ticket == ticket && one.version == version

abbrev pub holds : List Held → ℕ → ℕ → ℕ → Bool
holds held worker ticket version = list_any (is_one worker ticket version) held

-- What is held without this.
abbrev pub without : Held → List Held → List Held
without one held = filter (λ other. not (is_one one.worker one.ticket one.version other)) held
