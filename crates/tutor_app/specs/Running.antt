-- What a run of the program shows at its edges, by what is asked for.
use Rattle.std.specs.Prelude.{◌≡◌, ℕ, List, Some}
use Rattle.std.specs.declared.option.Option.{Option}
use Rattle.edge_io.specs.Shelves.{TextsByName}
use Rattle.tutor_app.specs.Check.{check_answers}
use Rattle.tutor_app.specs.Table.{table_answers}
use Rattle.tutor_app.specs.Play.{play_answers}
use Rattle.tutor_app.specs.World.{IsWorldText, text_answers}
use Rattle.tutor_app.specs.Run.{ToolRuns, ToolRunsOn}
use Rattle.tutor_app.specs.ShelvedRun.{ShelvedRuns, ShelvedRunsOn}
use Rattle.tutor_app.specs.Words.{Request, to_check, to_tabulate, to_play, to_evaluate, nothing}

-- What was read and written, with which status, over a shelf of these texts. `unread` says that the input is as it was.
abbrev pub RunsAs : Request → Option TextsByName → Type 0 → Option (List ℕ) → Option (List ℕ) → Option (List ℕ) → Option (List ℕ) → ℕ → Type 0
RunsAs to_check texts unread left left' taken taken' code = ToolRuns check_answers left left' taken taken' code
RunsAs to_tabulate texts unread left left' taken taken' code = ToolRuns table_answers left left' taken taken' code
RunsAs to_play texts unread left left' taken taken' code = ToolRuns play_answers left left' taken taken' code
RunsAs (to_evaluate name) texts unread left left' taken taken' code = ShelvedRuns IsWorldText text_answers texts name unread left left' taken taken' code
RunsAs nothing texts unread left left' taken taken' code = code ≡ 2

-- The same where the input is told, and the texts of a shelf that is asked for one: the input is these bytes.
abbrev pub RunsOn : Request → Option TextsByName → Type 0 → List ℕ → Option (List ℕ) → Option (List ℕ) → Option (List ℕ) → ℕ → Type 0
RunsOn to_check shelf unread bytes left' taken taken' code = ToolRunsOn check_answers bytes left' taken taken' code
RunsOn to_tabulate shelf unread bytes left' taken taken' code = ToolRunsOn table_answers bytes left' taken taken' code
RunsOn to_play shelf unread bytes left' taken taken' code = ToolRunsOn play_answers bytes left' taken taken' code
RunsOn (to_evaluate name) shelf unread bytes left' taken taken' code =
    (texts : TextsByName) → shelf ≡ Some texts → ShelvedRunsOn IsWorldText text_answers (texts name) name unread bytes left' taken taken' code
RunsOn nothing shelf unread bytes left' taken taken' code = code ≡ 2
