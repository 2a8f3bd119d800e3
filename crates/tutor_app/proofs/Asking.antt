-- Words ask for one thing, and a run shows what was asked for.
use Rattle.std.proofs.Common.{◌≡◌, ◌≢◌, ℕ, List, [], ◌∷◌, refl, sym, ap, ◌∙◌, Option, Some, arith}
use Rattle.edge_io.specs.Shelves.{TextsByName}
use Rattle.tutor_app.specs.Check.{check_answers, check_words}
use Rattle.tutor_app.specs.Table.{table_answers, table_words}
use Rattle.tutor_app.specs.Play.{play_answers, play_words}
use Rattle.tutor_app.specs.World.{IsWorldText, text_answers, world_words}
use Rattle.tutor_app.specs.Running.{RunsAs, RunsOn}
use Rattle.tutor_app.specs.Words.{Request, to_check, to_tabulate, to_play, to_evaluate, nothing, AskFor, AskForNothing}
use Rattle.tutor_app.proofs.Telling.{told_runs}
use Rattle.tutor_app.proofs.TellingShelves.{told_shelved, one_name}

abbrev first_byte : List (List ℕ) → ℕ
first_byte [] = 0
first_byte ([] ∷ ws) = 0
first_byte ((byte ∷ bytes) ∷ ws) = byte

-- A command's words are no others': their first letters differ.
check_table : check_words ≢ table_words
check_table = λ e. let d : 99 ≡ 116 = ap first_byte e in omega (arith, d)

check_play : check_words ≢ play_words
check_play = λ e. let d : 99 ≡ 112 = ap first_byte e in omega (arith, d)

table_play : table_words ≢ play_words
table_play = λ e. let d : 116 ≡ 112 = ap first_byte e in omega (arith, d)

check_world : (name : List ℕ) → check_words ≢ world_words name
check_world name = λ e. let d : 99 ≡ 119 = ap first_byte e in omega (arith, d)

table_world : (name : List ℕ) → table_words ≢ world_words name
table_world name = λ e. let d : 116 ≡ 119 = ap first_byte e in omega (arith, d)

play_world : (name : List ℕ) → play_words ≢ world_words name
play_world name = λ e. let d : 112 ≡ 119 = ap first_byte e in omega (arith, d)

-- Words ask for one thing.
pub asked_once : (words : List (List ℕ)) (a b : Request) → AskFor words a → AskFor words b → a ≡ b
asked_once words to_check to_check h k = refl
asked_once words to_check to_tabulate h k = absurd (check_table (sym h ∙ k))
asked_once words to_check to_play h k = absurd (check_play (sym h ∙ k))
asked_once words to_check (to_evaluate n) h k = absurd (check_world n (sym h ∙ k.0))
asked_once words to_check nothing h k = absurd (k.no_check h)
asked_once words to_tabulate to_check h k = absurd (check_table (sym k ∙ h))
asked_once words to_tabulate to_tabulate h k = refl
asked_once words to_tabulate to_play h k = absurd (table_play (sym h ∙ k))
asked_once words to_tabulate (to_evaluate n) h k = absurd (table_world n (sym h ∙ k.0))
asked_once words to_tabulate nothing h k = absurd (k.no_table h)
asked_once words to_play to_check h k = absurd (check_play (sym k ∙ h))
asked_once words to_play to_tabulate h k = absurd (table_play (sym k ∙ h))
asked_once words to_play to_play h k = refl
asked_once words to_play (to_evaluate n) h k = absurd (play_world n (sym h ∙ k.0))
asked_once words to_play nothing h k = absurd (k.no_play h)
asked_once words (to_evaluate m) to_check h k = absurd (check_world m (sym k ∙ h.0))
asked_once words (to_evaluate m) to_tabulate h k = absurd (table_world m (sym k ∙ h.0))
asked_once words (to_evaluate m) to_play h k = absurd (play_world m (sym k ∙ h.0))
asked_once words (to_evaluate m) (to_evaluate n) h k = ap to_evaluate (one_name words m n h.0 k.0)
asked_once words (to_evaluate m) nothing h k = absurd (k.no_world m h.1 h.0)
asked_once words nothing to_check h k = absurd (h.no_check k)
asked_once words nothing to_tabulate h k = absurd (h.no_table k)
asked_once words nothing to_play h k = absurd (h.no_play k)
asked_once words nothing (to_evaluate n) h k = absurd (h.no_world n k.1 k.0)
asked_once words nothing nothing h k = refl

-- A run over an input that is told.
pub runs_on : (asked : Request) (shelf : Option TextsByName) (unread : Type 0) (bytes : List ℕ) (left left' taken taken' : Option (List ℕ)) (code : ℕ) →
    left ≡ Some bytes → RunsAs asked shelf unread left left' taken taken' code → RunsOn asked shelf unread bytes left' taken taken' code
runs_on to_check shelf unread bytes left left' taken taken' code e runs = told_runs check_answers bytes left left' taken taken' code e runs
runs_on to_tabulate shelf unread bytes left left' taken taken' code e runs = told_runs table_answers bytes left left' taken taken' code e runs
runs_on to_play shelf unread bytes left left' taken taken' code e runs = told_runs play_answers bytes left left' taken taken' code e runs
runs_on (to_evaluate name) shelf unread bytes left left' taken taken' code e runs =
    λ texts h. told_shelved IsWorldText text_answers shelf texts name unread bytes left left' taken taken' code h e runs
runs_on nothing shelf unread bytes left left' taken taken' code e runs = runs
