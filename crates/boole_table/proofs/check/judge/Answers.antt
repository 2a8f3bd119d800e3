use Rattle.std.proofs.Common.{[], sym, ap, ap₂, ◌∙◌, refl, length, replicate, false}
use Rattle.boole_table.specs.declared.table.TableVerdict.TheVariants.{MissingRow, WrongAssessment}
use Rattle.boole_table.specs.StandardTable.{standard_rows}
use Rattle.boole_table.specs.Verdict.{row_faults, missing_rows, wrong_answers}
use Rattle.boole_table.specs.Judges.{seen_flags}
use Rattle.boole_table.proofs.Scanning.{rows_long}
use Rattle.boole_table.proofs.Seeing.{none_seen}
use Rattle.boole_table.proofs.Judging.{in_second, in_third, in_none}
use Rattle.boole_table.proofs.MissingRows.{flags_kept, few_missing, missing_first, none_missing}
use Rattle.boole_table.proofs.check.judge.Goals as goal

pub first_wrong_row-requires-clause-unseen : goal.first_wrong_row-requires-clause-unseen
first_wrong_row-requires-clause-unseen c =
    c.deref_mut.ensures.value ∙ c.in_ok-seen.ensures
    ∙ ap (λ n. replicate n false) (ap length c.requires.are ∙ rows_long c.args.standard.letters.now c.args.standard.sentences.now)
    ∙ none_seen c.as_slice-columns.result.now c.args.standard.letters.now

pub first_missing-requires : goal.first_missing-requires
first_missing-requires c =
    let seen = c.in_default.ensures.seen refl ∙ ap₂ (λ x y. seen_flags x c.args.standard.letters.now y) c.as_slice-columns.ensures.value c.as_slice-rows.ensures.value in
    let flags = flags_kept c.args.found.now.table.letters c.args.standard.letters.now c.args.standard.sentences.now c.args.found.now.table.rows c.args.standard.rows.now c.deref.result.now c.in_ok-seen.seen.items c.first_wrong_row.new.seen c.in_ok-seen.seen.len c.deref.ensures.value c.in_ok-seen.seen.ok.0 c.in_ok-seen.ensures c.requires.are seen in
    few_missing c.args.found.now.table.letters c.args.standard.letters.now c.args.found.now.table.rows c.deref.result.now flags c.requires.few

pub returns-in-Some-first_missing : goal.returns-in-Some-first_missing
returns-in-Some-first_missing c =
    let seen = c.in_default.ensures.seen refl ∙ ap₂ (λ x y. seen_flags x c.args.standard.letters.now y) c.as_slice-columns.ensures.value c.as_slice-rows.ensures.value in
    let flags = flags_kept c.args.found.now.table.letters c.args.standard.letters.now c.args.standard.sentences.now c.args.found.now.table.rows c.args.standard.rows.now c.deref.result.now c.in_ok-seen.seen.items c.first_wrong_row.new.seen c.in_ok-seen.seen.len c.deref.ensures.value c.in_ok-seen.seen.ok.0 c.in_ok-seen.ensures c.requires.are seen in
    let right = ap₂ (λ x y. row_faults x c.args.standard.letters.now c.args.standard.sentences.now [] 1 y) (sym c.as_slice-columns.ensures.value) (sym c.as_slice-rows.ensures.value) ∙ c.in_default.ensures.value in
    in_second (row_faults c.args.found.now.table.letters c.args.standard.letters.now c.args.standard.sentences.now [] 1 c.args.found.now.table.rows) (missing_rows c.args.found.now.table.letters c.args.standard.letters.now c.args.found.now.table.rows) (wrong_answers (standard_rows c.args.standard.letters.now c.args.standard.sentences.now) c.args.found.now.answers 1 c.args.questions.now) (MissingRow c.in-Some-first_missing.row) right
    (missing_first c.args.found.now.table.letters c.args.standard.letters.now c.args.found.now.table.rows c.deref.result.now c.in-Some-first_missing.row flags c.in-Some-first_missing.ensures.value)

pub returns-in-Some-first_wrong_answer : goal.returns-in-Some-first_wrong_answer
returns-in-Some-first_wrong_answer c =
    let seen = c.in_default.ensures.seen refl ∙ ap₂ (λ x y. seen_flags x c.args.standard.letters.now y) c.as_slice-columns.ensures.value c.as_slice-rows.ensures.value in
    let flags = flags_kept c.args.found.now.table.letters c.args.standard.letters.now c.args.standard.sentences.now c.args.found.now.table.rows c.args.standard.rows.now c.deref.result.now c.in_ok-seen.seen.items c.first_wrong_row.new.seen c.in_ok-seen.seen.len c.deref.ensures.value c.in_ok-seen.seen.ok.0 c.in_ok-seen.ensures c.requires.are seen in
    let right = ap₂ (λ x y. row_faults x c.args.standard.letters.now c.args.standard.sentences.now [] 1 y) (sym c.as_slice-columns.ensures.value) (sym c.as_slice-rows.ensures.value) ∙ c.in_default.ensures.value in
    let none = none_missing c.args.found.now.table.letters c.args.standard.letters.now c.args.found.now.table.rows c.deref.result.now flags c.in_default-first_missing.ensures.value in
    let same = ap₂ (λ x y. wrong_answers x y 1 c.args.questions.now) (sym c.requires.are) (sym c.as_slice.ensures.value) in
    let wrong = c.in-Some-first_wrong_answer.ensures.value in
    in_third (row_faults c.args.found.now.table.letters c.args.standard.letters.now c.args.standard.sentences.now [] 1 c.args.found.now.table.rows) (missing_rows c.args.found.now.table.letters c.args.standard.letters.now c.args.found.now.table.rows) (wrong_answers (standard_rows c.args.standard.letters.now c.args.standard.sentences.now) c.args.found.now.answers 1 c.args.questions.now) (WrongAssessment c.in-Some-first_wrong_answer.question) right none (wrong.0, same ∙ wrong.1)

pub returns : goal.returns
returns c =
    let seen = c.in_default.ensures.seen refl ∙ ap₂ (λ x y. seen_flags x c.args.standard.letters.now y) c.as_slice-columns.ensures.value c.as_slice-rows.ensures.value in
    let flags = flags_kept c.args.found.now.table.letters c.args.standard.letters.now c.args.standard.sentences.now c.args.found.now.table.rows c.args.standard.rows.now c.deref.result.now c.in_ok-seen.seen.items c.first_wrong_row.new.seen c.in_ok-seen.seen.len c.deref.ensures.value c.in_ok-seen.seen.ok.0 c.in_ok-seen.ensures c.requires.are seen in
    let right = ap₂ (λ x y. row_faults x c.args.standard.letters.now c.args.standard.sentences.now [] 1 y) (sym c.as_slice-columns.ensures.value) (sym c.as_slice-rows.ensures.value) ∙ c.in_default.ensures.value in
    let none = none_missing c.args.found.now.table.letters c.args.standard.letters.now c.args.found.now.table.rows c.deref.result.now flags c.in_default-first_missing.ensures.value in
    let same = ap₂ (λ x y. wrong_answers x y 1 c.args.questions.now) (sym c.requires.are) (sym c.as_slice.ensures.value) in
    in_none (row_faults c.args.found.now.table.letters c.args.standard.letters.now c.args.standard.sentences.now [] 1 c.args.found.now.table.rows) (missing_rows c.args.found.now.table.letters c.args.standard.letters.now c.args.found.now.table.rows) (wrong_answers (standard_rows c.args.standard.letters.now c.args.standard.sentences.now) c.args.found.now.answers 1 c.args.questions.now) right none (same ∙ c.in-None.ensures.value)
