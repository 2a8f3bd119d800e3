use Rattle.std.proofs.Common.{◌+◌, drop, sym, ◌∙◌}
use Rattle.boole_table.specs.declared.table.Question.TheVariants.{Tautology}
use Rattle.boole_table.specs.Verdict.{wrong_answers}
use Rattle.boole_table.proofs.Scanning.{answer_fails}
use Rattle.boole_table.proofs.answers.first_wrong_answer.Goals as goal

pub returns-then-not-is_said : goal.returns-then-not-is_said
returns-then-not-is_said c = record {
  value = (
    wrong_answers c.args.standard.now c.args.answers.now (c.loop-index.index + 1 + 1) (drop (c.loop-index.index + 1) c.args.questions.now),
    sym c.loop-index.invariant
        ∙ answer_fails c.args.standard.now c.args.answers.now c.args.questions.now c.loop-index.index (Tautology 0) c.decide.result c.loop-index-test.true c.decide.ensures.value c.if-not-is_said.ensures.value,
  );
}
