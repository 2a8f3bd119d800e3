use Rattle.std.proofs.Common.{arith}
use Rattle.fitch_file.proofs.Lengths.{behind_fits}
use Rattle.fitch_file.specs.Declarations.{premise_word, goal_word}
use Rattle.fitch_file.proofs.Declaring.{declares_premise, declares_goal, declares_allowed, declares_none}
use Rattle.fitch_file.proofs.declaration.declare.Goals as goal

pub add_premise-requires : goal.add_premise-requires
add_premise-requires c = omega (arith, c.requires, behind_fits premise_word c.args.line.now c.in-Some.text.now c.in-Some.ensures)

pub returns-in-Some-clause-exact : goal.returns-in-Some-clause-exact
returns-in-Some-clause-exact c = λ after h. c.add_premise.ensures.exact after (declares_premise c.args.draft after c.args.line.now c.in-Some.text.now c.in-Some.ensures h)

pub add_goal-requires : goal.add_goal-requires
add_goal-requires c = omega (arith, c.requires, behind_fits goal_word c.args.line.now c.in-Some-text_behind.text.now c.in-Some-text_behind.ensures)

pub returns-in-Some-text_behind-clause-exact : goal.returns-in-Some-text_behind-clause-exact
returns-in-Some-text_behind-clause-exact c = λ after h. c.add_goal.ensures.exact after (declares_goal c.args.draft after c.args.line.now c.in-Some-text_behind.text.now c.in-Some-text_behind.ensures h)

pub returns-in-Some-text_behind-2-clause-exact : goal.returns-in-Some-text_behind-2-clause-exact
returns-in-Some-text_behind-2-clause-exact c = λ after h. c.add_allowed.ensures.exact after (declares_allowed c.args.draft after c.args.line.now c.in-Some-text_behind-2.text.now c.in-Some-text_behind-2.ensures h)

pub returns-in-None-clause-exact : goal.returns-in-None-clause-exact
returns-in-None-clause-exact c = λ after h. absurd (declares_none c.args.draft after c.args.line.now c.in_default.ensures c.in_default-text_behind.ensures c.in-None.ensures h)
