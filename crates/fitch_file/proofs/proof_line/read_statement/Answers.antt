use Rattle.std.proofs.Common.{◌≢◌, [], ap, length, arith}
use Rattle.std.proofs.lemmas.Bool.Decides.{nat_tests}
use Rattle.fitch_file.proofs.Stating.{stated_found, stated_refused}
use Rattle.fitch_file.proofs.proof_line.read_statement.Goals as goal

pub returns-in-Ok-clause-exact : goal.returns-in-Ok-clause-exact
returns-in-Ok-clause-exact c =
    let some : c.args.text.now ≢ [] = λ e. let l = ap length e in grind (arith, nat_tests, l) in
    stated_found c.args.text.now c.read_sentence.result c.in-Ok.sentence some c.in-Ok.is c.read_sentence.ensures.exact

pub returns-in-Err-clause-exact : goal.returns-in-Err-clause-exact
returns-in-Err-clause-exact c =
    let some : c.args.text.now ≢ [] = λ e. let l = ap length e in grind (arith, nat_tests, l) in
    stated_refused c.args.text.now c.read_sentence.result c.in-Err.fault c.fault_of.result some c.in-Err.is c.fault_of.ensures c.read_sentence.ensures.exact
