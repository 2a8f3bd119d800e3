use Rattle.std.proofs.Common.{arith}
use Rattle.std.proofs.lemmas.Grind.{common_steps}
use Rattle.boole_table.proofs.PrintingTables.{table_back}
use Rattle.boole_table.proofs.print.print_table.Goals as goal

pub returns-clause-read_back : goal.returns-clause-read_back
returns-clause-read_back c = λ back. table_back c.args.t.now c.add_rows.new.text (grind (arith, common_steps)) back
