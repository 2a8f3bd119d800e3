use Rattle.std.proofs.Common.{rules}
use Rattle.fitch_file.proofs.PrintingLines.{proof_back}
use Rattle.fitch_file.proofs.print.print_proof.Goals as goal

pub returns-clause-read_back : goal.returns-clause-read_back
returns-clause-read_back c = λ back. proof_back c.args.proof.now c.add_lines.new.text (search rules) c.as_slice.ensures.lines back
