-- The sentences of a list have few nodes.
use Rattle.std.specs.Str.Lines.{lines}
use Rattle.proof_rows.proofs.Few.{listed_few}
use Rattle.proof_rows.proofs.tables.listed.Goals as goal

pub returns-in-Ok : goal.returns-in-Ok
returns-in-Ok c = record { small = listed_few (lines c.args.text.now) c.in-Ok.sentences c.in-Ok.ensures.read }
