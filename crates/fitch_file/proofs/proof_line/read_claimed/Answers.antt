use Rattle.std.proofs.Common.{refl}
use Rattle.deriv_laws.specs.declared.line.FlatLine.{FlatLine}
use Rattle.fitch_file.specs.Readers.{claim_of}
use Rattle.fitch_file.proofs.Stating.{claimed_found}
use Rattle.fitch_file.proofs.proof_line.read_claimed.Goals as goal

pub returns-clause-exact : goal.returns-clause-exact
returns-clause-exact c = λ l _ h.
    let m : FlatLine = record { depth = c.args.depth; boxed = c.in_ok-boxed.boxed; sentence = c.in_ok-sentence.sentence; rule = c.args.claim.now.rule; cites = c.in_ok-cites.cites } in
    claimed_found c.args.depth (claim_of c.args.claim.now) m l c.read_statement.result c.in_ok-sentence.was c.read_statement.ensures.exact refl c.in_ok-boxed.ensures refl c.in_ok-cites.ensures.read h
