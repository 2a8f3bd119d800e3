use Rattle.std.proofs.Common.{length, ap, sym, subst, arith}
use Rattle.fol_text.specs.Readable.{IsReadable}
use Rattle.boole_table.proofs.Lining.{trimmed_fits}
use Rattle.boole_table.proofs.Listing.{refused_one}
use Rattle.boole_table.proofs.list_line.read_one.Goals as goal

pub read_sentence-requires : goal.read_sentence-requires
read_sentence-requires c = omega (arith, ap length c.trim.ensures.value, trimmed_fits c.args.text.now, c.requires)

pub returns-in-Err : goal.returns-in-Err
returns-in-Err c =
    refused_one c.args.text.now c.read_sentence.result c.in-Err.fault c.none_unless_memory.result c.in-Err.is
    (λ s h. c.read_sentence.ensures.exact s (subst (λ t. IsReadable t s) (sym c.trim.ensures.value) h)) c.none_unless_memory.ensures
