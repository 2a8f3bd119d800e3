use Rattle.std.proofs.Common.{length, arith, ap}
use Rattle.physical_lines.proofs.Lengths.{trimmed_fits}
use Rattle.sentence_lists.proofs.list.put_line.Goals as goal

pub read_sentence-requires : goal.read_sentence-requires
read_sentence-requires c = omega (arith, ap length c.trim.ensures.value, trimmed_fits c.args.line.now, c.requires)
