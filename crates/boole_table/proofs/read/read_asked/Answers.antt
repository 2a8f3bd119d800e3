use Rattle.std.proofs.Common.{arith, rules}
use Rattle.physical_lines.specs.Physical.{IsHeader}
use Rattle.boole_table.specs.TableLines.{table_header}
use Rattle.boole_table.proofs.Lining.{header_long}
use Rattle.boole_table.proofs.read.read_asked.Goals as goal

pub read_from_letters-requires : goal.read_from_letters-requires
read_from_letters-requires c =
    let h : IsHeader table_header c.in-Some.first.line.now = c.is_header.ensures.0 (search rules) in
    omega (arith, header_long c.in-Some.first.line.now h, c.in-Some.ensures.within, c.requires)
