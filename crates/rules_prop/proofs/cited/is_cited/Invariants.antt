use Rattle.std.proofs.Common.{drop, Contains}
use Rattle.nested_proofs.specs.ReadOff.{sentences_read}
use Rattle.rules_prop.proofs.cited.is_cited.Given as goal

abbrev pub invariant-loop-cite : goal.invariant-loop-cite
invariant-loop-cite l = record {
  on : Contains (sentences_read l.lines l.cites) l.s → Contains (sentences_read l.lines (drop l.cite-index l.cites)) l.s;
  back : Contains (sentences_read l.lines (drop l.cite-index l.cites)) l.s → Contains (sentences_read l.lines l.cites) l.s;
}
