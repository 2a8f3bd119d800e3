use Rattle.std.proofs.Common.{◌≡◌, drop}
use Rattle.nested_proofs.specs.CiteTests.{lines_cited}
use Rattle.nested_proofs.specs.ReadOff.{sentences_read}
use Rattle.nested_proofs.proofs.read_off.only_cited.Given as goal

abbrev pub invariant-loop-cite : goal.invariant-loop-cite
invariant-loop-cite l = record {
  same : sentences_read l.lines l.cites ≡ sentences_read l.lines (drop l.cite-index l.cites);
  one : lines_cited (drop l.cite-index l.cites) ≡ 1;
}
