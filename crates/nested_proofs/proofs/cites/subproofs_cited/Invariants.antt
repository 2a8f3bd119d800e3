use Rattle.std.proofs.Common.{◌≡◌, ◌≤◌, take}
use Rattle.nested_proofs.specs.CiteTests.{subproofs_cited}
use Rattle.nested_proofs.proofs.cites.subproofs_cited.Given as goal

abbrev pub invariant-loop-cite : goal.invariant-loop-cite
invariant-loop-cite l = record {
  counted : l.count ≡ subproofs_cited (take l.cite-index l.cites);
  few : l.count ≤ l.cite-index;
}
