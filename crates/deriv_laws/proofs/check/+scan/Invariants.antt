use Rattle.std.proofs.Common.{◌<◌, take, length, Ok}
use Rattle.std.specs.List.{flat_map}
use Rattle.deriv_laws.specs.Trees.{nodes}
use Rattle.deriv_laws.specs.Scan.{IsScan}
use Rattle.deriv_laws.proofs.check.+scan.Given as goal

abbrev pub invariant-scan_all-loop-part : goal.invariant-scan_all-loop-part
invariant-scan_all-loop-part l = length (flat_map nodes l.parts) < 4294967296 → IsScan (flat_map nodes (take l.part-index l.parts)) (Ok l.before)
