use Rattle.std.proofs.Common.{◌≡◌}
use Rattle.std.specs.List.{AllWithin}
use Rattle.std.specs.Prelude.{false}
use Rattle.deriv_laws.specs.Discharge.{alike}
use Rattle.taut_con.proofs.values.place_of.Given as goal

abbrev pub invariant-loop-i : goal.invariant-loop-i
invariant-loop-i l = AllWithin (λ y. alike y l.letter ≡ false) l.letters 0 l.i
