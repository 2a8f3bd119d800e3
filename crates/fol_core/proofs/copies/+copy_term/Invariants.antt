use Rattle.std.proofs.Common.{◌≡◌, take}
use Rattle.fol_core.proofs.copies.+copy_term.Given as goal

abbrev pub invariant-copy_terms-loop-term : goal.invariant-copy_terms-loop-term
invariant-copy_terms-loop-term l = l.copies ≡ take l.term-index l.terms
