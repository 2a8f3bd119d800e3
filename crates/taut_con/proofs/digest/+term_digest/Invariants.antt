use Rattle.std.proofs.Common.{◌≡◌, map, take}
use Rattle.std.specs.List.{fold}
use Rattle.taut_con.specs.inside.Digests.{mix, term_digest}
use Rattle.taut_con.proofs.digest.+term_digest.Given as goal

abbrev pub invariant-mix_terms-loop-term : goal.invariant-mix_terms-loop-term
invariant-mix_terms-loop-term l = l.mixed ≡ fold mix l.start (map term_digest (take l.term-index l.terms))
