-- How many cites there are, where so many of them are lines and so many are subproofs.
use Rattle.std.proofs.Common.{◌≡◌, ℕ, ◌+◌, Bool, true, false, List, [], ◌∷◌, length, get_or, refl, arith}
use Rattle.std.specs.Prelude.{◌&&◌, ◌==◌}
use Rattle.std.proofs.lemmas.Bool.{eqb-true}
use Rattle.deriv_laws.specs.declared.line.Cite.{Cite}
use Rattle.nested_proofs.specs.CiteTests.{lines_cited, subproofs_cited}
use Rattle.nested_proofs.proofs.CiteFaults.{all_cited}

pub both : (a b : Bool) → (a && b) ≡ true → (a ≡ true) × (b ≡ true)
both true b e = (refl, e)
both false b e = cc

pub exactly : (k m i j : ℕ) → ((k == i) && (m == j)) ≡ true → (k ≡ i) × (m ≡ j)
exactly k m i j e = let h = both (k == i) (m == j) e in (eqb-true k i h.0, eqb-true m j h.1)

-- so many cites
pub in_all : (cs : List Cite) (k m : ℕ) → (lines_cited cs ≡ k) × (subproofs_cited cs ≡ m) → length cs ≡ k + m
in_all cs k m h = omega (arith, all_cited cs, h.0, h.1)

pub pair_of : (cs : List Cite) (d : Cite) → length cs ≡ 2 → cs ≡ get_or cs 0 d ∷ get_or cs 1 d ∷ []
pair_of [] d e = absurd (omega (arith, e))
pair_of (x ∷ []) d e = absurd (omega (arith, e))
pair_of (x ∷ y ∷ []) d e = refl
pair_of (x ∷ y ∷ z ∷ cs) d e = absurd (omega (arith, e))

pub single : (cs : List Cite) (d : Cite) → length cs ≡ 1 → cs ≡ get_or cs 0 d ∷ []
single [] d e = absurd (omega (arith, e))
single (x ∷ []) d e = refl
single (x ∷ y ∷ cs) d e = absurd (omega (arith, e))
