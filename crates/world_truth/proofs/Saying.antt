-- What a predicate says of more than three places: nothing; and what its converse says.
use Rattle.std.proofs.Common.{◌≡◌, ◌≤◌, false, List, [], ◌∷◌, length, map, arith, refl}
use Rattle.std.specs.Prelude.{Option, Some, None}
use Rattle.fol_core.specs.declared.sent.Term.{Term}
use Rattle.worlds.specs.declared.block.Block.{Block}
use Rattle.worlds.specs.declared.predicate.Predicate.{Predicate}
use Rattle.worlds.specs.Predicates.{says, says_of_two, is_true_of}

four : (q : Predicate) (o p r s : Option Block) (bs : List (Option Block)) → says q (o ∷ p ∷ r ∷ s ∷ bs) ≡ false
four q None p r s bs = refl
four q (Some b) None r s bs = refl
four q (Some b) (Some c) None s bs = refl
four q (Some b) (Some c) (Some d) s bs = refl

pub many_places : (o : Option Predicate) (f : Term → Option Block) (ts : List Term) → 4 ≤ length ts → is_true_of o (map f ts) ≡ false
many_places None f ts h = refl
many_places (Some q) f [] h = absurd (omega (arith, h))
many_places (Some q) f (t ∷ []) h = absurd (omega (arith, h))
many_places (Some q) f (t ∷ u ∷ []) h = absurd (omega (arith, h))
many_places (Some q) f (t ∷ u ∷ v ∷ []) h = absurd (omega (arith, h))
many_places (Some q) f (t ∷ u ∷ v ∷ x ∷ ts) h = four q (f t) (f u) (f v) (f x) (map f ts)

pub says_converse : (p q : Predicate) → ((b c : Block) → says_of_two q b c ≡ says_of_two p c b) → (b : Block) (o : Option Block) → says q (Some b ∷ o ∷ []) ≡ says p (o ∷ Some b ∷ [])
says_converse p q h b None = refl
says_converse p q h b (Some c) = h b c
