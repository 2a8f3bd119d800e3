-- The sentence of a group, by the number of its parts.
use Rattle.std.proofs.Common.{◌≡◌, ◌≢◌, List, [], ◌∷◌, ◌++◌, length, refl}
use Rattle.fol_core.specs.declared.sent.Sent.{Sent}
use Rattle.fol_core.specs.declared.sent.Sent.TheVariants.{And, Or}
use Rattle.fol_text.specs.Machine.{conjoined, disjoined}

pub conjoined_alone : (ps : List Sent) (s : Sent) → length ps ≡ 0 → conjoined ps s ≡ s
unfolding conjoined
conjoined_alone [] s e = refl
conjoined_alone (p ∷ ps) s e = cc

pub conjoined_chain : (ps : List Sent) (s : Sent) → length ps ≢ 0 → conjoined ps s ≡ And (ps ++ s ∷ [])
unfolding conjoined
conjoined_chain [] s h = absurd (h refl)
conjoined_chain (p ∷ ps) s h = refl

pub disjoined_alone : (ps : List Sent) (s : Sent) → length ps ≡ 0 → disjoined ps s ≡ s
unfolding disjoined
disjoined_alone [] s e = refl
disjoined_alone (p ∷ ps) s e = cc

pub disjoined_chain : (ps : List Sent) (s : Sent) → length ps ≢ 0 → disjoined ps s ≡ Or (ps ++ s ∷ [])
unfolding disjoined
disjoined_chain [] s h = absurd (h refl)
disjoined_chain (p ∷ ps) s h = refl
