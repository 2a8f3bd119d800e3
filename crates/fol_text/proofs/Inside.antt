-- Inside a group no text ends.
use Rattle.std.proofs.Common.{◌≡◌, List, [], ◌∷◌, Err, refl}
use Rattle.fol_text.specs.declared.fault.Refusal.TheVariants.{Unexpected}
use Rattle.fol_text.specs.declared.state.Mode.{Mode}
use Rattle.fol_text.specs.declared.state.Mode.TheVariants.{WantsPart, WantsVariable, HasPredicate, WantsTerm, HasTerm, HasPart}
use Rattle.fol_text.specs.declared.state.Group.{Group}
use Rattle.fol_text.specs.Machine.{ended_in}

pub inside_ends : (m : Mode) (h g : Group) (o : List Group) → ended_in m h (g ∷ o) ≡ Err Unexpected
inside_ends WantsPart h g o = refl
inside_ends (WantsVariable q) h g o = refl
inside_ends (HasPredicate p) h g o = refl
inside_ends (WantsTerm spot cs) h g o = refl
inside_ends (HasTerm spot cs r) h g o = refl
inside_ends (HasPart s) h g o = refl
