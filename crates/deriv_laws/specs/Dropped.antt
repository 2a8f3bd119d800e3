-- How the check of trees goes over discharged assumptions: private descriptions of its code.
use Rattle.std.specs.Prelude.{ℕ, zero, suc, Bool, not, List, [], ◌∷◌, map, replicate, Option, Some, None}
use Rattle.std.specs.List.{list_all}
use Rattle.fol_core.specs.declared.sent.Sent.{Sent}
use Rattle.fol_core.specs.Word.{Word}
use Rattle.fol_core.specs.Subst.{occurs, subst_name}
use Rattle.deriv_laws.specs.Discharge.{parts_of_or, instance_of_ex}
use Rattle.deriv_laws.specs.declared.discharge.Discharge.{Discharge}
use Rattle.deriv_laws.specs.declared.discharge.Discharge.TheVariants as d
use Rattle.deriv_laws.specs.declared.discharge.Removed.{Removed}
use Rattle.deriv_laws.specs.declared.discharge.Removed.TheVariants as r
use Rattle.deriv_laws.specs.declared.discharge.Dropped.{Dropped, fold-Dropped}
use Rattle.deriv_laws.specs.declared.discharge.Dropped.TheOpen.{Dropped-F}
use Rattle.deriv_laws.specs.declared.discharge.Dropped.TheOpen as f

-- The sentence that is removed: it stands in the tree, or it is an instance that stands nowhere.
abbrev pub removed : Removed → Sent
removed (r.Whole s) = s.now
removed (r.Instance c x p) = subst_name x.now c.now p.now

-- The sentence that is removed, where there is one.
abbrev pub removed_of : Option Removed → List Sent
removed_of None = []
removed_of (Some s) = removed s ∷ []

-- One discharged sentence, before those further out.
abbrev pub sentences_step : Dropped-F (List Sent) → List Sent
sentences_step f.Nothing = []
sentences_step (f.More s rest) = removed s ∷ rest.now

-- The discharged sentences, those of the innermost node first.
abbrev pub sentences : Dropped → List Sent
sentences = fold-Dropped (List Sent) sentences_step

-- What is discharged in each part.
abbrev pub in_parts : Discharge → List (List Sent)
in_parts d.Nowhere = []
in_parts (d.Throughout s count) = replicate count (removed_of s)
in_parts (d.Both p q) = (p.now ∷ []) ∷ (q.now ∷ []) ∷ []
in_parts (d.Cases ps) = [] ∷ map (λ p. p ∷ []) ps.now
in_parts (d.Second s) = [] ∷ removed_of s ∷ []

-- The list at this place, and past the end the empty one.
abbrev pub list_at : List (List Sent) → ℕ → List Sent
list_at [] i = []
list_at (d ∷ ds) zero = d
list_at (d ∷ ds) (suc i) = list_at ds i

-- What proof by cases discharges, over the conclusions of its parts: nothing in the first part, and in each later one the
-- case in its place.
abbrev pub cases_of : List Sent → List (List Sent)
cases_of [] = []
cases_of (p ∷ ps) = [] ∷ map (λ q. q ∷ []) (parts_of_or p)

-- What existential elimination discharges, over the conclusions of its parts: in the second part, the instance by the
-- boxed constant.
abbrev pub instances_of : Option Word → List Sent → List (List Sent)
instances_of (Some c) (p ∷ ps) = [] ∷ instance_of_ex c p ∷ []
instances_of _ _ = []

-- The constant occurs in none of the sentences.
abbrev pub avoids : Word → List Sent → Bool
avoids c ss = list_all (λ s. not (occurs c s)) ss
