-- Bound variables, and closed sentences.
use Rattle.std.specs.Prelude.{Bool, true, false, ◌&&◌, ◌||◌, List, [], ◌∷◌}
use Rattle.std.specs.List.{list_all}
use Rattle.std.specs.Str.{bytes_eq}
use Rattle.fol_core.specs.Word.{Word}
use Rattle.fol_core.specs.Subst.{itself}
use Rattle.fol_core.specs.declared.sent.Term.{Term}
use Rattle.fol_core.specs.declared.sent.Term.TheOpen.{Term-F}
use Rattle.fol_core.specs.declared.sent.Term.TheOpen as t
use Rattle.fol_core.specs.declared.sent.Term.TheFolds.{fold-Term}
use Rattle.fol_core.specs.declared.sent.Sent.{Sent}
use Rattle.fol_core.specs.declared.sent.Sent.TheOpen.{Sent-F}
use Rattle.fol_core.specs.declared.sent.Sent.TheOpen as f
use Rattle.fol_core.specs.declared.sent.Sent.TheFolds.{fold-Sent}

-- The word is one of the words.
abbrev pub is_among : Word → List Word → Bool
is_among x [] = false
is_among x (y ∷ ys) = bytes_eq y x || is_among x ys

-- One form of term: a variable is among those that are bound, and each argument of a function is bound.
abbrev pub bound_step : List Word → Term-F Bool → Bool
bound_step bound (t.Var x) = is_among x bound
bound_step bound (t.Name n) = true
bound_step bound (t.App g bs) = list_all itself bs

-- Each variable in the term is among those that are bound where it stands.
abbrev pub is_bound : List Word → Term → Bool
is_bound bound = fold-Term Bool (bound_step bound)

-- A term is closed where no variable stands in it.
abbrev pub closed_term : Term → Bool
closed_term = is_bound []

-- One form of sentence under the variables bound around it: its terms are bound, its parts are closed under the same
-- variables, and the part of a quantifier under its variable too.
abbrev pub closed_step : Sent-F (List Word → Bool) → List Word → Bool
closed_step (f.Atom p ts) bound = list_all (is_bound bound) ts
closed_step (f.Eq a b) bound = is_bound bound a && is_bound bound b
closed_step f.Bottom bound = true
closed_step (f.Not g) bound = g bound
closed_step (f.And gs) bound = list_all (λ g. g bound) gs
closed_step (f.Or gs) bound = list_all (λ g. g bound) gs
closed_step (f.If g h) bound = g bound && h bound
closed_step (f.Iff g h) bound = g bound && h bound
closed_step (f.All x g) bound = g (x ∷ bound)
closed_step (f.Ex x g) bound = g (x ∷ bound)

-- Each variable of the sentence is bound in it, or is one of those bound around it.
abbrev pub closed_under : Sent → List Word → Bool
closed_under = fold-Sent (List Word → Bool) closed_step

-- A sentence is closed where each variable in it is bound in it.
abbrev pub closed : Sent → Bool
closed s = closed_under s []
