-- A number for each signed sentence, by which the trail looks it up.
use Rattle.std.specs.Prelude.{ℕ, Bool, true, false, ◌+◌, ◌*◌, ◌%◌, List, [], ◌∷◌, map}
use Rattle.fol_core.specs.declared.sent.Term.{Term}
use Rattle.fol_core.specs.declared.sent.Term.TheOpen.{Term-F}
use Rattle.fol_core.specs.declared.sent.Term.TheOpen as t
use Rattle.fol_core.specs.declared.sent.Term.TheFolds.{fold-Term}
use Rattle.fol_core.specs.declared.sent.Sent.{Sent}
use Rattle.fol_core.specs.declared.sent.Sent.TheOpen.{Sent-F}
use Rattle.fol_core.specs.declared.sent.Sent.TheOpen as f
use Rattle.fol_core.specs.declared.sent.Sent.TheFolds.{fold-Sent}

unfoldable pub mix : ℕ → ℕ → ℕ
mix a b = (a * 16777 + b) % 65521

abbrev pub mixed : ℕ → List ℕ → ℕ
mixed w [] = w
mixed w (c ∷ cs) = mixed (mix w c) cs

abbrev pub term_weight_step : Term-F ℕ → ℕ
term_weight_step (t.Var x) = mixed 1 x
term_weight_step (t.Name n) = mixed 2 n
term_weight_step (t.App g ws) = mixed (mixed 13 g) ws

abbrev pub term_weight : Term → ℕ
term_weight = fold-Term ℕ term_weight_step

abbrev pub weight_step : Sent-F ℕ → ℕ
weight_step (f.Atom p ts) = mixed (mixed 3 p) (map term_weight ts)
weight_step (f.Eq s t) = mix (mix 4 (term_weight s)) (term_weight t)
weight_step f.Bottom = 5
weight_step (f.Not w) = mix 6 w
weight_step (f.And ws) = mixed 7 ws
weight_step (f.Or ws) = mixed 8 ws
weight_step (f.If v w) = mix (mix 9 v) w
weight_step (f.Iff v w) = mix (mix 10 v) w
weight_step (f.All x w) = mix (mixed 11 x) w
weight_step (f.Ex x w) = mix (mixed 12 x) w

abbrev pub weight : Sent → ℕ
weight = fold-Sent ℕ weight_step

abbrev pub sign_weight : Bool → ℕ
sign_weight true = 1
sign_weight false = 2

abbrev pub weight_of : Bool → Sent → ℕ
weight_of h s = mix (sign_weight h) (weight s)
