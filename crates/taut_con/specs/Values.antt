-- Truth values.
use Rattle.std.specs.Prelude.{Bool, true, false, not, ◌||◌, List, ◌∷◌, if◌then◌else◌}
use Rattle.std.specs.List.{list_any, list_all}
use Rattle.fol_core.specs.declared.sent.Sent.{Sent}
use Rattle.fol_core.specs.declared.sent.Sent.TheOpen.{Sent-F}
use Rattle.fol_core.specs.declared.sent.Sent.TheOpen as f
use Rattle.fol_core.specs.declared.sent.Sent.TheVariants as s
use Rattle.deriv_laws.specs.Discharge.{alike}
use Rattle.taut_con.specs.Whole.{Seen, made_of}

-- The value that stands beside the letter; false of a sentence that isn't among the letters.
abbrev pub valuation : List Sent → List Bool → Sent → Bool
valuation (l ∷ ls) (b ∷ bs) p = if alike l p then b else valuation ls bs p
valuation _ _ p = false

-- The two truth values are one.
abbrev pub agree : Bool → Bool → Bool
agree true b = b
agree false b = not b

-- One form of sentence under a valuation of the letters.
abbrev pub value_step : (Sent → Bool) → Sent-F (Seen Bool) → Bool
value_step v (f.Atom p ts) = v (s.Atom p ts)
value_step v (f.Eq a b) = v (s.Eq a b)
value_step v f.Bottom = false
value_step v (f.Not p) = not p.made
value_step v (f.And ps) = list_all (λ p. p.made) ps
value_step v (f.Or ps) = list_any (λ p. p.made) ps
value_step v (f.If p q) = not p.made || q.made
value_step v (f.Iff p q) = agree p.made q.made
value_step v (f.All x p) = v (s.All x p.itself)
value_step v (f.Ex x p) = v (s.Ex x p.itself)

-- The value of a sentence under a valuation of its letters.
unfoldable pub value : (Sent → Bool) → Sent → Bool
value v = made_of (value_step v)
