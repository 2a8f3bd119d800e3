-- The letters of propositional logic: the sentences that it takes as wholes.
use Rattle.std.specs.Prelude.{not, filter, List, [], ◌∷◌, ◌++◌}
use Rattle.std.specs.List.{flat_map}
use Rattle.fol_core.specs.declared.sent.Sent.{Sent}
use Rattle.fol_core.specs.declared.sent.Sent.TheOpen.{Sent-F}
use Rattle.fol_core.specs.declared.sent.Sent.TheOpen as f
use Rattle.fol_core.specs.declared.sent.Sent.TheVariants as s
use Rattle.deriv_laws.specs.Discharge.{alike}
use Rattle.taut_con.specs.Whole.{Seen, made_of}

-- One form of sentence: an atomic sentence, an equation and a quantified sentence is its own one letter, absurdity has
-- none, and a connective has those of its parts, in their order.
abbrev pub letters_step : Sent-F (Seen (List Sent)) → List Sent
letters_step (f.Atom p ts) = s.Atom p ts ∷ []
letters_step (f.Eq a b) = s.Eq a b ∷ []
letters_step f.Bottom = []
letters_step (f.Not p) = p.made
letters_step (f.And ps) = flat_map (λ p. p.made) ps
letters_step (f.Or ps) = flat_map (λ p. p.made) ps
letters_step (f.If p q) = p.made ++ q.made
letters_step (f.Iff p q) = p.made ++ q.made
letters_step (f.All x p) = s.All x p.itself ∷ []
letters_step (f.Ex x p) = s.Ex x p.itself ∷ []

-- The letters of a sentence, from left to right, each as often as it occurs.
unfoldable pub letter_occurrences : Sent → List Sent
letter_occurrences = made_of letters_step

-- The sentences without repetition: each where it stands first.
abbrev pub distinct : List Sent → List Sent
distinct [] = []
distinct (p ∷ ps) = p ∷ filter (λ q. not (alike p q)) (distinct ps)

-- The letters of the sentences, in the order of their first occurrence. Identical sentences are one letter.
abbrev pub letters : List Sent → List Sent
letters ss = distinct (flat_map letter_occurrences ss)
