-- Signed sentences, and branches: lists of signed sentences without repetition, in the order in which they were added.
use Rattle.std.specs.Prelude.{Bool, true, false, not, ◌&&◌, List, [], ◌∷◌, ◌++◌, filter, if◌then◌else◌}
use Rattle.std.specs.List.{list_any, flat_map}
use Rattle.fol_core.specs.declared.sent.Term.{Term}
use Rattle.fol_core.specs.declared.sent.Sent.{Sent}
use Rattle.fol_core.specs.declared.sent.Sent.TheVariants.{Not}
use Rattle.fol_core.specs.declared.sent.Sent.TheOpen.{Sent-F}
use Rattle.fol_core.specs.declared.sent.Sent.TheOpen as f
use Rattle.fol_core.specs.declared.sent.Sent.TheFolds.{fold-Sent}
use Rattle.fol_core.specs.Alike.{same_term}
use Rattle.fol_core.specs.Statements.{ground}
use Rattle.deriv_laws.specs.Discharge.{alike}
use Rattle.tableau_laws.specs.declared.literal.Literal.{Literal as Signed}
use Rattle.tableau_laws.specs.Terms.{parts_of_term}

-- The sentence, held.
abbrev pub held : Sent → Signed
held s = record { holds = true; sentence = s }

-- The sentence, denied.
abbrev pub denied : Sent → Signed
denied s = record { holds = false; sentence = s }

-- The same sentence with the other sign.
abbrev pub opposite : Signed → Signed
opposite l = record { holds = not l.holds; sentence = l.sentence }

-- The sentence itself where it is held, and its negation where it is denied.
abbrev pub said_as : Bool → Sent → Sent
said_as true s = s
said_as false s = Not s

-- What a signed sentence says.
abbrev pub said : Signed → Sent
said l = said_as l.holds l.sentence

-- The two signs are one.
abbrev pub same_sign : Bool → Bool → Bool
same_sign true b = b
same_sign false b = not b

-- The two signed sentences are one.
abbrev pub same_signed : Signed → Signed → Bool
same_signed l k = same_sign k.holds l.holds && alike k.sentence l.sentence

-- The signed sentence stands on the branch.
abbrev pub stands : List Signed → Signed → Bool
stands b l = list_any (same_signed l) b

-- What is added to the branch b where these are to stand on it: those that don't, in order, each once.
abbrev pub new_of : List Signed → List Signed → List Signed
new_of b [] = []
new_of b (l ∷ ls) = if stands b l then new_of b ls else l ∷ new_of (b ++ l ∷ []) ls

-- The terms of several parts, from left to right.
abbrev pub joined_terms : List (List Term) → List Term
joined_terms = flat_map (λ ts. ts)

-- One form of sentence: the terms that stand in its terms and in its parts, from left to right.
abbrev pub terms_step : Sent-F (List Term) → List Term
terms_step (f.Atom p ts) = flat_map parts_of_term ts
terms_step (f.Eq s t) = parts_of_term s ++ parts_of_term t
terms_step f.Bottom = []
terms_step (f.Not ts) = ts
terms_step (f.And tss) = joined_terms tss
terms_step (f.Or tss) = joined_terms tss
terms_step (f.If ts us) = ts ++ us
terms_step (f.Iff ts us) = ts ++ us
terms_step (f.All x ts) = ts
terms_step (f.Ex x ts) = ts

-- The terms that stand in a sentence, from left to right, each as often as it stands there.
abbrev pub all_terms_in : Sent → List Term
all_terms_in = fold-Sent (List Term) terms_step

-- The ground terms among them.
abbrev pub terms_in : Sent → List Term
terms_in s = filter ground (all_terms_in s)

-- The term is one of these.
abbrev pub is_one_of : Term → List Term → Bool
is_one_of t us = list_any (λ u. same_term u t) us

-- The terms that aren't among those seen, each once, where it stands first.
abbrev pub once : List Term → List Term → List Term
once seen [] = []
once seen (t ∷ ts) = if is_one_of t seen then once seen ts else t ∷ once (t ∷ seen) ts

-- The ground terms on a branch, by their first occurrence: sentences in the order of the branch, each read from left to
-- right, a function term before its arguments.
abbrev pub terms_on : List Signed → List Term
terms_on b = once [] (flat_map (λ l. terms_in l.sentence) b)
