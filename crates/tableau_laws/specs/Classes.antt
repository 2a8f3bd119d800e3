-- The classes of applications that come from the sentences on a branch.
use Rattle.std.specs.Prelude.{ℕ, suc, Bool, true, false, not, ◌&&◌, ◌||◌, nat_lt, List, [], ◌∷◌, length, map, Option, Some, None, if◌then◌else◌}
use Rattle.std.specs.List.{flat_map, find, range_with_len}
use Rattle.std.specs.Fmt.{decimal}
use Rattle.fol_core.specs.declared.sent.Term.{Term}
use Rattle.fol_core.specs.declared.sent.Term.TheVariants.{Name}
use Rattle.fol_core.specs.declared.sent.Sent.{Sent, out-Sent}
use Rattle.fol_core.specs.declared.sent.Sent.TheVariants.{Atom, Eq}
use Rattle.fol_core.specs.declared.sent.Sent.TheOpen.{Sent-F}
use Rattle.fol_core.specs.declared.sent.Sent.TheOpen as f
use Rattle.fol_core.specs.Word.{Word}
use Rattle.fol_core.specs.Subst.{subst_closed_term}
use Rattle.fol_core.specs.Size.{term_nodes}
use Rattle.fol_core.specs.Alike.{same_term}
use Rattle.tableau_laws.specs.declared.literal.Literal.{Literal as Signed}
use Rattle.tableau_laws.specs.Terms.{put_term}
use Rattle.tableau_laws.specs.Branch.{held, denied, stands, is_one_of, terms_on}
use Rattle.tableau_laws.specs.Choice.{Choice, simple}

-- One branch: what a sentence of this sign and form has as consequences taken together.
abbrev pub single : Bool → Sent-F Sent → List Choice
single true (f.Not p) = simple ((denied p ∷ []) ∷ [])
single false (f.Not p) = simple ((held p ∷ []) ∷ [])
single true (f.And ps) = simple (map held ps ∷ [])
single false (f.Or ps) = simple (map denied ps ∷ [])
single false (f.If p q) = simple ((held p ∷ denied q ∷ []) ∷ [])
single _ _ = []

-- What a signed sentence gives by the rules of one branch.
abbrev pub of_single : Signed → List Choice
of_single l = single l.holds (out-Sent l.sentence)

-- Several branches: what a sentence of this sign and form leaves to choose from, from the left.
abbrev pub several : Bool → Sent-F Sent → List Choice
several false (f.And ps) = simple (map (λ p. denied p ∷ []) ps)
several true (f.Or ps) = simple (map (λ p. held p ∷ []) ps)
several true (f.If p q) = simple ((denied p ∷ []) ∷ (held q ∷ []) ∷ [])
several true (f.Iff p q) = simple ((held p ∷ held q ∷ []) ∷ (denied p ∷ denied q ∷ []) ∷ [])
several false (f.Iff p q) = simple ((held p ∷ denied q ∷ []) ∷ (denied p ∷ held q ∷ []) ∷ [])
several _ _ = []

-- What a signed sentence gives by the rules of several branches.
abbrev pub of_several : Signed → List Choice
of_several l = several l.holds (out-Sent l.sentence)

-- Of two terms, the first comes no later among these.
abbrev pub is_earlier : List Term → Term → Term → Bool
is_earlier [] t u = true
is_earlier (w ∷ ws) t u = same_term w t || (not (same_term w u) && is_earlier ws t u)

-- An equation lets t be put for u: t has fewer nodes, or as many, and comes no later on the branch.
abbrev pub is_less : List Term → Term → Term → Bool
is_less terms t u = nat_lt (term_nodes t) (term_nodes u) || (not (nat_lt (term_nodes u) (term_nodes t)) && is_earlier terms t u)

-- A literal of this sign and form, with e for every l.
abbrev pub with_term : Term → Term → Bool → Sent-F Sent → List Choice
with_term l e h (f.Atom p ts) = simple ((record { holds = h; sentence = Atom p (map (put_term l e) ts) } ∷ []) ∷ [])
with_term l e h (f.Eq s t) = simple ((record { holds = h; sentence = Eq (put_term l e s) (put_term l e t) } ∷ []) ∷ [])
with_term l e h _ = []

-- The two signed sentences are one.
abbrev pub is_same : Signed → Signed → Bool
is_same k l = stands (k ∷ []) l

-- Each literal on the branch but this one, with e for every l.
abbrev pub by_terms : List Signed → Signed → Term → Term → List Choice
by_terms b this l e = flat_map (λ k. if is_same this k then [] else with_term l e k.holds (out-Sent k.sentence)) b

-- Equation: the literal `this` is an equation that is held. Its lesser term is put for the other in each other literal.
abbrev pub equation : List Signed → Signed → Bool → Sent-F Sent → List Choice
equation b this true (f.Eq s t) = if is_less (terms_on b) s t then by_terms b this t s else by_terms b this s t
equation b this _ _ = []

-- What a signed sentence gives as an equation.
abbrev pub of_equation : List Signed → Signed → List Choice
of_equation b l = equation b l l.holds (out-Sent l.sentence)

-- The names k1, k2, k3 and so on.
abbrev pub numbered : ℕ → Word
numbered i = 107 ∷ decimal i

-- The name is none of the terms. A function symbol is no name.
abbrev pub is_fresh : List Term → Word → Bool
is_fresh terms n = not (is_one_of (Name n) terms)

-- The first of these names that is none of the terms. There are more of them than terms.
abbrev pub fresh : List Term → Option Word
fresh terms = find (is_fresh terms) (map numbered (range_with_len 1 (suc (length terms))))

-- The instance by the term t, with this sign.
abbrev pub instance : Bool → Word → Sent → Term → List Signed
instance h x p t = record { holds = h; sentence = subst_closed_term x t p } ∷ []

-- The instance by a name; an instance by any of the terms would do as well.
abbrev pub by_witness : List Term → Option Word → Bool → Word → Sent → List Choice
by_witness terms None h x p = []
by_witness terms (Some k) h x p = record { adds = instance h x p (Name k) ∷ []; others = map (instance h x p) terms } ∷ []

-- Witness: an existential sentence that is held, or a universal one that is denied, gives its instance by a fresh name.
abbrev pub witness : List Term → Bool → Sent-F Sent → List Choice
witness terms true (f.Ex x p) = by_witness terms (fresh terms) true x p
witness terms false (f.All x p) = by_witness terms (fresh terms) false x p
witness terms _ _ = []

-- What a signed sentence gives by a witness.
abbrev pub of_witness : List Term → Signed → List Choice
of_witness terms l = witness terms l.holds (out-Sent l.sentence)

-- Universal: a universal sentence that is held, or an existential one that is denied, gives its instance by the term t.
abbrev pub universal : Term → Bool → Sent-F Sent → List Choice
universal t true (f.All x p) = simple (instance true x p t ∷ [])
universal t false (f.Ex x p) = simple (instance false x p t ∷ [])
universal t _ _ = []

-- What a signed sentence gives by the term t.
abbrev pub of_universal : Term → Signed → List Choice
of_universal t l = universal t l.holds (out-Sent l.sentence)

-- The terms, or k1 where there is none.
abbrev pub or_first : List Term → List Term
or_first [] = Name (numbered 1) ∷ []
or_first (t ∷ ts) = t ∷ ts
