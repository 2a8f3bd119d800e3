-- The terms that stand in a term, and one term put for another.
use Rattle.std.specs.Prelude.{List, [], ◌∷◌, map, if◌then◌else◌}
use Rattle.std.specs.List.{flat_map}
use Rattle.fol_core.specs.declared.sent.Term.{Term}
use Rattle.fol_core.specs.declared.sent.Term.TheOpen.{Term-F}
use Rattle.fol_core.specs.declared.sent.Term.TheOpen as t
use Rattle.fol_core.specs.declared.sent.Term.TheVariants.{Var, Name, App}
use Rattle.fol_core.specs.declared.sent.Term.TheFolds.{fold-Term}
use Rattle.fol_core.specs.Alike.{same_term}

-- A term, beside a list of terms.
abbrev pub Listing : Type 0
Listing = Term × List Term

-- The term of which this is one form, its arguments being listed.
abbrev pub unlisted : Term-F Listing → Term
unlisted (t.Var x) = Var x
unlisted (t.Name n) = Name n
unlisted (t.App g es) = App g (map (λ (e : Listing). e.0) es)

-- What the arguments list, from left to right.
abbrev pub listed_inside : Term-F Listing → List Term
listed_inside (t.Var x) = []
listed_inside (t.Name n) = []
listed_inside (t.App g es) = flat_map (λ (e : Listing). e.1) es

-- One form of term: the term itself, then what its arguments list.
abbrev pub listing_step : Term-F Listing → Listing
listing_step g = (unlisted g, unlisted g ∷ listed_inside g)

-- The terms that stand in a term, itself first: a function term before its arguments, and these from left to right.
abbrev pub parts_of_term : Term → List Term
parts_of_term u = (fold-Term Listing listing_step u).1

-- A term, beside what it becomes.
abbrev pub Turned : Type 0
Turned = Term × Term

-- The term of which this is one form, as its arguments were.
abbrev pub was : Term-F Turned → Term
was (t.Var x) = Var x
was (t.Name n) = Name n
was (t.App g es) = App g (map (λ (e : Turned). e.0) es)

-- The same form, with what its arguments become.
abbrev pub becomes : Term-F Turned → Term
becomes (t.Var x) = Var x
becomes (t.Name n) = Name n
becomes (t.App g es) = App g (map (λ (e : Turned). e.1) es)

-- One form of term: e where it is l, and else the same form with what its arguments become.
abbrev pub put_step : Term → Term → Term-F Turned → Turned
put_step l e g = (was g, if same_term (was g) l then e else becomes g)

-- The term with e for every l in it.
abbrev pub put_term : Term → Term → Term → Term
put_term l e u = (fold-Term Turned (put_step l e) u).1
