-- How the code reads off the term by which a sentence is an instance: a private description of it.
use Rattle.std.specs.Prelude.{Bool, not, ◌&&◌, List, [], ◌∷◌, Option, Some, None, if◌then◌else◌}
use Rattle.std.specs.Str.{bytes_eq}
use Rattle.fol_core.specs.Word.{Word}
use Rattle.fol_core.specs.declared.sent.Term.{Term, out-Term}
use Rattle.fol_core.specs.declared.sent.Term.TheOpen.{Term-F}
use Rattle.fol_core.specs.declared.sent.Term.TheOpen as t
use Rattle.fol_core.specs.declared.sent.Term.TheFolds.{fold-Term}
use Rattle.fol_core.specs.declared.sent.Sent.{Sent, out-Sent}
use Rattle.fol_core.specs.declared.sent.Sent.TheOpen.{Sent-F}
use Rattle.fol_core.specs.declared.sent.Sent.TheOpen as f
use Rattle.fol_core.specs.declared.sent.Sent.TheFolds.{fold-Sent}

-- The first term, and where there is none the second.
abbrev pub or_else : Option Term → Option Term → Option Term
or_else (Some r) other = Some r
or_else None other = other

-- The first term that items side by side give.
abbrev pub first_term : {X Y : Type 0} → (X → Y → Option Term) → List X → List Y → Option Term
first_term g [] ys = None
first_term g (x ∷ xs) [] = None
first_term g (x ∷ xs) (y ∷ ys) = or_else (g x y) (first_term g xs ys)

-- The first term that tests give at the items beside them.
abbrev pub first_given : {Y : Type 0} → List (Y → Option Term) → List Y → Option Term
first_given [] ss = None
first_given (g ∷ gs) [] = None
first_given (g ∷ gs) (s ∷ ss) = or_else (g s) (first_given gs ss)

-- Each of the functions at a value.
abbrev pub each_at : Bool → List (Bool → Sent → Option Term) → List (Sent → Option Term)
each_at free [] = []
each_at free (g ∷ gs) = g free ∷ each_at free gs

-- The arguments of one form of term.
abbrev pub args_of : Term-F Term → List Term
args_of (t.App g us) = us
args_of _ = []

-- One form of term beside another: what the second has at the first free place of x in the first.
abbrev pub found_step : Word → Bool → Term-F (Term → Option Term) → Term → Option Term
found_step x free (t.Var y) u = if free && bytes_eq y x then Some u else None
found_step x free (t.Name k) u = None
found_step x free (t.App g hs) u = first_given hs (args_of (out-Term u))

-- The term that stands where the free variable x first stands in the first term.
abbrev pub found_in : Word → Bool → Term → Term → Option Term
found_in x free = fold-Term (Term → Option Term) (found_step x free)

-- One form of sentence beside another: the term that the second has at the first free place of x in the first.
abbrev pub name_step : Word → Sent-F (Bool → Sent → Option Term) → Bool → Sent-F Sent → Option Term
name_step x (f.Atom p ts) free (f.Atom q us) = first_term (found_in x free) ts us
name_step x (f.Eq a b) free (f.Eq c d) = or_else (found_in x free a c) (found_in x free b d)
name_step x (f.Not g) free (f.Not s) = g free s
name_step x (f.And gs) free (f.And ss) = first_given (each_at free gs) ss
name_step x (f.Or gs) free (f.Or ss) = first_given (each_at free gs) ss
name_step x (f.If g h) free (f.If s t) = or_else (g free s) (h free t)
name_step x (f.Iff g h) free (f.Iff s t) = or_else (g free s) (h free t)
name_step x (f.All y g) free (f.All z s) = g (free && not (bytes_eq y x)) s
name_step x (f.Ex y g) free (f.Ex z s) = g (free && not (bytes_eq y x)) s
name_step x _ free _ = None

-- The term that the second sentence has at the first free place of x in the first, side by side.
abbrev pub term_where : Word → Sent → Bool → Sent → Option Term
term_where x = fold-Sent (Bool → Sent → Option Term) (λ p free s. name_step x p free (out-Sent s))
