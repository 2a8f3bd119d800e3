-- Occurrence of a name, and substitution of a closed term for a variable.
use Rattle.std.specs.Prelude.{Bool, true, false, not, ◌&&◌, ◌||◌, map, if◌then◌else◌}
use Rattle.std.specs.List.{list_any}
use Rattle.std.specs.Str.{bytes_eq}
use Rattle.fol_core.specs.Word.{Word}
use Rattle.fol_core.specs.declared.sent.Term.{Term}
use Rattle.fol_core.specs.declared.sent.Term.TheOpen.{Term-F}
use Rattle.fol_core.specs.declared.sent.Term.TheOpen as t
use Rattle.fol_core.specs.declared.sent.Term.TheVariants.{Var, Name, App}
use Rattle.fol_core.specs.declared.sent.Term.TheFolds.{fold-Term}
use Rattle.fol_core.specs.declared.sent.Sent.{Sent}
use Rattle.fol_core.specs.declared.sent.Sent.TheOpen.{Sent-F}
use Rattle.fol_core.specs.declared.sent.Sent.TheOpen as f
use Rattle.fol_core.specs.declared.sent.Sent.TheVariants as s
use Rattle.fol_core.specs.declared.sent.Sent.TheFolds.{fold-Sent}

-- A truth value, as it is.
abbrev pub itself : Bool → Bool
itself b = b

-- One form of term: it is the name n, or the name occurs in one of its arguments. A function symbol is no name.
abbrev pub in_term_step : Word → Term-F Bool → Bool
in_term_step n (t.Var x) = false
in_term_step n (t.Name m) = bytes_eq m n
in_term_step n (t.App g bs) = list_any itself bs

-- The name n stands somewhere in the term.
abbrev pub occurs_in_term : Word → Term → Bool
occurs_in_term n = fold-Term Bool (in_term_step n)

-- One form of sentence: the name occurs in one of its terms or of its parts.
abbrev pub occurs_step : Word → Sent-F Bool → Bool
occurs_step n (f.Atom p ts) = list_any (occurs_in_term n) ts
occurs_step n (f.Eq a b) = occurs_in_term n a || occurs_in_term n b
occurs_step n f.Bottom = false
occurs_step n (f.Not b) = b
occurs_step n (f.And bs) = list_any itself bs
occurs_step n (f.Or bs) = list_any itself bs
occurs_step n (f.If b c) = b || c
occurs_step n (f.Iff b c) = b || c
occurs_step n (f.All x b) = b
occurs_step n (f.Ex x b) = b

-- The name n stands somewhere in the sentence.
abbrev pub occurs : Word → Sent → Bool
occurs n = fold-Sent Bool (occurs_step n)

-- One form of term, with the term r in the place of the variable x, where x is still free, also in its arguments.
abbrev pub subst_term_step : Word → Term → Bool → Term-F Term → Term
subst_term_step x r free (t.Var y) = if free && bytes_eq y x then r else Var y
subst_term_step x r free (t.Name m) = Name m
subst_term_step x r free (t.App g us) = App g us

-- The term with r for each x in it, where x is still free.
abbrev pub subst_term : Word → Term → Bool → Term → Term
subst_term x r free = fold-Term Term (subst_term_step x r free)

-- One form of sentence, with r put into its terms and its parts; below a quantifier of x, x is no longer free.
abbrev pub subst_step : Word → Term → Sent-F (Bool → Sent) → Bool → Sent
subst_step x r (f.Atom p ts) free = s.Atom p (map (subst_term x r free) ts)
subst_step x r (f.Eq a b) free = s.Eq (subst_term x r free a) (subst_term x r free b)
subst_step x r f.Bottom free = s.Bottom
subst_step x r (f.Not g) free = s.Not (g free)
subst_step x r (f.And gs) free = s.And (map (λ g. g free) gs)
subst_step x r (f.Or gs) free = s.Or (map (λ g. g free) gs)
subst_step x r (f.If g h) free = s.If (g free) (h free)
subst_step x r (f.Iff g h) free = s.Iff (g free) (h free)
subst_step x r (f.All y g) free = s.All y (g (free && not (bytes_eq y x)))
subst_step x r (f.Ex y g) free = s.Ex y (g (free && not (bytes_eq y x)))

-- The sentence at a place where x is still free, or is not, with the term r for each free x.
abbrev pub subst_where : Word → Term → Sent → Bool → Sent
subst_where x r = fold-Sent (Bool → Sent) (subst_step x r)

-- The sentence with the closed term r for each free occurrence of the variable x. So nothing is captured.
abbrev pub subst_closed_term : Word → Term → Sent → Sent
subst_closed_term x r p = subst_where x r p true

-- The same by a name.
abbrev pub subst_name : Word → Word → Sent → Sent
subst_name x n p = subst_where x (Name n) p true
