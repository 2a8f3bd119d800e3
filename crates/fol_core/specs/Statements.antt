-- Statements: the sentences that a derivation goes over.
use Rattle.std.specs.Prelude.{Bool, true, ◌&&◌, nat_le, IsTrue, List, [], ◌∷◌, length}
use Rattle.std.specs.List.{list_all, AllByRecursion}
use Rattle.fol_core.specs.Word.{Word, is_ident}
use Rattle.fol_core.specs.Subst.{itself}
use Rattle.fol_core.specs.Closed.{is_among}
use Rattle.fol_core.specs.declared.sent.Term.{Term}
use Rattle.fol_core.specs.declared.sent.Term.TheOpen.{Term-F}
use Rattle.fol_core.specs.declared.sent.Term.TheOpen as t
use Rattle.fol_core.specs.declared.sent.Term.TheFolds.{fold-Term}
use Rattle.fol_core.specs.declared.sent.Sent.{Sent}
use Rattle.fol_core.specs.declared.sent.Sent.TheOpen.{Sent-F}
use Rattle.fol_core.specs.declared.sent.Sent.TheOpen as f
use Rattle.fol_core.specs.declared.sent.Sent.TheFolds.{fold-Sent}

-- One form of term: its word is an identifier, a variable is among those that are bound, and a function has one argument or
-- more, each of which is such a term.
abbrev pub grounded_step : List Word → Term-F Bool → Bool
grounded_step bound (t.Var x) = is_ident x && is_among x bound
grounded_step bound (t.Name n) = is_ident n
grounded_step bound (t.App g bs) = is_ident g && (nat_le 1 (length bs) && list_all itself bs)

-- Each word in the term is an identifier, each function has one argument or more, and each variable is among those that are
-- bound where the term stands.
abbrev pub grounded : List Word → Term → Bool
grounded bound = fold-Term Bool (grounded_step bound)

-- A ground term: one of identifiers alone, in which no variable stands.
abbrev pub ground : Term → Bool
ground = grounded []

-- One form of sentence under the variables bound around it: its words are identifiers, its terms are grounded, a chain has
-- two parts or more, its parts are such sentences under the same variables, and the part of a quantifier under its variable
-- too.
abbrev pub stated_step : Sent-F (List Word → Bool) → List Word → Bool
stated_step (f.Atom p ts) bound = is_ident p && list_all (grounded bound) ts
stated_step (f.Eq a b) bound = grounded bound a && grounded bound b
stated_step f.Bottom bound = true
stated_step (f.Not g) bound = g bound
stated_step (f.And gs) bound = nat_le 2 (length gs) && list_all (λ g. g bound) gs
stated_step (f.Or gs) bound = nat_le 2 (length gs) && list_all (λ g. g bound) gs
stated_step (f.If g h) bound = g bound && h bound
stated_step (f.Iff g h) bound = g bound && h bound
stated_step (f.All x g) bound = is_ident x && g (x ∷ bound)
stated_step (f.Ex x g) bound = is_ident x && g (x ∷ bound)

-- Each word in the sentence is an identifier, each conjunction and each disjunction has two parts or more, each function has
-- one argument or more, and each variable is bound in the sentence or is one of those bound around it.
abbrev pub stated_under : Sent → List Word → Bool
stated_under = fold-Sent (List Word → Bool) stated_step

-- A statement is a closed sentence that is proper: each word in it is an identifier, each conjunction and each disjunction
-- has two parts or more, and each function has one argument or more.
abbrev pub statement : Sent → Bool
statement s = stated_under s []

-- Each of the sentences is a statement.
abbrev pub AreStatements : List Sent → Type 0
AreStatements ss = AllByRecursion (λ s. IsTrue (statement s)) ss
