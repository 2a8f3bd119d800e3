-- Clauses: disjunctions of literals over variables that stand for every name. The tableau of first-order consequence has none;
-- a theory brings its own.
use Rattle.std.specs.Prelude.{Bool, not, List, [], ◌∷◌, map, filter}
use Rattle.std.specs.List.{flat_map}
use Rattle.fol_core.specs.declared.sent.Term.{Term, out-Term}
use Rattle.fol_core.specs.declared.sent.Term.TheOpen as t
use Rattle.fol_core.specs.declared.sent.Term.TheVariants.{Var}
use Rattle.fol_core.specs.declared.sent.Sent.{Sent}
use Rattle.fol_core.specs.declared.sent.Sent.TheVariants.{Atom, Eq, Or}
use Rattle.fol_core.specs.Word.{Word}
use Rattle.fol_core.specs.Subst.{subst_name}
use Rattle.tableau_laws.specs.declared.literal.Literal.{Literal as Signed}
use Rattle.tableau_laws.specs.Branch.{opposite, said, stands, terms_on}
use Rattle.tableau_laws.specs.Choice.{Choice, simple}

-- What a literal of a clause is about: a predicate of variables, or an equation of two.
pub data Shape : Type 0 where
  atom : Word → List Word → Shape
  equals : Word → Word → Shape

-- A literal of a clause.
pub record Sign : Type 0 where
  pub holds : Bool
  pub shape : Shape

-- A clause: its variables and its literals, both in order.
pub record Clause : Type 0 where
  pub variables : List Word
  pub signs : List Sign

-- The sentence of a literal, in which the variables are free.
abbrev pub sentence_of : Shape → Sent
sentence_of (atom p vs) = Atom p (map Var vs)
sentence_of (equals v w) = Eq (Var v) (Var w)

-- The literals of a clause.
abbrev pub literals_of : Clause → List Signed
literals_of c = map (λ s. record { holds = s.holds; sentence = sentence_of s.shape }) c.signs

-- The disjunction of literals; of one literal, that literal.
abbrev pub either_of : List Signed → Sent
either_of [] = Or []
either_of (l ∷ []) = said l
either_of (l ∷ k ∷ ls) = Or (map said (l ∷ k ∷ ls))

-- The literal, with a name for each of the variables.
abbrev pub with_names : List Word → List Word → Signed → Signed
with_names [] ns l = l
with_names (v ∷ vs) [] l = l
with_names (v ∷ vs) (n ∷ ns) l = with_names vs ns (record { holds = l.holds; sentence = subst_name v n l.sentence })

-- The lists of names for these variables, ordered by the name for the first, then by that for the second, and so on. A name
-- may be taken for several.
abbrev pub names_for : List Word → List Word → List (List Word)
names_for [] names = [] ∷ []
names_for (v ∷ vs) names = flat_map (λ n. map (λ ns. n ∷ ns) (names_for vs names)) names

-- The instances of a clause by these names, in order.
abbrev pub instances_of : List Word → Clause → List (List Signed)
instances_of names c = map (λ ns. map (with_names c.variables ns) (literals_of c)) (names_for c.variables names)

-- The name that a term is; nothing where it is none.
abbrev pub name_of : Term → List Word
name_of u = elim (out-Term u) [ t.Name n ↦ n ∷ [] | _ ↦ [] ]

-- The names on a branch, by their first occurrence.
abbrev pub names_on : List Signed → List Word
names_on b = flat_map name_of (terms_on b)

-- The instances of the clauses by the names on the branch: clause by clause, and those of one clause in order.
abbrev pub instances : List Clause → List Signed → List (List Signed)
instances clauses b = flat_map (instances_of (names_on b)) clauses

-- The literals of an instance that aren't denied on the branch.
abbrev pub not_denied : List Signed → List Signed → List Signed
not_denied b ls = filter (λ l. not (stands b (opposite l))) ls

-- Unit: where one literal alone isn't denied, it is added.
abbrev pub unit : List Signed → List Choice
unit (l ∷ []) = simple ((l ∷ []) ∷ [])
unit _ = []

-- Split: where two literals or more aren't denied, there is a branch for each.
abbrev pub split : List Signed → List Choice
split (l ∷ k ∷ ls) = simple (map (λ m. m ∷ []) (l ∷ k ∷ ls))
split _ = []
