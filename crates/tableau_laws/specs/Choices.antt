-- What is applied to a branch, and when it is closed.
use Rattle.std.specs.Prelude.{Bool, true, false, ◌&&◌, ◌||◌, List, [], ◌∷◌, ◌++◌, Option}
use Rattle.std.specs.List.{list_any, flat_map, find}
use Rattle.fol_core.specs.declared.sent.Sent.{Sent, out-Sent}
use Rattle.fol_core.specs.declared.sent.Sent.TheOpen.{Sent-F}
use Rattle.fol_core.specs.declared.sent.Sent.TheOpen as f
use Rattle.fol_core.specs.Alike.{same_term}
use Rattle.tableau_laws.specs.declared.literal.Literal.{Literal as Signed}
use Rattle.tableau_laws.specs.Branch.{denied, stands, terms_on}
use Rattle.tableau_laws.specs.Choice.{Choice, is_applicable}
use Rattle.tableau_laws.specs.Classes.{of_single, of_equation, of_witness, of_several, of_universal, or_first}
use Rattle.tableau_laws.specs.Clauses.{Clause, instances, not_denied, unit, split}

-- All that could be applied to a branch, in the order of preference. The classes come in this order: one branch, equation,
-- unit, witness, several branches, universal, split. Inside a class that of the least position on the branch comes first; with
-- equations the position of the equation counts before that of the literal, with universals the term before the position, and
-- of clauses the order of their instances counts.
abbrev pub choices : List Clause → List Signed → List Choice
choices clauses b =
    flat_map of_single b
    ++ flat_map (of_equation b) b
    ++ flat_map (λ ls. unit (not_denied b ls)) (instances clauses b)
    ++ flat_map (of_witness (terms_on b)) b
    ++ flat_map of_several b
    ++ flat_map (λ t. flat_map (of_universal t) b) (or_first (terms_on b))
    ++ flat_map (λ ls. split (not_denied b ls)) (instances clauses b)

-- What is applied to a branch: the first of these that is applicable. A branch is finished where there is none.
unfoldable pub first : List Clause → List Signed → Option Choice
first clauses b = find (is_applicable b) (choices clauses b)

-- A sentence of this sign and form closes a branch by itself: falsum that is held, or a term's identity with itself that is denied.
abbrev pub is_contrary : Bool → Sent-F Sent → Bool
is_contrary true f.Bottom = true
is_contrary false (f.Eq s t) = same_term s t
is_contrary _ _ = false

-- Nothing is in the list.
abbrev pub is_none : List Signed → Bool
is_none [] = true
is_none (l ∷ ls) = false

-- A branch is closed where a sentence stands on it both held and denied, where a sentence on it closes it by itself, or where
-- all literals of an instance of a clause are denied on it.
unfoldable pub is_closed : List Clause → List Signed → Bool
is_closed clauses b =
    list_any (λ l. l.holds && stands b (denied l.sentence)) b
    || list_any (λ l. is_contrary l.holds (out-Sent l.sentence)) b
    || list_any (λ ls. is_none (not_denied b ls)) (instances clauses b)
