-- What the definitions say of a conjunction and a disjunction.
use Rattle.std.proofs.Common.{◌≡◌, ℕ, List, [], length, map, ap, ap₂, sym, ◌∙◌, rules, Bool, true, IsTrue, Contains}
use Rattle.std.proofs.lemmas.List.Elements.{All-contains}
use Rattle.std.proofs.lemmas.List.Sums.{AllPass-from_list_all}
use Rattle.std.specs.Prelude.{◌&&◌, nat_le}
use Rattle.std.specs.List.{list_any, list_all}
use Rattle.fol_core.specs.declared.sent.Sent.{Sent, Atom, And, Or, out-Sent, the_lemmas}
use Rattle.fol_core.specs.declared.sent.Sent.TheOpen as f
use Rattle.fol_core.specs.declared.sent.Term.{Term}
use Rattle.fol_core.specs.Subst.{itself, occurs, subst_where}
use Rattle.std.proofs.lemmas.Bool.{and_parts as both_true}
use Rattle.std.proofs.lemmas.List.{length-map}
use Rattle.fol_core.specs.Closed.{closed_under}
use Rattle.fol_core.specs.Statements.{stated_under, statement}
use Rattle.fol_core.proofs.Stating.{stated_each_and, stated_each_or}
use Rattle.fol_core.specs.Word.{Word}
use Rattle.fol_core.specs.Blocks.{has_places, fits}
use Rattle.fol_core.proofs.Parts.{any_itself, all_itself, all_applied, each_applied}

pub occurs_and : (n : List ℕ) (parts : List Sent) → occurs n (And parts) ≡ list_any (occurs n) parts
occurs_and n parts = let e : occurs n (And parts) ≡ list_any itself (map (occurs n) parts) = search (rules, the_lemmas) in e ∙ any_itself (occurs n) parts

pub occurs_or : (n : List ℕ) (parts : List Sent) → occurs n (Or parts) ≡ list_any (occurs n) parts
occurs_or n parts = let e : occurs n (Or parts) ≡ list_any itself (map (occurs n) parts) = search (rules, the_lemmas) in e ∙ any_itself (occurs n) parts

pub closed_and : (parts : List Sent) (bound : List (List ℕ)) → closed_under (And parts) bound ≡ list_all (λ s. closed_under s bound) parts
closed_and parts bound = let e : closed_under (And parts) bound ≡ list_all (λ g. g bound) (map closed_under parts) = search (rules, the_lemmas) in e ∙ all_applied closed_under bound parts

pub closed_or : (parts : List Sent) (bound : List (List ℕ)) → closed_under (Or parts) bound ≡ list_all (λ s. closed_under s bound) parts
closed_or parts bound = let e : closed_under (Or parts) bound ≡ list_all (λ g. g bound) (map closed_under parts) = search (rules, the_lemmas) in e ∙ all_applied closed_under bound parts

pub stated_and : (parts : List Sent) (bound : List (List ℕ)) → stated_under (And parts) bound ≡ (nat_le 2 (length parts) && list_all (λ s. stated_under s bound) parts)
stated_and parts bound = stated_each_and parts bound ∙ ap₂ (λ n a. nat_le 2 n && a) (length-map parts stated_under) (all_applied stated_under bound parts)

pub stated_or : (parts : List Sent) (bound : List (List ℕ)) → stated_under (Or parts) bound ≡ (nat_le 2 (length parts) && list_all (λ s. stated_under s bound) parts)
stated_or parts bound = stated_each_or parts bound ∙ ap₂ (λ n a. nat_le 2 n && a) (length-map parts stated_under) (all_applied stated_under bound parts)

pub subst_and : (x : Word) (n : Term) (parts : List Sent) (free : Bool) → subst_where x n (And parts) free ≡ And (map (λ s. subst_where x n s free) parts)
subst_and x n parts free = let e : subst_where x n (And parts) free ≡ And (map (λ g. g free) (map (subst_where x n) parts)) = search (rules, the_lemmas) in e ∙ ap And (each_applied (subst_where x n) free parts)

pub subst_or : (x : Word) (n : Term) (parts : List Sent) (free : Bool) → subst_where x n (Or parts) free ≡ Or (map (λ s. subst_where x n s free) parts)
subst_or x n parts free = let e : subst_where x n (Or parts) free ≡ Or (map (λ g. g free) (map (subst_where x n) parts)) = search (rules, the_lemmas) in e ∙ ap Or (each_applied (subst_where x n) free parts)

pub places_and : (parts : List Sent) → has_places (And parts) ≡ list_all has_places parts
places_and parts = let e : has_places (And parts) ≡ list_all itself (map has_places parts) = search (rules, the_lemmas) in e ∙ all_itself has_places parts

pub places_or : (parts : List Sent) → has_places (Or parts) ≡ list_all has_places parts
places_or parts = let e : has_places (Or parts) ≡ list_all itself (map has_places parts) = search (rules, the_lemmas) in e ∙ all_itself has_places parts

pub places_atom : (p : Word) (ts : List Term) → has_places (Atom p ts) ≡ fits p (length ts)
places_atom p ts = search (rules, the_lemmas)

-- A conjunction has one list of parts, and so has a disjunction.
abbrev parts_of : Sent → List Sent
parts_of s = elim (out-Sent s) [ f.And parts ↦ parts | f.Or parts ↦ parts | _ ↦ [] ]

parts_of_and : (parts : List Sent) → parts_of (And parts) ≡ parts
parts_of_and parts = search (rules, the_lemmas)

parts_of_or : (parts : List Sent) → parts_of (Or parts) ≡ parts
parts_of_or parts = search (rules, the_lemmas)

pub and_parts : {ps qs : List Sent} → And ps ≡ And qs → ps ≡ qs
and_parts {ps} {qs} e = sym (parts_of_and ps) ∙ ap parts_of e ∙ parts_of_and qs

pub or_parts : {ps qs : List Sent} → Or ps ≡ Or qs → ps ≡ qs
or_parts {ps} {qs} e = sym (parts_of_or ps) ∙ ap parts_of e ∙ parts_of_or qs

-- A part of a conjunction that is a statement is a statement, and so is a part of such a disjunction.
parts_stated : (parts : List Sent) (part : Sent) → (nat_le 2 (length parts) && list_all statement parts) ≡ true → Contains parts part → IsTrue (statement part)
parts_stated parts part h i = All-contains (λ s. IsTrue (statement s)) parts part (AllPass-from_list_all statement parts ((both_true (nat_le 2 (length parts)) _ h).1)) i

pub conjunct_stated : (parts : List Sent) (part : Sent) → IsTrue (statement (And parts)) → Contains parts part → IsTrue (statement part)
conjunct_stated parts part h i = parts_stated parts part (sym (stated_and parts []) ∙ h) i

pub disjunct_stated : (parts : List Sent) (part : Sent) → IsTrue (statement (Or parts)) → Contains parts part → IsTrue (statement part)
disjunct_stated parts part h i = parts_stated parts part (sym (stated_or parts []) ∙ h) i
