-- What the definitions say of each form of term.
use Rattle.std.proofs.Common.{◌≡◌, ℕ, ◌+◌, ◌≤◌, List, length, map, refl, ap, ap₂, sym, ◌∙◌, rules, Bool, true, false, IsTrue}
use Rattle.std.specs.Prelude.{◌&&◌, nat_le}
use Rattle.std.proofs.lemmas.Bool.{le-leb}
use Rattle.std.proofs.lemmas.List.{length-map}
use Rattle.std.specs.List.{list_any, list_all}
use Rattle.fol_core.specs.declared.sent.Term.{Term, out-Term, the_lemmas}
use Rattle.fol_core.specs.declared.sent.Term.TheVariants.{Var, Name, App}
use Rattle.fol_core.specs.declared.sent.Term.TheOpen as t
use Rattle.fol_core.specs.Word.{Word, is_ident}
use Rattle.fol_core.specs.Subst.{itself, occurs_in_term, subst_term}
use Rattle.fol_core.specs.Closed.{is_among, is_bound}
use Rattle.fol_core.specs.Statements.{grounded}
use Rattle.fol_core.specs.Formed.{is_formed_term}
use Rattle.fol_core.specs.Size.{term_depth, term_nodes, greatest, total}
use Rattle.fol_core.proofs.Parts.{any_itself, all_itself}

pub in_app : (n g : Word) (ts : List Term) → occurs_in_term n (App g ts) ≡ list_any (occurs_in_term n) ts
in_app n g ts = let e : occurs_in_term n (App g ts) ≡ list_any itself (map (occurs_in_term n) ts) = search (rules, the_lemmas) in e ∙ any_itself (occurs_in_term n) ts

pub bound_app : (g : Word) (ts : List Term) (bound : List Word) → is_bound bound (App g ts) ≡ list_all (is_bound bound) ts
bound_app g ts bound = let e : is_bound bound (App g ts) ≡ list_all itself (map (is_bound bound) ts) = search (rules, the_lemmas) in e ∙ all_itself (is_bound bound) ts

pub bound_var : (x : Word) (bound : List Word) → is_bound bound (Var x) ≡ is_among x bound
bound_var x bound = search (rules, the_lemmas)

pub bound_name : (n : Word) (bound : List Word) → is_bound bound (Name n) ≡ true
bound_name n bound = search (rules, the_lemmas)

pub grounded_app : (g : Word) (ts : List Term) (bound : List Word) → grounded bound (App g ts) ≡ (is_ident g && (nat_le 1 (length ts) && list_all (grounded bound) ts))
grounded_app g ts bound =
    let e : grounded bound (App g ts) ≡ (is_ident g && (nat_le 1 (length (map (grounded bound) ts)) && list_all itself (map (grounded bound) ts))) = search (rules, the_lemmas) in
    e ∙ ap₂ (λ n a. is_ident g && (nat_le 1 n && a)) (length-map ts (grounded bound)) (all_itself (grounded bound) ts)

-- Where the types keep the rest, a function term is grounded where its arguments are.
pub grounded_args : (g : Word) (ts : List Term) (bound : List Word) → IsTrue (is_ident g) → 1 ≤ length ts → grounded bound (App g ts) ≡ list_all (grounded bound) ts
grounded_args g ts bound i l = grounded_app g ts bound ∙ ap₂ (λ a b. a && (b && list_all (grounded bound) ts)) i (le-leb 1 (length ts) l)

pub grounded_var : (x : Word) (bound : List Word) → grounded bound (Var x) ≡ (is_ident x && is_among x bound)
grounded_var x bound = search (rules, the_lemmas)

pub grounded_name : (n : Word) (bound : List Word) → grounded bound (Name n) ≡ is_ident n
grounded_name n bound = search (rules, the_lemmas)

pub in_var : (n x : Word) → occurs_in_term n (Var x) ≡ false
in_var n x = search (rules, the_lemmas)

pub put_app : (x : Word) (r : Term) (free : Bool) (g : Word) (ts : List Term) → subst_term x r free (App g ts) ≡ App g (map (subst_term x r free) ts)
put_app x r free g ts = search (rules, the_lemmas)

pub put_name : (x : Word) (r : Term) (free : Bool) (n : Word) → subst_term x r free (Name n) ≡ Name n
put_name x r free n = search (rules, the_lemmas)

pub depth_var : (x : Word) → term_depth (Var x) ≡ 0
depth_var x = search (rules, the_lemmas)

pub depth_name : (n : Word) → term_depth (Name n) ≡ 0
depth_name n = search (rules, the_lemmas)

pub depth_app : (g : Word) (ts : List Term) → term_depth (App g ts) ≡ 1 + greatest (map term_depth ts)
depth_app g ts = search (rules, the_lemmas)

pub nodes_var : (x : Word) → term_nodes (Var x) ≡ 1
nodes_var x = search (rules, the_lemmas)

pub nodes_name : (n : Word) → term_nodes (Name n) ≡ 1
nodes_name n = search (rules, the_lemmas)

pub nodes_app : (g : Word) (ts : List Term) → term_nodes (App g ts) ≡ 1 + total (map term_nodes ts)
nodes_app g ts = search (rules, the_lemmas)

pub out_var : (x : Word) → out-Term (Var x) ≡ t.Var x
out_var x = search (rules, the_lemmas)

pub out_name : (n : Word) → out-Term (Name n) ≡ t.Name n
out_name n = search (rules, the_lemmas)

pub out_app : (g : Word) (ts : List Term) → out-Term (App g ts) ≡ t.App g ts
out_app g ts = search (rules, the_lemmas)
