-- Laws of derivability: assumptions, weakening, closure, and conjunctions.
use Rattle.std.proofs.Common.{List, [], ◌∷◌, ◌++◌, refl, subst, None, IsTrue, Contains}
use Rattle.std.specs.List.{flat_map, AllByRecursion}
use Rattle.fol_core.specs.declared.sent.Sent.{Sent}
use Rattle.fol_core.specs.declared.sent.Sent.TheVariants.{And}
use Rattle.fol_core.specs.Statements.{statement}
use Rattle.deriv_laws.specs.declared.rule.Rule.TheVariants as r
use Rattle.deriv_laws.specs.declared.tree.Tree.{out-Tree}
use Rattle.deriv_laws.specs.Trees.{nodes, undischarged, node_at}
use Rattle.deriv_laws.specs.Valid.{Meets}
use Rattle.deriv_laws.specs.Derivable.{Der}
use Rattle.deriv_laws.proofs.Lists.{all_turn}
use Rattle.deriv_laws.proofs.Members.{contains_there, contains_right}
use Rattle.deriv_laws.proofs.Equations.{nodes_out}
use Rattle.deriv_laws.proofs.Building.{from_node, plain}

-- A statement is derivable wherever it is among what is given.
pub assume : (gs : List Sent) (s : Sent) → Contains gs s → IsTrue (statement s) → Der gs s
assume gs s h c = from_node gs r.Assume None s [] tt (record { stated = c; row = tt; eigen = tt }) (h, tt)

-- More may be given, in any order.
pub weaken : (gs hs : List Sent) (s : Sent) → ((x : Sent) → Contains gs x → Contains hs x) → Der gs s → Der hs s
weaken gs hs s f h = record { tree = h.tree; valid = h.valid; concludes = h.concludes; within = all_turn (λ x. Contains gs x) (λ x. Contains hs x) f (undischarged h.tree) h.within }

-- One sentence more may be given, or a whole list before the others.
pub weaken_by : (gs : List Sent) (p s : Sent) → Der gs s → Der (p ∷ gs) s
weaken_by gs p s h = weaken gs (p ∷ gs) s (λ x c. contains_there p x gs c) h

pub weaken_before : (hs gs : List Sent) (s : Sent) → Der gs s → Der (hs ++ gs) s
weaken_before hs gs s h = weaken gs (hs ++ gs) s (λ x c. contains_right hs gs x c) h

-- What is derivable is a statement.
pub der_stated : (gs : List Sent) (s : Sent) → Der gs s → IsTrue (statement s)
der_stated gs s h =
    let v : AllByRecursion Meets (node_at h.tree ∷ flat_map nodes (out-Tree h.tree).parts) = rw (nodes_out h.tree) at h.valid in
    subst (λ x. IsTrue (statement x)) h.concludes v.0.stated

-- Where each part is derivable, so is their conjunction.
pub and_intro : (gs ps : List Sent) → AllByRecursion (λ p. Der gs p) ps → IsTrue (statement (And ps)) → Der gs (And ps)
and_intro gs ps h c = plain gs ps r.AndIntro (And ps) (λ e. cc) refl (λ os. tt) h c refl

-- Where a conjunction is derivable, so is each of its parts.
pub and_elim : (gs parts : List Sent) (s : Sent) → Der gs (And parts) → Contains parts s → IsTrue (statement s) → Der gs s
and_elim gs parts s h i c = plain gs (And parts ∷ []) r.AndElim s (λ e. cc) refl (λ os. tt) (h, tt) c (parts, refl, i)
