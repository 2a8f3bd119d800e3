-- The builder: a node by any rule, over derivations of its parts, is a derivation.
use Rattle.std.proofs.Common.{◌≡◌, List, [], ◌∷◌, ◌++◌, map, refl, ap, sym, ◌∙◌, subst, Option, None, IsTrue, Contains, Bool, true, false, rules, true≢false}
use Rattle.std.specs.Prelude.{not, ◌||◌, cond}
use Rattle.std.specs.List.{flat_map, list_any, AllByRecursion}
use Rattle.fol_core.specs.declared.sent.Sent.{Sent}
use Rattle.fol_core.specs.Word.{Word}
use Rattle.fol_core.specs.Statements.{statement}
use Rattle.fol_core.proofs.Equality.{alike_refl}
use Rattle.deriv_laws.specs.declared.rule.Rule.{Rule}
use Rattle.deriv_laws.specs.declared.rule.Rule.TheVariants as r
use Rattle.deriv_laws.specs.declared.tree.Tree.{Tree, out-Tree, roll-Tree, the_lemmas}
use Rattle.deriv_laws.specs.declared.tree.Tree.TheOpen.{Tree-F}
use Rattle.deriv_laws.specs.Rows.{Row}
use Rattle.deriv_laws.specs.Discharge.{discharged, alike, without, joined}
use Rattle.deriv_laws.specs.Trees.{Node, concl, nodes, undischarged, open_at}
use Rattle.deriv_laws.specs.Eigen.{IsEigen}
use Rattle.deriv_laws.specs.Valid.{Meets}
use Rattle.deriv_laws.specs.Derivable.{Der}
use Rattle.deriv_laws.proofs.Lists.{all_both}
use Rattle.deriv_laws.proofs.Members.{contains_cases}
use Rattle.deriv_laws.proofs.Equations.{nodes_out, undischarged_out, open_other_at}

-- a node over trees
abbrev pub layer : Rule → Option Word → Sent → List Tree → Tree-F Tree
layer rule b s ts = record { rule = rule; sentence = s; boxed = b; parts = ts }

pub out_layer : (rule : Rule) (b : Option Word) (s : Sent) (ts : List Tree) → out-Tree (roll-Tree (layer rule b s ts)) ≡ layer rule b s ts
out_layer rule b s ts = search (rules, the_lemmas)

abbrev pub node_from : Tree-F Tree → Node
node_from x = record { rule = x.rule; boxed = x.boxed; concls = map concl x.parts; opens = map undischarged x.parts; sentence = x.sentence }

-- each of the sentences is among those given
abbrev pub AllIn : List Sent → List Sent → Type 0
AllIn gs ss = AllByRecursion (λ s. Contains gs s) ss

-- A node over valid trees that is in order, and leaves open only what is given, is a derivation.
pub from_node : (gs : List Sent) (rule : Rule) (b : Option Word) (s : Sent) (ts : List Tree) →
    AllByRecursion Meets (flat_map nodes ts) →
    Meets (node_from (layer rule b s ts)) → AllIn gs (open_at (node_from (layer rule b s ts))) → Der gs s
from_node gs rule b s ts valid root within =
    let e : out-Tree (roll-Tree (layer rule b s ts)) ≡ layer rule b s ts = out_layer rule b s ts in
    let t : Tree = roll-Tree (layer rule b s ts) in
    record {
      tree = t;
      valid = rw (nodes_out t) (subst (λ x. AllByRecursion Meets (node_from x ∷ flat_map nodes x.parts)) (sym e) (root, valid));
      concludes = ap (λ x. x.sentence) e;
      within = rw (undischarged_out t) (subst (λ x. AllIn gs (open_at (node_from x))) (sym e) within);
    }

-- Each part is derivable from what is given and what is discharged in it; past the end of the
-- discharges nothing is.
abbrev pub PartsFrom : List Sent → List Sent → List (List Sent) → Type 0
PartsFrom gs [] ds = Unit {0}
PartsFrom gs (p ∷ ps) [] = Der gs p × PartsFrom gs ps []
PartsFrom gs (p ∷ ps) (d ∷ ds) = Der (d ++ gs) p × PartsFrom gs ps ds

-- What each part leaves open is among what is given and what is discharged in it.
abbrev pub AreWithin : List Sent → List (List Sent) → List (List Sent) → Type 0
AreWithin gs [] ds = Unit {0}
AreWithin gs (o ∷ os) [] = AllIn gs o × AreWithin gs os []
AreWithin gs (o ∷ os) (d ∷ ds) = AllIn (d ++ gs) o × AreWithin gs os ds

-- the trees of the parts: they conclude the parts, they are valid, and they leave open only what they may
trees_of : (gs ps : List Sent) (ds : List (List Sent)) → PartsFrom gs ps ds → List Tree
trees_of gs [] ds h = []
trees_of gs (p ∷ ps) [] h = h.0.tree ∷ trees_of gs ps [] h.1
trees_of gs (p ∷ ps) (d ∷ ds) h = h.0.tree ∷ trees_of gs ps ds h.1

conclude_them : (gs ps : List Sent) (ds : List (List Sent)) (h : PartsFrom gs ps ds) → map concl (trees_of gs ps ds h) ≡ ps
unfolding trees_of
conclude_them gs [] ds h = refl
conclude_them gs (p ∷ ps) [] h = ap (λ s. s ∷ map concl (trees_of gs ps [] h.1)) h.0.concludes ∙ ap (λ ss. p ∷ ss) (conclude_them gs ps [] h.1)
conclude_them gs (p ∷ ps) (d ∷ ds) h = ap (λ s. s ∷ map concl (trees_of gs ps ds h.1)) h.0.concludes ∙ ap (λ ss. p ∷ ss) (conclude_them gs ps ds h.1)

valid_them : (gs ps : List Sent) (ds : List (List Sent)) (h : PartsFrom gs ps ds) → AllByRecursion Meets (flat_map nodes (trees_of gs ps ds h))
unfolding trees_of
valid_them gs [] ds h = tt
valid_them gs (p ∷ ps) [] h = all_both Meets (nodes h.0.tree) (flat_map nodes (trees_of gs ps [] h.1)) h.0.valid (valid_them gs ps [] h.1)
valid_them gs (p ∷ ps) (d ∷ ds) h = all_both Meets (nodes h.0.tree) (flat_map nodes (trees_of gs ps ds h.1)) h.0.valid (valid_them gs ps ds h.1)

within_them : (gs ps : List Sent) (ds : List (List Sent)) (h : PartsFrom gs ps ds) → AreWithin gs (map undischarged (trees_of gs ps ds h)) ds
unfolding trees_of
within_them gs [] ds h = tt
within_them gs (p ∷ ps) [] h = (h.0.within, within_them gs ps [] h.1)
within_them gs (p ∷ ps) (d ∷ ds) h = (h.0.within, within_them gs ps ds h.1)

neither : (a b : Bool) → (a || b) ≡ false → (a ≡ false) × (b ≡ false)
neither true b e = absurd (true≢false e)
neither false b e = (refl, e)

-- what is none of the discharged is among what is given
given : (gs d : List Sent) (s : Sent) → Contains (d ++ gs) s → list_any (λ p. alike p s) d ≡ false → Contains gs s
given gs [] s c e = c
given gs (p ∷ d) s c e =
    let n = neither (alike p s) (list_any (λ q. alike q s) d) e in
    contains_cases (Contains gs s) p s (d ++ gs)
    (λ i. let f : alike p s ≡ true = subst (λ q. alike p q ≡ true) i (alike_refl p) in absurd (true≢false (sym f ∙ n.0)))
    (λ j. given gs d s j n.1) c

kept_or_not : (gs d o : List Sent) (s : Sent) (b : Bool) → list_any (λ p. alike p s) d ≡ b → Contains (d ++ gs) s → AllIn gs (without d o) → AllIn gs (cond (not b) (s ∷ without d o) (without d o))
kept_or_not gs d o s true e c h = h
kept_or_not gs d o s false e c h = (given gs d s c e, h)

-- what is left open once the discharged is dropped is among what is given
pub without_within : (gs d o : List Sent) → AllIn (d ++ gs) o → AllIn gs (without d o)
without_within gs d [] h = tt
without_within gs d (s ∷ o) h = kept_or_not gs d o s (list_any (λ p. alike p s) d) refl h.0 (without_within gs d o h.1)

joined_within : (gs : List Sent) (os ds : List (List Sent)) → AreWithin gs os ds → AllIn gs (joined os ds)
joined_within gs [] ds h = tt
joined_within gs (o ∷ os) [] h = all_both (λ s. Contains gs s) o (joined os []) h.0 (joined_within gs os [] h.1)
joined_within gs (o ∷ os) (d ∷ ds) h = all_both (λ s. Contains gs s) (without d o) (joined os ds) (without_within gs d o h.0) (joined_within gs os ds h.1)

-- The builder. A rule that is in order, over parts that are derivable from what is given and what
-- it discharges in them, gives its conclusion from what is given.
pub built : (gs : List Sent) (rule : Rule) (b : Option Word) (ps : List Sent) (s : Sent) → (rule ≡ r.Assume → ⊥) → IsTrue (statement s) → Row rule b ps s →
    ((os : List (List Sent)) → AreWithin gs os (discharged rule b ps s) → IsEigen rule b ps os s) →
    PartsFrom gs ps (discharged rule b ps s) → Der gs s
built gs rule b ps s other c row eigen h =
    let ds : List (List Sent) = discharged rule b ps s in
    let ts : List Tree = trees_of gs ps ds h in
    let os : List (List Sent) = map undischarged ts in
    let e : map concl ts ≡ ps = conclude_them gs ps ds h in
    from_node gs rule b s ts (valid_them gs ps ds h)
    (record { stated = c; row = subst (λ qs. Row rule b qs s) (sym e) row; eigen = subst (λ qs. IsEigen rule b qs os s) (sym e) (eigen os (within_them gs ps ds h)) })
    (rw (open_other_at rule (node_from (layer rule b s ts)) other) (subst (λ qs. AllIn gs (joined os (discharged rule b qs s))) (sym e) (joined_within gs os ds (within_them gs ps ds h))))

-- parts in which nothing is discharged
pub plain_parts : (gs ps : List Sent) → AllByRecursion (λ p. Der gs p) ps → PartsFrom gs ps []
plain_parts gs [] h = tt
plain_parts gs (p ∷ ps) h = (h.0, plain_parts gs ps h.1)

-- A rule that discharges nothing and boxes no constant.
pub plain : (gs ps : List Sent) (rule : Rule) (s : Sent) → (rule ≡ r.Assume → ⊥) → discharged rule None ps s ≡ [] → ((os : List (List Sent)) → IsEigen rule None ps os s) →
    AllByRecursion (λ p. Der gs p) ps → IsTrue (statement s) → Row rule None ps s → Der gs s
plain gs ps rule s other none eigen h c row = built gs rule None ps s other c row (λ os w. eigen os) (subst (λ ds. PartsFrom gs ps ds) (sym none) (plain_parts gs ps h))
