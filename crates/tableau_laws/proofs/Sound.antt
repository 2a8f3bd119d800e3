-- Each choice is sound: all that it adds are statements, and where every branch that it makes is refuted, the branch before it is.
use Rattle.std.proofs.Common.{◌≡◌, List, [], ◌∷◌, ◌++◌, map, refl, ap, sym, ◌∙◌, subst, Bool, true, false, IsTrue, inl, inr, ◌⊎◌, Option, Some, None}
use Rattle.std.specs.Prelude.{if◌then◌else◌}
use Rattle.std.specs.List.{AllByRecursion, list_all, flat_map}
use Rattle.std.proofs.lemmas.Bool.{and_from, and_parts}
use Rattle.fol_core.specs.declared.sent.Term.{Term}
use Rattle.fol_core.specs.declared.sent.Sent.{Sent, out-Sent, roll-Sent, roll-out-Sent}
use Rattle.fol_core.specs.declared.sent.Sent.TheVariants.{Atom, Eq, Bottom, Not, And, Or, If, Iff, All, Ex}
use Rattle.fol_core.specs.declared.sent.Sent.TheVariants as v
use Rattle.fol_core.specs.declared.sent.Sent.TheOpen.{Sent-F}
use Rattle.fol_core.specs.declared.sent.Sent.TheOpen as f
use Rattle.fol_core.specs.Word.{Word, is_ident}
use Rattle.fol_core.specs.Statements.{statement, ground, grounded, AreStatements}
use Rattle.fol_core.specs.Subst.{subst_name, subst_closed_term}
use Rattle.fol_core.specs.Alike.{repl, repl_term, all_pairs}
use Rattle.fol_core.proofs.TermEquality.{bytes_same}
use Rattle.fol_core.proofs.Replacing.{repl_atom, repl_eq, repl_not}
use Rattle.fol_core.proofs.Stating.{stated_atom, stated_eq, stated_not, stated_if, stated_iff}
use Rattle.fol_core.proofs.Instances.{all_instance, ex_instance, all_instance_by_name, ex_instance_by_name}
use Rattle.deriv_laws.specs.Eigen.{AreWithout}
use Rattle.deriv_laws.specs.Derivable.{Der}
use Rattle.deriv_laws.proofs.Connectives.{cut}
use Rattle.tableau_laws.specs.declared.literal.Literal.{Literal as Signed}
use Rattle.tableau_laws.specs.Terms.{put_term}
use Rattle.tableau_laws.specs.Branch.{held, denied, said, said_as, terms_on}
use Rattle.tableau_laws.specs.Choice.{Choice}
use Rattle.tableau_laws.specs.Classes.{single, equation, by_terms, with_term, is_same, is_less, witness, by_witness, fresh, several, universal}
use Rattle.tableau_laws.proofs.Lists.{Elem, all_at, all_both, elem_left}
use Rattle.tableau_laws.proofs.Putting.{put_repl, put_ground}
use Rattle.tableau_laws.proofs.Refuting as c
use Rattle.tableau_laws.proofs.Refuting.{given, each_conjunct, each_disjunct}

-- each of these branches is refuted
abbrev pub Branches : List Sent → List (List Signed) → Type 0
Branches gs lss = AllByRecursion (λ ls. Der (map said ls ++ gs) Bottom) lss

pub record Sound (gs : List Sent) (o : Choice) : Type 0 where
  pub stated : AllByRecursion (λ ls. AreStatements (map said ls)) o.adds
  pub refutes : Branches gs o.adds → Der gs Bottom

abbrev pub AllSound : List Sent → List Choice → Type 0
AllSound gs os = AllByRecursion (Sound gs) os

formed : (gs : List Sent) (h : Bool) (s t : Sent) → Elem gs (said_as h s) → s ≡ t → Elem gs (said_as h t)
formed gs h s t m e = subst (λ z. Elem gs (said_as h z)) e m

stated_at : (gs : List Sent) (s : Sent) → AreStatements gs → Elem gs s → IsTrue (statement s)
stated_at gs s k m = all_at (λ z. IsTrue (statement z)) gs s k m

denied_at : (gs : List Sent) (s : Sent) → AreStatements gs → Elem gs (Not s) → IsTrue (statement s)
denied_at gs s k m = sym (stated_not s []) ∙ stated_at gs (Not s) k m

said_held : (ps : List Sent) → map said (map held ps) ≡ ps
said_held [] = refl
said_held (p ∷ ps) = ap (λ qs. p ∷ qs) (said_held ps)

said_denied : (ps : List Sent) → map said (map denied ps) ≡ map Not ps
said_denied [] = refl
said_denied (p ∷ ps) = ap (λ qs. Not p ∷ qs) (said_denied ps)

all_denied : (ps : List Sent) → AreStatements ps → AreStatements (map Not ps)
all_denied [] h = tt
all_denied (p ∷ ps) h = (stated_not p [] ∙ h.0, all_denied ps h.1)

-- One branch.
pub single_sound : (gs : List Sent) → AreStatements gs → (h : Bool) (s : Sent) → Elem gs (said_as h s) → (w : Sent-F Sent) → s ≡ roll-Sent w → AllSound gs (single h w)
single_sound gs k true s m (f.Not p) e =
    let n : Elem gs (Not p) = formed gs true s (Not p) m (e ∙ v.rolls-Not p) in
    (record { stated = ((stated_at gs (Not p) k n, tt), tt); refutes = λ d. cut gs (Not p) Bottom (given gs (Not p) k n) d.0 }, tt)
single_sound gs k false s m (f.Not p) e =
    let n : Elem gs (Not (Not p)) = formed gs false s (Not p) m (e ∙ v.rolls-Not p) in
    (record { stated = ((sym (stated_not p []) ∙ denied_at gs (Not p) k n, tt), tt); refutes = λ d. c.not_not gs p k n d.0 }, tt)
single_sound gs k true s m (f.And ps) e =
    let n : Elem gs (And ps) = formed gs true s (And ps) m (e ∙ v.rolls-And ps) in
    let o : AreStatements ps = each_conjunct ps (stated_at gs (And ps) k n) in (
      record {
        stated = (subst AreStatements (sym (said_held ps)) o, tt);
        refutes = λ d. c.held_and gs ps k n (subst (λ qs. Der (qs ++ gs) Bottom) (said_held ps) d.0);
      },
      tt,
    )
single_sound gs k false s m (f.Or ps) e =
    let n : Elem gs (Not (Or ps)) = formed gs false s (Or ps) m (e ∙ v.rolls-Or ps) in
    let o : AreStatements ps = each_disjunct ps (denied_at gs (Or ps) k n) in (
      record {
        stated = (subst AreStatements (sym (said_denied ps)) (all_denied ps o), tt);
        refutes = λ d. c.denied_or gs ps k n (subst (λ qs. Der (qs ++ gs) Bottom) (said_denied ps) d.0);
      },
      tt,
    )
single_sound gs k false s m (f.If p q) e =
    let n : Elem gs (Not (If p q)) = formed gs false s (If p q) m (e ∙ v.rolls-If p q) in
    let b = and_parts _ _ (sym (stated_if p q []) ∙ denied_at gs (If p q) k n) in
    (record { stated = ((b.0, (stated_not q [] ∙ b.1, tt)), tt); refutes = λ d. c.denied_if gs p q k n d.0 }, tt)
single_sound gs k h s m _ e = tt

-- Equations.

puts_repl : (l e : Term) (ts : List Term) → all_pairs (repl_term l e) ts (map (put_term l e) ts) ≡ true
puts_repl l e [] = refl
puts_repl l e (t ∷ ts) = and_from _ _ (put_repl l e t) (puts_repl l e ts)

repl_said : (n m : Term) (h : Bool) (p q : Sent) → repl n m p q ≡ true → repl n m (said_as h p) (said_as h q) ≡ true
repl_said n m true p q e = e
repl_said n m false p q e = repl_not n m p q ∙ e

puts_ground : (l e : Term) → grounded [] e ≡ true → (ts : List Term) → list_all (grounded []) ts ≡ true → list_all (grounded []) (map (put_term l e) ts) ≡ true
puts_ground l e k [] h = refl
puts_ground l e k (t ∷ ts) h = let b = and_parts (grounded [] t) (list_all (grounded []) ts) h in and_from _ _ (put_ground l e k t b.0) (puts_ground l e k ts b.1)

stated_said : (h : Bool) (s : Sent) → IsTrue (statement s) → IsTrue (statement (said_as h s))
stated_said true s e = e
stated_said false s e = stated_not s [] ∙ e

stated_unsaid : (h : Bool) (s : Sent) → IsTrue (statement (said_as h s)) → IsTrue (statement s)
stated_unsaid true s e = e
stated_unsaid false s e = sym (stated_not s []) ∙ e

renamed : (gs : List Sent) (a b n m : Term) → grounded [] m ≡ true → AreStatements gs → Elem gs (Eq a b) → ((p s : Sent) → repl n m p s ≡ true → IsTrue (repl a b p s) ⊎ IsTrue (repl b a p s)) →
    (h : Bool) (s : Sent) → Elem gs (said_as h s) → (w : Sent-F Sent) → s ≡ roll-Sent w → AllSound gs (with_term n m h w)
renamed gs a b n m kb k q turn h s mem (f.Atom p ts) e =
    let t : Sent = Atom p (map (put_term n m) ts) in
    let on : Elem gs (said_as h (Atom p ts)) = formed gs h s (Atom p ts) mem (e ∙ v.rolls-Atom p ts) in
    let w = and_parts (is_ident p) (list_all (grounded []) ts) (sym (stated_atom p ts []) ∙ stated_unsaid h (Atom p ts) (stated_at gs (said_as h (Atom p ts)) k on)) in
    let i : IsTrue (statement (said_as h t)) = stated_said h t (stated_atom p (map (put_term n m) ts) [] ∙ and_from _ _ w.0 (puts_ground n m kb ts w.1)) in
    let r : repl n m (said_as h (Atom p ts)) (said_as h t) ≡ true = repl_said n m h (Atom p ts) t (repl_atom n m p p ts (map (put_term n m) ts) ∙ and_from _ _ (bytes_same p) (puts_repl n m ts)) in
    (record { stated = ((i, tt), tt); refutes = λ d. c.replaced gs a b (said_as h (Atom p ts)) (said_as h t) k q on i (turn (said_as h (Atom p ts)) (said_as h t) r) d.0 }, tt)
renamed gs a b n m kb k q turn h s mem (f.Eq x y) e =
    let t : Sent = Eq (put_term n m x) (put_term n m y) in
    let on : Elem gs (said_as h (Eq x y)) = formed gs h s (Eq x y) mem (e ∙ v.rolls-Eq x y) in
    let w = and_parts (grounded [] x) (grounded [] y) (sym (stated_eq x y []) ∙ stated_unsaid h (Eq x y) (stated_at gs (said_as h (Eq x y)) k on)) in
    let i : IsTrue (statement (said_as h t)) = stated_said h t (stated_eq (put_term n m x) (put_term n m y) [] ∙ and_from _ _ (put_ground n m kb x w.0) (put_ground n m kb y w.1)) in
    let r : repl n m (said_as h (Eq x y)) (said_as h t) ≡ true = repl_said n m h (Eq x y) t (repl_eq n m x y (put_term n m x) (put_term n m y) ∙ and_from _ _ (put_repl n m x) (put_repl n m y)) in
    (record { stated = ((i, tt), tt); refutes = λ d. c.replaced gs a b (said_as h (Eq x y)) (said_as h t) k q on i (turn (said_as h (Eq x y)) (said_as h t) r) d.0 }, tt)
renamed gs a b n m kb k q turn h s mem _ e = tt

pub all_flat : {X Y : Type 0} (P : Y → Type 0) (g : X → List Y) (xs : List X) → ((x : X) → Elem xs x → AllByRecursion P (g x)) → AllByRecursion P (flat_map g xs)
all_flat P g [] h = tt
all_flat P g (x ∷ xs) h = all_both P (g x) (flat_map g xs) (h x (inl refl)) (all_flat P g xs (λ y e. h y (inr e)))

pub said_in : (b : List Signed) (l : Signed) → Elem b l → Elem (map said b) (said l)
said_in (k ∷ b) l (inl e) = inl (ap said e)
said_in (k ∷ b) l (inr h) = inr (said_in b l h)
said_in [] l h = absurd h

pub opened : (s : Sent) → s ≡ roll-Sent (out-Sent s)
opened s = sym (roll-out-Sent s)

unless : (gs : List Sent) (b : Bool) (os : List Choice) → AllSound gs os → AllSound gs (if b then [] else os)
unless gs true os h = tt
unless gs false os h = h

by_terms_sound : (ax : List Sent) (br : List Signed) (l : Signed) (a b n m : Term) → grounded [] m ≡ true → AreStatements (map said br ++ ax) → Elem (map said br ++ ax) (Eq a b) →
    ((p s : Sent) → repl n m p s ≡ true → IsTrue (repl a b p s) ⊎ IsTrue (repl b a p s)) → AllSound (map said br ++ ax) (by_terms br l n m)
by_terms_sound ax br l a b n m kb k q turn =
    let gs : List Sent = map said br ++ ax in
    all_flat (Sound gs) (λ o. if is_same l o then [] else with_term n m o.holds (out-Sent o.sentence)) br (λ o h.
    unless gs (is_same l o) (with_term n m o.holds (out-Sent o.sentence))
    (renamed gs a b n m kb k q turn o.holds o.sentence (elem_left (map said br) ax (said o) (said_in br o h)) (out-Sent o.sentence) (opened o.sentence)))

either_order : (gs : List Sent) (b : Bool) (os ps : List Choice) → AllSound gs os → AllSound gs ps → AllSound gs (if b then os else ps)
either_order gs true os ps h k = h
either_order gs false os ps h k = k

pub equation_sound : (ax : List Sent) (br : List Signed) (l : Signed) → AreStatements (map said br ++ ax) → (h : Bool) (s : Sent) → Elem (map said br ++ ax) (said_as h s) → (w : Sent-F Sent) → s ≡ roll-Sent w → AllSound (map said br ++ ax) (equation br l h w)
equation_sound ax br l k true s m (f.Eq a b) e =
    let q : Elem (map said br ++ ax) (Eq a b) = formed (map said br ++ ax) true s (Eq a b) m (e ∙ v.rolls-Eq a b) in
    let w = and_parts (grounded [] a) (grounded [] b) (sym (stated_eq a b []) ∙ stated_at (map said br ++ ax) (Eq a b) k q) in
    either_order (map said br ++ ax) (is_less (terms_on br) a b) (by_terms br l b a) (by_terms br l a b)
    (by_terms_sound ax br l a b b a w.0 k q (λ p s h. inr h)) (by_terms_sound ax br l a b a b w.1 k q (λ p s h. inl h))
equation_sound ax br l k h s m _ e = tt

-- Witnesses.
pub witness_sound : (gs : List Sent) (names : List Term) → AreStatements gs → ((n : Word) → fresh names ≡ Some n → IsTrue (is_ident n) × AreWithout n gs) → (h : Bool) (s : Sent) → Elem gs (said_as h s) → (w : Sent-F Sent) → s ≡ roll-Sent w → AllSound gs (witness names h w)
witness_sound gs names k new true s m (f.Ex x p) e = by (fresh names) (λ n g. new n g)
  where
    by : (o : Option Word) → ((n : Word) → o ≡ Some n → IsTrue (is_ident n) × AreWithout n gs) → AllSound gs (by_witness names o true x p)
    by None g = tt
    by (Some n) g =
        let on : Elem gs (Ex x p) = formed gs true s (Ex x p) m (e ∙ v.rolls-Ex x p) in
        (record { stated = ((ex_instance_by_name x n p (g n refl).0 (stated_at gs (Ex x p) k on), tt), tt); refutes = λ d. c.witness gs x p n k on (g n refl).1 d.0 }, tt)
witness_sound gs names k new false s m (f.All x p) e = by (fresh names) (λ n g. new n g)
  where
    by : (o : Option Word) → ((n : Word) → o ≡ Some n → IsTrue (is_ident n) × AreWithout n gs) → AllSound gs (by_witness names o false x p)
    by None g = tt
    by (Some n) g =
        let on : Elem gs (Not (All x p)) = formed gs false s (All x p) m (e ∙ v.rolls-All x p) in
        (record { stated = ((stated_not (subst_name x n p) [] ∙ all_instance_by_name x n p (g n refl).0 (denied_at gs (All x p) k on), tt), tt); refutes = λ d. c.counterexample gs x p n (g n refl).0 k on (g n refl).1 d.0 }, tt)
witness_sound gs names k new h s m _ e = tt

-- Several branches.

each_held : (gs ps : List Sent) → Branches gs (map (λ p. held p ∷ []) ps) → AllByRecursion (λ p. Der (p ∷ gs) Bottom) ps
each_held gs [] h = tt
each_held gs (p ∷ ps) h = (h.0, each_held gs ps h.1)

each_denied : (gs ps : List Sent) → Branches gs (map (λ p. denied p ∷ []) ps) → AllByRecursion (λ p. Der (Not p ∷ gs) Bottom) ps
each_denied gs [] h = tt
each_denied gs (p ∷ ps) h = (h.0, each_denied gs ps h.1)

holds_stated : (ps : List Sent) → AreStatements ps → AllByRecursion (λ ls. AreStatements (map said ls)) (map (λ p. held p ∷ []) ps)
holds_stated [] h = tt
holds_stated (p ∷ ps) h = ((h.0, tt), holds_stated ps h.1)

denies_stated : (ps : List Sent) → AreStatements ps → AllByRecursion (λ ls. AreStatements (map said ls)) (map (λ p. denied p ∷ []) ps)
denies_stated [] h = tt
denies_stated (p ∷ ps) h = ((stated_not p [] ∙ h.0, tt), denies_stated ps h.1)

pub several_sound : (gs : List Sent) → AreStatements gs → (h : Bool) (s : Sent) → Elem gs (said_as h s) → (w : Sent-F Sent) → s ≡ roll-Sent w → AllSound gs (several h w)
several_sound gs k false s m (f.And ps) e =
    let n : Elem gs (Not (And ps)) = formed gs false s (And ps) m (e ∙ v.rolls-And ps) in
    let o : AreStatements ps = each_conjunct ps (denied_at gs (And ps) k n) in
    (record { stated = denies_stated ps o; refutes = λ d. c.denied_and gs ps k n (each_denied gs ps d) }, tt)
several_sound gs k true s m (f.Or ps) e =
    let n : Elem gs (Or ps) = formed gs true s (Or ps) m (e ∙ v.rolls-Or ps) in
    let o : AreStatements ps = each_disjunct ps (stated_at gs (Or ps) k n) in
    (record { stated = holds_stated ps o; refutes = λ d. c.held_or gs ps k n (each_held gs ps d) }, tt)
several_sound gs k true s m (f.If p q) e =
    let n : Elem gs (If p q) = formed gs true s (If p q) m (e ∙ v.rolls-If p q) in
    let b = and_parts _ _ (sym (stated_if p q []) ∙ stated_at gs (If p q) k n) in
    (record { stated = ((stated_not p [] ∙ b.0, tt), ((b.1, tt), tt)); refutes = λ d. c.held_if gs p q k n d.0 d.1.0 }, tt)
several_sound gs k true s m (f.Iff p q) e =
    let n : Elem gs (Iff p q) = formed gs true s (Iff p q) m (e ∙ v.rolls-Iff p q) in
    let b = and_parts _ _ (sym (stated_iff p q []) ∙ stated_at gs (Iff p q) k n) in
    (record { stated = ((b.0, (b.1, tt)), ((stated_not p [] ∙ b.0, (stated_not q [] ∙ b.1, tt)), tt)); refutes = λ d. c.held_iff gs p q k n d.0 d.1.0 }, tt)
several_sound gs k false s m (f.Iff p q) e =
    let n : Elem gs (Not (Iff p q)) = formed gs false s (Iff p q) m (e ∙ v.rolls-Iff p q) in
    let b = and_parts _ _ (sym (stated_iff p q []) ∙ denied_at gs (Iff p q) k n) in
    (record { stated = ((b.0, (stated_not q [] ∙ b.1, tt)), ((stated_not p [] ∙ b.0, (b.1, tt)), tt)); refutes = λ d. c.denied_iff gs p q k n d.0 d.1.0 }, tt)
several_sound gs k h s m _ e = tt

-- Universals.
pub universal_sound : (gs : List Sent) (n : Term) → IsTrue (ground n) → AreStatements gs → (h : Bool) (s : Sent) → Elem gs (said_as h s) → (w : Sent-F Sent) → s ≡ roll-Sent w → AllSound gs (universal n h w)
universal_sound gs n kn k true s m (f.All x p) e =
    let on : Elem gs (All x p) = formed gs true s (All x p) m (e ∙ v.rolls-All x p) in
    (record { stated = ((all_instance x n p kn (stated_at gs (All x p) k on), tt), tt); refutes = λ d. c.held_all gs x p n kn k on d.0 }, tt)
universal_sound gs n kn k false s m (f.Ex x p) e =
    let on : Elem gs (Not (Ex x p)) = formed gs false s (Ex x p) m (e ∙ v.rolls-Ex x p) in
    (record { stated = ((stated_not (subst_closed_term x n p) [] ∙ ex_instance x n p kn (denied_at gs (Ex x p) k on), tt), tt); refutes = λ d. c.denied_ex gs x p n kn k on d.0 }, tt)
universal_sound gs n kn k h s m _ e = tt
