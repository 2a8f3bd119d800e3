-- Well-nested lines are the lines of exactly one nested proof.
use Rattle.std.proofs.Common.{◌≡◌, ℕ, zero, suc, ◌+◌, ◌-◌, ◌≤◌, ◌<◌, List, [], ◌∷◌, ◌++◌, refl, ap, ap₂, sym, ◌∙◌, subst, Option, Some, None, true, false, arith, append_assoc, append-nil, inl, inr}
use Rattle.std.specs.Prelude.{◌⊎◌, cond}
use Rattle.std.specs.List.{AllByRecursion}
use Rattle.deriv_laws.proofs.Lists.{all_left, all_right}
use Rattle.fol_core.specs.declared.sent.Sent.{Sent}
use Rattle.fol_core.specs.Word.{Word}
use Rattle.deriv_laws.specs.declared.rule.Rule.{Rule}
use Rattle.deriv_laws.specs.declared.line.Cite.{Cite}
use Rattle.deriv_laws.specs.declared.line.FlatLine.{FlatLine}
use Rattle.nested_proofs.proofs.VisibleSentences.{three}
use Rattle.nested_proofs.specs.Items.{Opening, Assumes, Boxes, Items, Done, Step, Sub, step_line, opening_line, flatten, opens, AreProper}
use Rattle.nested_proofs.specs.Levels.{level}
use Rattle.nested_proofs.specs.Nesting.{IsShaped, WellNested, IsOutside, HasPremisesOutside, LinesHaveAProof, ProofsAreWellNested, LinesHaveOneProof}
use Rattle.nested_proofs.proofs.Levels.{level_step, level_opening, depth_opening, opens_opening}
use Rattle.nested_proofs.proofs.SubproofLevels.{Stops, stops_on, stops_less}
use Rattle.deriv_laws.specs.declared.rule.Rule.TheVariants as r

-- One nested proof

opening_same : (d : ℕ) (o q : Opening) → opening_line d o ≡ opening_line d q → o ≡ q
opening_same d (Assumes b p) (Assumes c s) e = ap₂ Assumes (ap (λ (l : FlatLine). l.boxed) e) (let f : Some p ≡ Some s = ap (λ (l : FlatLine). l.sentence) e in cc)
opening_same d (Boxes b) (Boxes c) e = let f : Some b ≡ Some c = ap (λ (l : FlatLine). l.boxed) e in cc
opening_same d (Assumes b p) (Boxes c) e = let f : r.Assume ≡ r.BoxOnly = ap (λ (l : FlatLine). l.rule) e in cc
opening_same d (Boxes c) (Assumes b p) e = let f : r.BoxOnly ≡ r.Assume = ap (λ (l : FlatLine). l.rule) e in cc

-- where a list stops, it doesn't begin with a line of this level
not_there : (d : ℕ) (l : FlatLine) (ls s : List FlatLine) → level l ≡ d → Stops d s → s ≡ l ∷ ls → ⊥
not_there d l ls s e h f = omega (arith, e, subst (Stops d) f h)

unique : (p q : Items) (d : ℕ) (s t : List FlatLine) → AreProper p → AreProper q → Stops d s → Stops d t → flatten d p ++ s ≡ flatten d q ++ t → (p ≡ q) × (s ≡ t)
unique Done Done d s t o u h k e = (refl, e)
unique Done (Step x rule cites rest) d s t o u h k e = absurd (not_there d (step_line d x rule cites) (flatten d rest ++ t) s (level_step d x rule cites u.0) h e)
unique Done (Sub op body rest) d s t o u h k e = absurd (not_there d (opening_line (d + 1) op) ((flatten (d + 1) body ++ flatten d rest) ++ t) s (level_opening d op) h e)
unique (Step x rule cites rest) Done d s t o u h k e = absurd (not_there d (step_line d x rule cites) (flatten d rest ++ s) t (level_step d x rule cites o.0) k (sym e))
unique (Sub op body rest) Done d s t o u h k e = absurd (not_there d (opening_line (d + 1) op) ((flatten (d + 1) body ++ flatten d rest) ++ s) t (level_opening d op) k (sym e))
unique (Step x rule cites rest) (Sub op body more) d s t o u h k e =
    let f : step_line d x rule cites ≡ opening_line (d + 1) op = cc in
    let g : opens rule ≡ opens (opening_line (d + 1) op).rule = ap (λ (l : FlatLine). opens l.rule) f in
    let i : true ≡ false = sym (opens_opening (d + 1) op) ∙ sym g ∙ o.0 in cc
unique (Sub op body more) (Step x rule cites rest) d s t o u h k e =
    let f : opening_line (d + 1) op ≡ step_line d x rule cites = cc in
    let g : opens (opening_line (d + 1) op).rule ≡ opens rule = ap (λ (l : FlatLine). opens l.rule) f in
    let i : true ≡ false = sym (opens_opening (d + 1) op) ∙ g ∙ u.0 in cc
unique (Step x rule cites rest) (Step y role cities more) d s t o u h k e =
    let f : step_line d x rule cites ≡ step_line d y role cities = cc in
    let g : flatten d rest ++ s ≡ flatten d more ++ t = cc in
    let w : (rest ≡ more) × (s ≡ t) = unique rest more d s t o.1 u.1 h k g in
    let a : Some x ≡ Some y = ap (λ (l : FlatLine). l.sentence) f in
    let b : rule ≡ role = ap (λ (l : FlatLine). l.rule) f in
    let c : cites ≡ cities = ap (λ (l : FlatLine). l.cites) f in
    let i : x ≡ y = cc in
    let j : rest ≡ more = w.0 in
    (cc, w.1)
unique (Sub op body rest) (Sub oq tody more) d s t o u h k e =
    let f : opening_line (d + 1) op ≡ opening_line (d + 1) oq = cc in
    let g : (flatten (d + 1) body ++ flatten d rest) ++ s ≡ (flatten (d + 1) tody ++ flatten d more) ++ t = cc in
    let i : flatten (d + 1) body ++ (flatten d rest ++ s) ≡ flatten (d + 1) tody ++ (flatten d more ++ t) =
    sym (append_assoc (flatten (d + 1) body) (flatten d rest) s) ∙ g ∙ append_assoc (flatten (d + 1) tody) (flatten d more) t in
    let v : (body ≡ tody) × (flatten d rest ++ s ≡ flatten d more ++ t) = unique body tody (d + 1) (flatten d rest ++ s) (flatten d more ++ t) o.0 u.0
    (stops_on (d + 1) d rest s (omega arith) o.1 (stops_less d s h)) (stops_on (d + 1) d more t (omega arith) u.1 (stops_less d t k)) i in
    let w : (rest ≡ more) × (s ≡ t) = unique rest more d s t o.1 u.1 h k v.1 in
    let a : op ≡ oq = opening_same (d + 1) op oq f in
    let b : body ≡ tody = v.0 in
    let c : rest ≡ more = w.0 in
    (cc, w.1)

pub one_proof : LinesHaveOneProof
one_proof p q o u e = (unique p q 1 [] [] o u tt tt (append-nil (flatten 1 p) ∙ e ∙ sym (append-nil (flatten 1 q)))).0

-- A nested proof

-- items at each depth from d down to 1, one list after the other
abbrev Tower : ℕ → List FlatLine → Type 0
Tower zero ls = ls ≡ []
Tower (suc d) ls = (p : Items) × AreProper p × (rest : List FlatLine) × (ls ≡ flatten (suc d) p ++ rest) × Tower d rest

empty : (d : ℕ) → Tower d []
empty zero = refl
empty (suc d) = (Done, tt, [], refl, empty d)

raise : (k v : ℕ) (ls : List FlatLine) → v ≤ k → Tower v ls → Tower k ls
raise zero v ls h w = subst (λ d. Tower d ls) (let e : v ≡ 0 = omega arith in e) w
raise (suc k) v ls h w = go (three k v) (raise k v ls)
  where
    go : (k < v) ⊎ (v ≤ k) → (v ≤ k → Tower v ls → Tower k ls) → Tower (suc k) ls
    go (inl i) up = subst (λ d. Tower d ls) (let e : v ≡ suc k = omega arith in e) w
    go (inr i) up = (Done, tt, ls, refl, up i w)

lower : (d k : ℕ) (ls : List FlatLine) → d ≡ suc k → Tower d ls → (p : Items) × AreProper p × (rest : List FlatLine) × (ls ≡ flatten (suc k) p ++ rest) × Tower k rest
lower d k ls e w = subst (λ n. Tower n ls) e w

-- a line with what stands beside it
with_parts : (l : FlatLine) (b : Option Word) (s : Option Sent) (rule : Rule) (cs : List Cite) → l.boxed ≡ b → l.sentence ≡ s → l.rule ≡ rule → l.cites ≡ cs →
    l ≡ (let x : FlatLine = record { depth = l.depth; boxed = b; sentence = s; rule = rule; cites = cs } in x)
with_parts l b s rule cs e f g h =
    ap (λ (z : Option Word). let x : FlatLine = record { depth = l.depth; boxed = z; sentence = l.sentence; rule = l.rule; cites = l.cites } in x) e
    ∙ ap (λ (z : Option Sent). let x : FlatLine = record { depth = l.depth; boxed = b; sentence = z; rule = l.rule; cites = l.cites } in x) f
    ∙ ap (λ (z : Rule). let x : FlatLine = record { depth = l.depth; boxed = b; sentence = s; rule = z; cites = l.cites } in x) g
    ∙ ap (λ (z : List Cite). let x : FlatLine = record { depth = l.depth; boxed = b; sentence = s; rule = rule; cites = z } in x) h

-- A line is that of a step, or it opens a subproof.
data Kind (l : FlatLine) : Type 0 where
  IsStep : (s : Sent) (rule : Rule) (cs : List Cite) → opens rule ≡ false → l ≡ step_line l.depth s rule cs → Kind l
  IsOpening : (o : Opening) → l ≡ opening_line l.depth o → Kind l

kind_of : (l : FlatLine) (rule : Rule) → l.rule ≡ rule → IsShaped l rule → Kind l
kind_of l r.Assume e h = IsOpening (Assumes l.boxed h.0) (with_parts l l.boxed (Some h.0) r.Assume [] refl h.1 e h.2)
kind_of l r.BoxOnly e h = IsOpening (Boxes h.0) (with_parts l (Some h.0) None r.BoxOnly [] h.1 h.2 e h.3)
kind_of l r.Premise e h = IsStep h.0 r.Premise l.cites refl (with_parts l None (Some h.0) r.Premise l.cites h.2 h.1 e refl)
kind_of l rule e h = IsStep h.0 rule l.cites refl (with_parts l None (Some h.0) rule l.cites h.2 h.1 e refl)

add_step : (l : FlatLine) (ls : List FlatLine) (k : ℕ) (s : Sent) (rule : Rule) (cs : List Cite) → opens rule ≡ false → l ≡ step_line l.depth s rule cs → 0 < level l → level l ≤ k → Tower l.depth ls → Tower k (l ∷ ls)
add_step l ls k s rule cs o e h i w =
    let v : level l ≡ l.depth = ap level e ∙ level_step l.depth s rule cs o in
    let d : l.depth ≡ suc (l.depth - 1) = omega (arith, v) in
    let t : (p : Items) × AreProper p × (rest : List FlatLine) × (ls ≡ flatten (suc (l.depth - 1)) p ++ rest) × Tower (l.depth - 1) rest = lower l.depth (l.depth - 1) ls d w in
    let f : l ∷ ls ≡ step_line (suc (l.depth - 1)) s rule cs ∷ (flatten (suc (l.depth - 1)) t.0 ++ t.2) = ap₂ ◌∷◌ (e ∙ ap (λ n. step_line n s rule cs) d) t.3 in
    raise k (suc (l.depth - 1)) (l ∷ ls) (omega (arith, v)) (Step s rule cs t.0, (o, t.1), t.2, f, t.4)

add_opening : (l : FlatLine) (ls : List FlatLine) (k : ℕ) (op : Opening) → l ≡ opening_line l.depth op → 0 < level l → level l ≤ k → Tower l.depth ls → Tower k (l ∷ ls)
add_opening l ls k op e h i w =
    let g : level l ≡ l.depth - 1 = ap (λ (x : FlatLine). cond (opens x.rule) (l.depth - 1) l.depth) e ∙ ap (λ b. cond b (l.depth - 1) l.depth) (opens_opening l.depth op) in
    let d : l.depth ≡ suc (suc (l.depth - 2)) = omega (arith, g) in
    let n : ℕ = l.depth - 2 in
    let t : (p : Items) × AreProper p × (rest : List FlatLine) × (ls ≡ flatten (suc (suc n)) p ++ rest) × Tower (suc n) rest = lower l.depth (suc n) ls d w in
    let u : (q : Items) × AreProper q × (more : List FlatLine) × (t.2 ≡ flatten (suc n) q ++ more) × Tower n more = t.4 in
    let f : l ∷ ls ≡ opening_line (suc (suc n)) op ∷ ((flatten (suc (suc n)) t.0 ++ flatten (suc n) u.0) ++ u.2) =
    ap₂ ◌∷◌ (e ∙ ap (λ c. opening_line c op) d) (t.3 ∙ ap (λ xs. flatten (suc (suc n)) t.0 ++ xs) u.3 ∙ sym (append_assoc (flatten (suc (suc n)) t.0) (flatten (suc n) u.0) u.2)) in
    let j : suc n + 1 ≡ suc (suc n) = omega arith in
    let m : l ∷ ls ≡ flatten (suc n) (Sub op t.0 u.0) ++ u.2 = f ∙ sym (ap (λ c. opening_line c op ∷ ((flatten c t.0 ++ flatten (suc n) u.0) ++ u.2)) j) in
    raise k (suc n) (l ∷ ls) (omega (arith, g)) (Sub op t.0 u.0, (t.1, u.1), u.2, m, u.4)

add_line : (l : FlatLine) (ls : List FlatLine) (k : ℕ) → Kind l → 0 < level l → level l ≤ k → Tower l.depth ls → Tower k (l ∷ ls)
add_line l ls k (IsStep s rule cs o e) h i w = add_step l ls k s rule cs o e h i w
add_line l ls k (IsOpening o e) h i w = add_opening l ls k o e h i w

tower : (ls : List FlatLine) (k : ℕ) → WellNested k ls → Tower k ls
tower [] k w = empty k
tower (l ∷ ls) k w = add_line l ls k (kind_of l l.rule refl w.0) w.1 w.2 (tower ls l.depth w.3)

-- the premises of lines that have their shapes stand outside
outside_at : (d : ℕ) (s : Sent) (rule : Rule) (cites : List Cite) → IsShaped (step_line d s rule cites) rule → IsOutside d rule cites
outside_at d s r.Premise cites h = (h.3, h.4)
outside_at d s _ cites h = tt

premises_outside : (d : ℕ) (p : Items) → AllByRecursion (λ (l : FlatLine). IsShaped l l.rule) (flatten d p) → HasPremisesOutside d p
premises_outside d Done h = tt
premises_outside d (Step s rule cites rest) h = (outside_at d s rule cites h.0, premises_outside d rest h.1)
premises_outside d (Sub o body rest) h = (
  premises_outside (d + 1) body (all_left (λ (l : FlatLine). IsShaped l l.rule) (flatten (d + 1) body) (flatten d rest) h.1),
  premises_outside d rest (all_right (λ (l : FlatLine). IsShaped l l.rule) (flatten (d + 1) body) (flatten d rest) h.1),
)

all_shaped : (ls : List FlatLine) (k : ℕ) → WellNested k ls → AllByRecursion (λ (l : FlatLine). IsShaped l l.rule) ls
all_shaped [] k w = tt
all_shaped (l ∷ ls) k w = (w.0, all_shaped ls l.depth w.3)

pub a_proof : LinesHaveAProof
a_proof lines w =
    let t : Tower 1 lines = tower lines 1 w in
    let e : lines ≡ flatten 1 t.0 = t.3 ∙ ap (λ xs. flatten 1 t.0 ++ xs) t.4 ∙ append-nil (flatten 1 t.0) in
    (t.0, t.1, premises_outside 1 t.0 (subst (AllByRecursion (λ (l : FlatLine). IsShaped l l.rule)) e (all_shaped lines 1 w)), e)

-- The lines of a nested proof

step_shaped : (d : ℕ) (s : Sent) (rule : Rule) (cites : List Cite) → opens rule ≡ false → IsOutside d rule cites → IsShaped (step_line d s rule cites) rule
step_shaped d s r.Assume cites o h = cc
step_shaped d s r.BoxOnly cites o h = cc
step_shaped d s r.Premise cites o h = (s, refl, refl, h.0, h.1)
step_shaped d s _ cites o h = (s, refl, refl)

opening_shaped : (d : ℕ) (o : Opening) → IsShaped (opening_line d o) (opening_line d o).rule
opening_shaped d (Assumes b p) = (p, refl, refl)
opening_shaped d (Boxes c) = (c, refl, refl, refl)

-- the lines of the items of a list at depth d, after a line of that depth or deeper, with lines that may follow any of these
nested : (p : Items) (d k : ℕ) (more : List FlatLine) → 0 < d → d ≤ k → AreProper p → HasPremisesOutside d p → ((j : ℕ) → d ≤ j → WellNested j more) → WellNested k (flatten d p ++ more)
nested Done d k more z h o q f = f k h
nested (Step s rule cites rest) d k more z h o q f =
    let l : level (step_line d s rule cites) ≡ d = level_step d s rule cites o.0 in
    (step_shaped d s rule cites o.0 q.0, subst (λ n. 0 < n) (sym l) z, subst (λ n. n ≤ k) (sym l) h, nested rest d d more z (omega arith) o.1 q.1 f)
nested (Sub op body rest) d k more z h o q f =
    let l : level (opening_line (d + 1) op) ≡ d = level_opening d op in
    let w : WellNested (d + 1) (flatten (d + 1) body ++ (flatten d rest ++ more)) =
    nested body (d + 1) (d + 1) (flatten d rest ++ more) (omega arith) (omega arith) o.0 q.0 (λ j i. nested rest d j more z (omega arith) o.1 q.1 f) in
    let v : WellNested (opening_line (d + 1) op).depth ((flatten (d + 1) body ++ flatten d rest) ++ more) =
    subst (λ n. WellNested n ((flatten (d + 1) body ++ flatten d rest) ++ more)) (sym (depth_opening (d + 1) op))
    (subst (WellNested (d + 1)) (sym (append_assoc (flatten (d + 1) body) (flatten d rest) more)) w) in
    (opening_shaped (d + 1) op, subst (λ n. 0 < n) (sym l) z, subst (λ n. n ≤ k) (sym l) h, v)

pub well_nested : ProofsAreWellNested
well_nested p o q = subst (WellNested 1) (append-nil (flatten 1 p)) (nested p 1 1 [] (omega arith) (omega arith) o q (λ j h. tt))
