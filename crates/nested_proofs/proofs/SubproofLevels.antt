-- The closed subproofs that may be cited by the levels of flat lines are those in the scope of the nested proof.
use Rattle.std.proofs.Common.{◌≡◌, ℕ, ◌+◌, ◌≤◌, ◌<◌, List, [], ◌∷◌, ◌++◌, length, map, refl, ap, ap₂, sym, ◌∙◌, Option, Some, None, Bool, true, false, arith, append_assoc, eq-eqb}
use Rattle.std.specs.Prelude.{nat_lt, cond, ◌&&◌}
use Rattle.std.specs.List.{AllByRecursion}
use Rattle.std.proofs.lemmas.List.{map-append}
use Rattle.std.proofs.lemmas.Bool.{le-leb, lt-leb, lt-ltb, le-ltb, ne_eqb}
use Rattle.std.proofs.Math.Bool.{and-false}
use Rattle.fol_core.specs.declared.sent.Sent.{Sent}
use Rattle.deriv_laws.specs.declared.line.FlatLine.{FlatLine}
use Rattle.nested_proofs.specs.Items.{Opening, Assumes, Boxes, Items, Done, Step, Sub, step_line, opening_line, flatten, size, opens, AreProper}
use Rattle.nested_proofs.specs.Scope.{Subproof}
use Rattle.nested_proofs.specs.Placed.{Around, Placed, placed, after_step, inside, after_sub, last_of, subproof_from}
use Rattle.nested_proofs.specs.Levels.{level, Mark, in_reach, Reach, reaches, after, body_of, last_at, subproof_of, subproofs_before}
use Rattle.nested_proofs.proofs.Levels.{level_step, level_opening, depth_opening, opens_opening, Deep, deep, keeps, kept_up, leaves_nothing, reaches_append, flat_size}

-- the first line, if there is one, stands at a level below c
abbrev pub Stops : ℕ → List FlatLine → Type 0
Stops c [] = Unit {0}
Stops c (l ∷ ls) = level l < c

body_none : (c : ℕ) (ls : List FlatLine) → Stops c ls → body_of c ls ≡ []
body_none c [] h = refl
body_none c (l ∷ ls) h = rw (lt-leb c (level l) h)

body_all : (c : ℕ) (ls more : List FlatLine) → AllByRecursion (Deep c) ls → Stops c more → body_of c (ls ++ more) ≡ ls
body_all c [] more h s = body_none c more s
body_all c (l ∷ ls) more h s = rw (le-leb c (level l) h.0.0) (ap (λ xs. l ∷ xs) (body_all c ls more h.1 s))

-- what goes on after the items of a list stops a subproof in it
pub stops_on : (c d : ℕ) (items : Items) (more : List FlatLine) → d < c → AreProper items → Stops c more → Stops c (flatten d items ++ more)
stops_on c d Done more h o s = s
stops_on c d (Step x rule cites rest) more h o s = rw (level_step d x rule cites o.0) h
stops_on c d (Sub op body rest) more h o s = rw (level_opening d op) h

-- deeper lines don't count
last_deeper : (d : ℕ) (before : Option Sent) (ls more : List FlatLine) → AllByRecursion (Deep (d + 1)) ls → last_at d before (ls ++ more) ≡ last_at d before more
last_deeper d before [] more h = refl
last_deeper d before (l ∷ ls) more h = ap (λ b. last_at d (cond b l.sentence before) (ls ++ more)) (ne_eqb l.depth d (λ e. absurd (omega (arith, h.0.1, e)))) ∙ last_deeper d before ls more h.1

pub last_same : (d : ℕ) (before : Option Sent) (items : Items) → AreProper items → last_at d before (flatten d items) ≡ last_of before items
last_same d before Done o = refl
last_same d before (Step s rule cites rest) o = ap (λ b. last_at d (cond b (Some s) before) (flatten d rest)) (eq-eqb d d refl) ∙ last_same d (Some s) rest o.1
last_same d before (Sub op body rest) o =
    ap (λ b. last_at d (cond b (opening_line (d + 1) op).sentence before) (flatten (d + 1) body ++ flatten d rest)) (ne_eqb (opening_line (d + 1) op).depth d (λ e. absurd (omega (arith, e, depth_opening (d + 1) op))))
    ∙ last_deeper d before (flatten (d + 1) body) (flatten d rest) (deep (d + 1) (d + 1) body (omega arith) o.0) ∙ last_same d before rest o.1

-- the subproof that an opening line's mark opens
closed_same : (d k : ℕ) (op : Opening) (body : Items) (later : List FlatLine) → AreProper body → body_of (d + 1) later ≡ flatten (d + 1) body →
    subproof_of (record { number = k; line = opening_line (d + 1) op; later = later }) ≡ subproof_from k op body
closed_same d k (Assumes b p) body later o e =
    ap (λ (ls : List FlatLine). let c : Subproof = record { first = k; last = k + length ls; boxed = b; hypothesis = Some p; conclusion = last_at (d + 1) (Some p) ls } in c) e
    ∙ ap₂ (λ (n : ℕ) (q : Option Sent). let c : Subproof = record { first = k; last = k + n; boxed = b; hypothesis = Some p; conclusion = q } in c) (flat_size (d + 1) body) (last_same (d + 1) (Some p) body o)
closed_same d k (Boxes w) body later o e =
    ap (λ (ls : List FlatLine). let c : Subproof = record { first = k; last = k + length ls; boxed = Some w; hypothesis = None; conclusion = last_at (d + 1) None ls } in c) e
    ∙ ap₂ (λ (n : ℕ) (q : Option Sent). let c : Subproof = record { first = k; last = k + n; boxed = Some w; hypothesis = None; conclusion = q } in c) (flat_size (d + 1) body) (last_same (d + 1) None body o)

no_opening : (j : ℕ) (m : Mark) (ms : List Mark) → opens m.line.rule ≡ false → subproofs_before j (m ∷ ms) ≡ subproofs_before j ms
no_opening j m ms e = rw e

abbrev added : Bool → Bool → Subproof → List Subproof → List Subproof
added o b c cs = cond (o && b) (c ∷ cs) cs

not_yet : (j : ℕ) (m : Mark) (ms : List Mark) (c : Subproof) → subproof_of m ≡ c → j ≤ c.last → subproofs_before j (m ∷ ms) ≡ subproofs_before j ms
not_yet j m ms c e h =
    let rest : List Subproof = subproofs_before j ms in
    ap (λ (x : Subproof). added (opens m.line.rule) (nat_lt x.last j) x rest) e
    ∙ ap (λ b. added (opens m.line.rule) b c rest) (le-ltb c.last j h)
    ∙ ap (λ b. cond b (c ∷ rest) rest) (and-false (opens m.line.rule))

by_now : (j : ℕ) (m : Mark) (ms : List Mark) (c : Subproof) → subproof_of m ≡ c → opens m.line.rule ≡ true → c.last < j → subproofs_before j (m ∷ ms) ≡ c ∷ subproofs_before j ms
by_now j m ms c e o h =
    let rest : List Subproof = subproofs_before j ms in
    ap (λ (x : Subproof). added (opens m.line.rule) (nat_lt x.last j) x rest) e
    ∙ ap (λ b. added b (nat_lt c.last j) c rest) o
    ∙ ap (λ b. added true b c rest) (lt-ltb c.last j h)

over : (d : ℕ) (ls : List FlatLine) → AllByRecursion (Deep (d + 1)) ls → AllByRecursion (λ l. (d < level l) × (d ≤ level l)) ls
over d [] h = tt
over d (l ∷ ls) h = ((omega (arith, h.0.0), omega (arith, h.0.0)), over d ls h.1)

pub stops_less : (c : ℕ) (ls : List FlatLine) → Stops c ls → Stops (c + 1) ls
stops_less c [] h = tt
stops_less c (l ∷ ls) h = omega arith

subs_inside : (k : ℕ) (op : Opening) (a : Around) → (inside k op a).scope.subproofs ≡ a.scope.subproofs
subs_inside k (Assumes b p) a = refl
subs_inside k (Boxes c) a = refl

pub subproofs_same : (items : Items) (d k : ℕ) (a : Around) (ms : List Mark) (more : List FlatLine) → AreProper items → Stops (d + 1) more →
    ((j : ℕ) → k ≤ j → j < k + size items → subproofs_before j (in_reach level d ms) ≡ a.scope.subproofs) →
    map (λ (r : Reach). subproofs_before r.number r.marks) (reaches level k ms (flatten d items) more) ≡ map (λ (x : Placed). x.around.scope.subproofs) (placed a k d items)
subproofs_same Done d k a ms more o st e = refl
subproofs_same (Step s rule cites rest) d k a ms more o st e =
    let l : level (step_line d s rule cites) ≡ d = level_step d s rule cites o.0 in
    let kept : List Mark = in_reach level (level (step_line d s rule cites)) ms in
    let same : kept ≡ in_reach level d ms = ap (λ v. in_reach level v ms) l in
    let m : Mark = record { number = k; line = step_line d s rule cites; later = flatten d rest ++ more } in
    let f : (j : ℕ) → k + 1 ≤ j → j < k + 1 + size rest → subproofs_before j (in_reach level d (m ∷ kept)) ≡ a.scope.subproofs =
    λ j h i. ap (subproofs_before j) (keeps level d m kept (omega (arith, l)) ∙ ap (λ xs. m ∷ in_reach level d xs) same ∙ ap (λ xs. m ∷ xs) (kept_up level d d ms (omega arith)))
    ∙ no_opening j m (in_reach level d ms) o.0 ∙ e j (omega arith) (omega arith) in
    ap₂ ◌∷◌ (ap (subproofs_before k) same ∙ e k (omega arith) (omega arith))
    (subproofs_same rest d (k + 1) (after_step k s a) (m ∷ kept) more o.1 st f)
subproofs_same (Sub op body rest) d k a ms more o st e =
    let l : level (opening_line (d + 1) op) ≡ d = level_opening d op in
    let inner : List FlatLine = flatten (d + 1) body in
    let on : List FlatLine = flatten d rest ++ more in
    let m : Mark = record { number = k; line = opening_line (d + 1) op; later = (inner ++ flatten d rest) ++ more } in
    let kept : List Mark = in_reach level (level (opening_line (d + 1) op)) ms in
    let same : kept ≡ in_reach level d ms = ap (λ v. in_reach level v ms) l in
    let stops : Stops (d + 1) on = stops_on (d + 1) d rest more (omega arith) o.1 st in
    let c : subproof_of m ≡ subproof_from k op body =
    closed_same d k op body m.later o.0 (ap (body_of (d + 1)) (append_assoc inner (flatten d rest) more) ∙ body_all (d + 1) inner on (deep (d + 1) (d + 1) body (omega arith) o.0) stops) in
    let f : (j : ℕ) → k + 1 ≤ j → j < k + 1 + size body → subproofs_before j (in_reach level (d + 1) (m ∷ kept)) ≡ a.scope.subproofs =
    λ j h i. ap (subproofs_before j) (keeps level (d + 1) m kept (omega (arith, l)) ∙ ap (λ xs. m ∷ in_reach level (d + 1) xs) same ∙ ap (λ xs. m ∷ xs) (kept_up level d (d + 1) ms (omega arith)))
    ∙ not_yet j m (in_reach level d ms) (subproof_from k op body) c (omega arith) ∙ e j (omega arith) (omega arith) in
    let left : List Mark = after level (k + 1) (m ∷ kept) inner on in
    let g : (j : ℕ) → k + 1 + size body ≤ j → j < k + 1 + size body + size rest → subproofs_before j (in_reach level d left) ≡ subproof_from k op body ∷ a.scope.subproofs =
    λ j h i. ap (subproofs_before j) (leaves_nothing level d (k + 1) (m ∷ kept) inner on (over d inner (deep (d + 1) (d + 1) body (omega arith) o.0))
    ∙ keeps level d m kept (omega (arith, l)) ∙ ap (λ xs. m ∷ in_reach level d xs) same ∙ ap (λ xs. m ∷ xs) (kept_up level d d ms (omega arith)))
    ∙ by_now j m (in_reach level d ms) (subproof_from k op body) c (opens_opening (d + 1) op) (omega arith) ∙ ap (λ xs. subproof_from k op body ∷ xs) (e j (omega arith) (omega arith)) in
    let view : Reach → List Subproof = λ r. subproofs_before r.number r.marks in
    let look : Placed → List Subproof = λ x. x.around.scope.subproofs in
    ap₂ ◌∷◌ (ap (subproofs_before k) same ∙ e k (omega arith) (omega arith))
    (ap (map view) (reaches_append level (k + 1) (m ∷ kept) inner (flatten d rest) more)
    ∙ map-append view (reaches level (k + 1) (m ∷ kept) inner on) (reaches level (k + 1 + length inner) left (flatten d rest) more)
    ∙ ap₂ ◌++◌ (subproofs_same body (d + 1) (k + 1) (inside k op a) (m ∷ kept) on o.0 (stops_on (d + 1 + 1) d rest more (omega arith) o.1 (stops_less (d + 1) more st)) (λ j h i. f j h i ∙ sym (subs_inside k op a)))
    (ap (λ n. map view (reaches level (k + 1 + n) left (flatten d rest) more)) (flat_size (d + 1) body)
    ∙ subproofs_same rest d (k + 1 + size body) (after_sub k op body a) left more o.1 st g)
    ∙ sym (map-append look (placed (inside k op a) (k + 1) (d + 1) body) (placed (after_sub k op body a) (k + 1 + size body) d rest)))
