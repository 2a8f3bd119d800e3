-- The sentences that may be cited by the levels of flat lines are those in the scope of the nested proof.
use Rattle.std.proofs.Common.{◌≡◌, ℕ, suc, ◌+◌, ◌≤◌, ◌<◌, List, [], ◌∷◌, ◌++◌, length, map, refl, ap, ap₂, sym, ◌∙◌, Bool, true, false, arith, append_assoc, length-append}
use Rattle.std.specs.Prelude.{nat_le, cond}
use Rattle.std.specs.List.{AllByRecursion}
use Rattle.std.proofs.lemmas.List.{map-append}
use Rattle.std.proofs.lemmas.Bool.{le-leb, lt-leb, leb-true, leb-false}
use Rattle.fol_core.specs.declared.sent.Sent.{Sent}
use Rattle.deriv_laws.specs.declared.rule.Rule.{Rule}
use Rattle.deriv_laws.specs.declared.line.Cite.{Cite}
use Rattle.deriv_laws.specs.declared.line.FlatLine.{FlatLine}
use Rattle.deriv_laws.proofs.Lists.{all_both}
use Rattle.nested_proofs.specs.Items.{Opening, Assumes, Boxes, Items, Done, Step, Sub, assumption_of, step_line, opening_line, flatten, size, opens, AreProper}
use Rattle.nested_proofs.specs.Scope.{Numbered}
use Rattle.nested_proofs.specs.Placed.{Around, Placed, placed, after_step, inside, after_sub}
use Rattle.nested_proofs.specs.Levels.{level, depth_of, Mark, in_reach, Reach, reaches, after, sentences_of}

-- tests of numbers
le_true : (a b : ℕ) → a ≤ b → nat_le a b ≡ true
le_true a b h = le-leb a b h

le_false : (a b : ℕ) → b < a → nat_le a b ≡ false
le_false a b h = lt-leb a b h

-- levels
pub level_step : (d : ℕ) (s : Sent) (rule : Rule) (cites : List Cite) → opens rule ≡ false → level (step_line d s rule cites) ≡ d
level_step d s rule cites o = rw o

pub level_opening : (d : ℕ) (o : Opening) → level (opening_line (d + 1) o) ≡ d
level_opening d (Assumes b p) = omega arith
level_opening d (Boxes c) = omega arith

pub depth_opening : (d : ℕ) (o : Opening) → (opening_line d o).depth ≡ d
depth_opening d (Assumes b p) = refl
depth_opening d (Boxes c) = refl

pub sentence_opening : (d : ℕ) (o : Opening) → (opening_line d o).sentence ≡ assumption_of o
sentence_opening d (Assumes b p) = refl
sentence_opening d (Boxes c) = refl

pub opens_opening : (d : ℕ) (o : Opening) → opens (opening_line d o).rule ≡ true
opens_opening d (Assumes b p) = refl
opens_opening d (Boxes c) = refl

abbrev pub Deep : ℕ → FlatLine → Type 0
Deep d l = (d ≤ level l) × (d ≤ l.depth)

-- each line stands at the depth of its list, or deeper
pub deep : (c d : ℕ) (items : Items) → c ≤ d → AreProper items → AllByRecursion (Deep c) (flatten d items)
deep c d Done h o = tt
deep c d (Step s rule cites rest) h o = ((rw (level_step d s rule cites o.0) h, h), deep c d rest h o.1)
deep c d (Sub op body rest) h o =
    ((rw (level_opening d op) h, rw (depth_opening (d + 1) op) (omega arith)), all_both (Deep c) (flatten (d + 1) body) (flatten d rest) (deep c (d + 1) body (omega arith) o.0) (deep c d rest h o.1))

pub keeps : (rank : FlatLine → ℕ) (v : ℕ) (m : Mark) (ms : List Mark) → rank m.line ≤ v → in_reach rank v (m ∷ ms) ≡ m ∷ in_reach rank v ms
keeps rank v m ms h = rw (le_true (rank m.line) v h)

pub drops : (rank : FlatLine → ℕ) (v : ℕ) (m : Mark) (ms : List Mark) → v < rank m.line → in_reach rank v (m ∷ ms) ≡ in_reach rank v ms
drops rank v m ms h = rw (le_false (rank m.line) v h)

-- keeping those up to v and then those up to u
keep_both : (rank : FlatLine → ℕ) (u v : ℕ) (m : Mark) (ms : List Mark) (b : Bool) → nat_le (rank m.line) v ≡ b → u ≤ v → in_reach rank u (in_reach rank v ms) ≡ in_reach rank u ms →
    in_reach rank u (cond b (m ∷ in_reach rank v ms) (in_reach rank v ms)) ≡ in_reach rank u (m ∷ ms)
keep_both rank u v m ms true e h ih = ap (λ xs. cond (nat_le (rank m.line) u) (m ∷ xs) xs) ih
keep_both rank u v m ms false e h ih = ih ∙ sym (drops rank u m ms (omega (arith, leb-false (rank m.line) v e)))

pub kept_twice : (rank : FlatLine → ℕ) (u v : ℕ) (ms : List Mark) → u ≤ v → in_reach rank u (in_reach rank v ms) ≡ in_reach rank u ms
kept_twice rank u v [] h = refl
kept_twice rank u v (m ∷ ms) h = keep_both rank u v m ms (nat_le (rank m.line) v) refl h (kept_twice rank u v ms h)

keep_more : (rank : FlatLine → ℕ) (u v : ℕ) (m : Mark) (ms : List Mark) (b : Bool) → nat_le (rank m.line) u ≡ b → u ≤ v → in_reach rank v (in_reach rank u ms) ≡ in_reach rank u ms →
    in_reach rank v (cond b (m ∷ in_reach rank u ms) (in_reach rank u ms)) ≡ cond b (m ∷ in_reach rank u ms) (in_reach rank u ms)
keep_more rank u v m ms true e h ih = keeps rank v m (in_reach rank u ms) (omega (arith, leb-true (rank m.line) u e)) ∙ ap (λ xs. m ∷ xs) ih
keep_more rank u v m ms false e h ih = ih

pub kept_up : (rank : FlatLine → ℕ) (u v : ℕ) (ms : List Mark) → u ≤ v → in_reach rank v (in_reach rank u ms) ≡ in_reach rank u ms
kept_up rank u v [] h = refl
kept_up rank u v (m ∷ ms) h = keep_more rank u v m ms (nat_le (rank m.line) u) refl h (kept_up rank u v ms h)

-- Lines of a higher rank and of no lower level leave nothing.
pub leaves_nothing : (rank : FlatLine → ℕ) (e k : ℕ) (ms : List Mark) (ls more : List FlatLine) → AllByRecursion (λ l. (e < rank l) × (e ≤ level l)) ls →
    in_reach rank e (after rank k ms ls more) ≡ in_reach rank e ms
leaves_nothing rank e k ms [] more h = refl
leaves_nothing rank e k ms (l ∷ ls) more h =
    leaves_nothing rank e (k + 1) (record { number = k; line = l; later = ls ++ more } ∷ in_reach rank (level l) ms) ls more h.1
    ∙ drops rank e (record { number = k; line = l; later = ls ++ more }) (in_reach rank (level l) ms) h.0.0
    ∙ kept_twice rank e (level l) ms h.0.1

pub reaches_append : (rank : FlatLine → ℕ) (k : ℕ) (ms : List Mark) (xs ys more : List FlatLine) →
    reaches rank k ms (xs ++ ys) more ≡ reaches rank k ms xs (ys ++ more) ++ reaches rank (k + length xs) (after rank k ms xs (ys ++ more)) ys more
reaches_append rank k ms [] ys more = ap (λ n. reaches rank n ms ys more) (omega arith)
reaches_append rank k ms (x ∷ xs) ys more =
    ap (λ rs. record { number = k; marks = in_reach rank (level x) ms } ∷ rs)
    (ap (λ zs. reaches rank (k + 1) (record { number = k; line = x; later = zs } ∷ in_reach rank (level x) ms) (xs ++ ys) more) (append_assoc xs ys more)
    ∙ reaches_append rank (k + 1) (record { number = k; line = x; later = xs ++ (ys ++ more) } ∷ in_reach rank (level x) ms) xs ys more
    ∙ ap (λ n. reaches rank (k + 1) (record { number = k; line = x; later = xs ++ (ys ++ more) } ∷ in_reach rank (level x) ms) xs (ys ++ more) ++ reaches rank n (after rank (k + 1) (record { number = k; line = x; later = xs ++ (ys ++ more) } ∷ in_reach rank (level x) ms) xs (ys ++ more)) ys more)
    (let e : k + 1 + length xs ≡ k + suc (length xs) = omega arith in e))

pub flat_size : (d : ℕ) (items : Items) → length (flatten d items) ≡ size items
flat_size d Done = refl
flat_size d (Step s rule cites rest) = omega (arith, flat_size d rest)
flat_size d (Sub op body rest) = omega (arith, length-append (flatten (d + 1) body) (flatten d rest), flat_size (d + 1) body, flat_size d rest)

-- what the sentences in reach are

opened_sentences : (k d : ℕ) (o : Opening) (a : Around) (later : List FlatLine) (ms : List Mark) → sentences_of ms ≡ a.scope.sentences →
    sentences_of (record { number = k; line = opening_line d o; later = later } ∷ ms) ≡ (inside k o a).scope.sentences
opened_sentences k d (Assumes b p) a later ms e = ap (λ xs. record { number = k; sentence = p } ∷ xs) e
opened_sentences k d (Boxes c) a later ms e = e

pub above : (d : ℕ) (ls : List FlatLine) → AllByRecursion (Deep (d + 1)) ls → AllByRecursion (λ l. (d < depth_of l) × (d ≤ level l)) ls
above d [] h = tt
above d (l ∷ ls) h = ((omega (arith, h.0.1), omega (arith, h.0.0)), above d ls h.1)

pub sentences_same : (items : Items) (d k : ℕ) (a : Around) (ms : List Mark) (more : List FlatLine) → AreProper items → sentences_of (in_reach depth_of d ms) ≡ a.scope.sentences →
    map (λ (r : Reach). sentences_of r.marks) (reaches depth_of k ms (flatten d items) more) ≡ map (λ (x : Placed). x.around.scope.sentences) (placed a k d items)
sentences_same Done d k a ms more o e = refl
sentences_same (Step s rule cites rest) d k a ms more o e =
    let l : level (step_line d s rule cites) ≡ d = level_step d s rule cites o.0 in
    let m : Mark = record { number = k; line = step_line d s rule cites; later = flatten d rest ++ more } in
    let f : sentences_of (in_reach depth_of d (m ∷ in_reach depth_of (level (step_line d s rule cites)) ms)) ≡ (after_step k s a).scope.sentences =
    ap sentences_of (keeps depth_of d m (in_reach depth_of (level (step_line d s rule cites)) ms) (omega arith) ∙ ap (λ v. m ∷ in_reach depth_of d (in_reach depth_of v ms)) l ∙ ap (λ xs. m ∷ xs) (kept_up depth_of d d ms (omega arith)))
    ∙ ap (λ xs. record { number = k; sentence = s } ∷ xs) e in
    ap₂ ◌∷◌ (ap (λ v. sentences_of (in_reach depth_of v ms)) l ∙ e)
    (sentences_same rest d (k + 1) (after_step k s a) (m ∷ in_reach depth_of (level (step_line d s rule cites)) ms) more o.1 f)
sentences_same (Sub op body rest) d k a ms more o e =
    let l : level (opening_line (d + 1) op) ≡ d = level_opening d op in
    let inner : List FlatLine = flatten (d + 1) body in
    let m : Mark = record { number = k; line = opening_line (d + 1) op; later = (inner ++ flatten d rest) ++ more } in
    let kept : List Mark = in_reach depth_of (level (opening_line (d + 1) op)) ms in
    let same : kept ≡ in_reach depth_of d ms = ap (λ v. in_reach depth_of v ms) l in
    let deeper : depth_of (opening_line (d + 1) op) ≡ d + 1 = depth_opening (d + 1) op in
    let f : sentences_of (in_reach depth_of (d + 1) (m ∷ kept)) ≡ (inside k op a).scope.sentences =
    ap sentences_of (keeps depth_of (d + 1) m kept (omega (arith, deeper)) ∙ ap (λ xs. m ∷ in_reach depth_of (d + 1) xs) same ∙ ap (λ xs. m ∷ xs) (kept_up depth_of d (d + 1) ms (omega arith)))
    ∙ opened_sentences k (d + 1) op a m.later (in_reach depth_of d ms) e in
    let g : sentences_of (in_reach depth_of d (after depth_of (k + 1) (m ∷ kept) inner (flatten d rest ++ more))) ≡ a.scope.sentences =
    ap sentences_of (leaves_nothing depth_of d (k + 1) (m ∷ kept) inner (flatten d rest ++ more) (above d inner (deep (d + 1) (d + 1) body (omega arith) o.0))
    ∙ drops depth_of d m kept (omega (arith, deeper)) ∙ ap (in_reach depth_of d) same ∙ kept_up depth_of d d ms (omega arith)) ∙ e in
    let view : Reach → List Numbered = λ r. sentences_of r.marks in
    let look : Placed → List Numbered = λ x. x.around.scope.sentences in
    ap₂ ◌∷◌ (ap sentences_of same ∙ e)
    (ap (map view) (reaches_append depth_of (k + 1) (m ∷ kept) inner (flatten d rest) more)
    ∙ map-append view (reaches depth_of (k + 1) (m ∷ kept) inner (flatten d rest ++ more)) (reaches depth_of (k + 1 + length inner) (after depth_of (k + 1) (m ∷ kept) inner (flatten d rest ++ more)) (flatten d rest) more)
    ∙ ap₂ ◌++◌ (sentences_same body (d + 1) (k + 1) (inside k op a) (m ∷ kept) (flatten d rest ++ more) o.0 f)
    (ap (λ n. map view (reaches depth_of (k + 1 + n) (after depth_of (k + 1) (m ∷ kept) inner (flatten d rest ++ more)) (flatten d rest) more)) (flat_size (d + 1) body)
    ∙ sentences_same rest d (k + 1 + size body) (after_sub k op body a) (after depth_of (k + 1) (m ∷ kept) inner (flatten d rest ++ more)) more o.1 g)
    ∙ sym (map-append look (placed (inside k op a) (k + 1) (d + 1) body) (placed (after_sub k op body a) (k + 1 + size body) d rest)))
