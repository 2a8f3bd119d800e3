-- The boxed constants in reach by the levels of flat lines are those of the subproofs that a line stands in.
use Rattle.std.proofs.Common.{◌≡◌, ℕ, ◌+◌, List, [], ◌∷◌, ◌++◌, length, map, refl, ap, ap₂, sym, ◌∙◌, false, arith}
use Rattle.std.specs.Prelude.{cond}
use Rattle.std.proofs.lemmas.List.{map-append}
use Rattle.fol_core.specs.Word.{Word}
use Rattle.deriv_laws.specs.declared.line.FlatLine.{FlatLine}
use Rattle.nested_proofs.specs.Items.{Opening, Assumes, Boxes, Items, Done, Step, Sub, step_line, opening_line, flatten, size, opens, AreProper}
use Rattle.nested_proofs.specs.Placed.{outside, Around, Placed, placed, after_step, inside, after_sub}
use Rattle.nested_proofs.specs.Scope.{prepend}
use Rattle.nested_proofs.specs.Levels.{level, depth_of, Mark, in_reach, Reach, reaches, after, boxes_of}
use Rattle.nested_proofs.specs.Visible.{BoxesByLevels}
use Rattle.nested_proofs.proofs.Levels.{level_step, level_opening, depth_opening, keeps, drops, kept_up, leaves_nothing, deep, above, reaches_append, flat_size}

opened_boxes : (k d : ℕ) (o : Opening) (a : Around) (later : List FlatLine) (ms : List Mark) → boxes_of ms ≡ a.boxes →
    boxes_of (record { number = k; line = opening_line d o; later = later } ∷ ms) ≡ (inside k o a).boxes
opened_boxes k d (Assumes b p) a later ms e = ap (prepend b) e
opened_boxes k d (Boxes c) a later ms e = ap (λ xs. c ∷ xs) e

no_box : (m : Mark) (ms : List Mark) → opens m.line.rule ≡ false → boxes_of (m ∷ ms) ≡ boxes_of ms
no_box m ms e = ap (λ b. cond b (prepend m.line.boxed (boxes_of ms)) (boxes_of ms)) e

pub boxes_same : (items : Items) (d k : ℕ) (a : Around) (ms : List Mark) (more : List FlatLine) → AreProper items → boxes_of (in_reach depth_of d ms) ≡ a.boxes →
    map (λ (r : Reach). boxes_of r.marks) (reaches depth_of k ms (flatten d items) more) ≡ map (λ (x : Placed). x.around.boxes) (placed a k d items)
boxes_same Done d k a ms more o e = refl
boxes_same (Step s rule cites rest) d k a ms more o e =
    let l : level (step_line d s rule cites) ≡ d = level_step d s rule cites o.0 in
    let m : Mark = record { number = k; line = step_line d s rule cites; later = flatten d rest ++ more } in
    let f : boxes_of (in_reach depth_of d (m ∷ in_reach depth_of (level (step_line d s rule cites)) ms)) ≡ (after_step k s a).boxes =
    ap boxes_of (keeps depth_of d m (in_reach depth_of (level (step_line d s rule cites)) ms) (omega arith) ∙ ap (λ v. m ∷ in_reach depth_of d (in_reach depth_of v ms)) l ∙ ap (λ xs. m ∷ xs) (kept_up depth_of d d ms (omega arith)))
    ∙ no_box m (in_reach depth_of d ms) o.0 ∙ e in
    ap₂ ◌∷◌ (ap (λ v. boxes_of (in_reach depth_of v ms)) l ∙ e)
    (boxes_same rest d (k + 1) (after_step k s a) (m ∷ in_reach depth_of (level (step_line d s rule cites)) ms) more o.1 f)
boxes_same (Sub op body rest) d k a ms more o e =
    let l : level (opening_line (d + 1) op) ≡ d = level_opening d op in
    let inner : List FlatLine = flatten (d + 1) body in
    let m : Mark = record { number = k; line = opening_line (d + 1) op; later = (inner ++ flatten d rest) ++ more } in
    let kept : List Mark = in_reach depth_of (level (opening_line (d + 1) op)) ms in
    let same : kept ≡ in_reach depth_of d ms = ap (λ v. in_reach depth_of v ms) l in
    let deeper : depth_of (opening_line (d + 1) op) ≡ d + 1 = depth_opening (d + 1) op in
    let f : boxes_of (in_reach depth_of (d + 1) (m ∷ kept)) ≡ (inside k op a).boxes =
    ap boxes_of (keeps depth_of (d + 1) m kept (omega (arith, deeper)) ∙ ap (λ xs. m ∷ in_reach depth_of (d + 1) xs) same ∙ ap (λ xs. m ∷ xs) (kept_up depth_of d (d + 1) ms (omega arith)))
    ∙ opened_boxes k (d + 1) op a m.later (in_reach depth_of d ms) e in
    let g : boxes_of (in_reach depth_of d (after depth_of (k + 1) (m ∷ kept) inner (flatten d rest ++ more))) ≡ a.boxes =
    ap boxes_of (leaves_nothing depth_of d (k + 1) (m ∷ kept) inner (flatten d rest ++ more) (above d inner (deep (d + 1) (d + 1) body (omega arith) o.0))
    ∙ drops depth_of d m kept (omega (arith, deeper)) ∙ ap (in_reach depth_of d) same ∙ kept_up depth_of d d ms (omega arith)) ∙ e in
    let view : Reach → List Word = λ r. boxes_of r.marks in
    let look : Placed → List Word = λ x. x.around.boxes in
    ap₂ ◌∷◌ (ap boxes_of same ∙ e)
    (ap (map view) (reaches_append depth_of (k + 1) (m ∷ kept) inner (flatten d rest) more)
    ∙ map-append view (reaches depth_of (k + 1) (m ∷ kept) inner (flatten d rest ++ more)) (reaches depth_of (k + 1 + length inner) (after depth_of (k + 1) (m ∷ kept) inner (flatten d rest ++ more)) (flatten d rest) more)
    ∙ ap₂ ◌++◌ (boxes_same body (d + 1) (k + 1) (inside k op a) (m ∷ kept) (flatten d rest ++ more) o.0 f)
    (ap (λ n. map view (reaches depth_of (k + 1 + n) (after depth_of (k + 1) (m ∷ kept) inner (flatten d rest ++ more)) (flatten d rest) more)) (flat_size (d + 1) body)
    ∙ boxes_same rest d (k + 1 + size body) (after_sub k op body a) (after depth_of (k + 1) (m ∷ kept) inner (flatten d rest ++ more)) more o.1 g)
    ∙ sym (map-append look (placed (inside k op a) (k + 1) (d + 1) body) (placed (after_sub k op body a) (k + 1 + size body) d rest)))

pub boxes_by_levels : BoxesByLevels
boxes_by_levels p o = boxes_same p 1 1 outside [] [] o refl
