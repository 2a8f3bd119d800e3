-- One term put for another: what it says of each form, that it is a replacement, and that it keeps terms ground.
use Rattle.std.proofs.Common.{◌≡◌, List, [], ◌∷◌, length, map, refl, ap, ap₂, sym, ◌∙◌, subst, Bool, true, false, ◌&&◌}
use Rattle.std.specs.Prelude.{if◌then◌else◌, nat_le}
use Rattle.std.specs.List.{list_all}
use Rattle.std.proofs.lemmas.Bool.{and_from, and_parts}
use Rattle.std.proofs.lemmas.List.{length-map}
use Rattle.fol_core.specs.Word.{is_ident}
use Rattle.fol_core.specs.declared.sent.Term.{Term, out-Term, roll-Term}
use Rattle.fol_core.specs.declared.sent.Term.TheVariants.{Var, Name, App}
use Rattle.fol_core.specs.declared.sent.Term.TheOpen.{Term-F}
use Rattle.fol_core.specs.declared.sent.Term.TheOpen as t
use Rattle.fol_core.specs.declared.sent.Term.TheFolds.{fold-Term, ind-Term, map-Term, fold-roll-Term}
use Rattle.fol_core.specs.Alike.{same_term, repl_term, inside_step, all_pairs}
use Rattle.fol_core.specs.Statements.{grounded}
use Rattle.fol_core.proofs.Terms.{grounded_app, out_var, out_name, out_app}
use Rattle.fol_core.proofs.TermEquality.{bytes_same, rolls_var, rolls_name, rolls_app, same_refl, repl_term_is}
use Rattle.tableau_laws.specs.Terms.{Turned, was, becomes, put_step, put_term}
use Rattle.tableau_laws.proofs.Choosing.{or_left, or_right}

abbrev turned : Term → Term → Term → Turned
turned l e = fold-Term Turned (put_step l e)

abbrev IsWas : Term → Term → Term → Type 0
IsWas l e a = (turned l e a).0 ≡ a

abbrev Was : Term → Term → Type 0
Was l e = (a : Term) × IsWas l e a

abbrev plain : (l e : Term) → Term-F (Was l e) → Term-F Term
plain l e = map-Term (Was l e) Term (λ w. w.0)

args_was : (l e : Term) (es : List (Was l e)) → map (λ (w : Turned). w.0) (map (turned l e) (map (λ (w : Was l e). w.0) es)) ≡ map (λ (w : Was l e). w.0) es
args_was l e [] = refl
args_was l e (w ∷ ws) = ap₂ ◌∷◌ w.1 (args_was l e ws)

step_was : (l e : Term) (y : Term-F (Was l e)) → was (map-Term Term Turned (turned l e) (plain l e y)) ≡ roll-Term (plain l e y)
step_was l e (t.Var x) = rolls_var x
step_was l e (t.Name k) = rolls_name k
step_was l e (t.App g es) = ap (App g) (args_was l e es) ∙ rolls_app g _

was_is : (l e a : Term) → IsWas l e a
was_is l e = ind-Term (IsWas l e) (λ k y is.
    subst (λ (w : Term-F Term). IsWas l e (roll-Term w)) is
    (ap (λ (w : Turned). w.0) (fold-roll-Term Turned (put_step l e) (plain l e y)) ∙ step_was l e y))

all_was : (l e : Term) (us : List Term) → map (λ (w : Turned). w.0) (map (turned l e) us) ≡ us
all_was l e [] = refl
all_was l e (u ∷ us) = ap₂ ◌∷◌ (was_is l e u) (all_was l e us)

layer_was : (l e : Term) (z : Term-F Term) → was (map-Term Term Turned (turned l e) z) ≡ roll-Term z
layer_was l e (t.Var x) = rolls_var x
layer_was l e (t.Name k) = rolls_name k
layer_was l e (t.App g us) = ap (App g) (all_was l e us) ∙ rolls_app g us

-- inside
abbrev pub put_layer : Term → Term → Term-F Term → Term
put_layer l e (t.Var x) = Var x
put_layer l e (t.Name n) = Name n
put_layer l e (t.App g us) = App g (map (put_term l e) us)

all_become : (l e : Term) (us : List Term) → map (λ (w : Turned). w.1) (map (turned l e) us) ≡ map (put_term l e) us
all_become l e [] = refl
all_become l e (u ∷ us) = ap (λ ws. put_term l e u ∷ ws) (all_become l e us)

layer_becomes : (l e : Term) (z : Term-F Term) → becomes (map-Term Term Turned (turned l e) z) ≡ put_layer l e z
layer_becomes l e (t.Var x) = refl
layer_becomes l e (t.Name k) = refl
layer_becomes l e (t.App g us) = ap (App g) (all_become l e us)

-- the one equation of it
put_is : (l e : Term) (z : Term-F Term) → put_term l e (roll-Term z) ≡ (if same_term (roll-Term z) l then e else put_layer l e z)
put_is l e z =
    ap (λ (w : Turned). w.1) (fold-roll-Term Turned (put_step l e) z)
    ∙ ap₂ (λ (r b : Term). if same_term r l then e else b) (layer_was l e z) (layer_becomes l e z)

abbrev IsRepl : Term → Term → Term → Type 0
IsRepl l e a = repl_term l e a (put_term l e a) ≡ true

abbrev Repl : Term → Term → Type 0
Repl l e = (a : Term) × IsRepl l e a

abbrev bare : (l e : Term) → Term-F (Repl l e) → Term-F Term
bare l e = map-Term (Repl l e) Term (λ w. w.0)

out_roll : (z : Term-F Term) → out-Term (roll-Term z) ≡ z
out_roll (t.Var x) = ap out-Term (sym (rolls_var x)) ∙ out_var x
out_roll (t.Name n) = ap out-Term (sym (rolls_name n)) ∙ out_name n
out_roll (t.App g us) = ap out-Term (sym (rolls_app g us)) ∙ out_app g us

args_repl : (l e : Term) (es : List (Repl l e)) → all_pairs (repl_term l e) (map (λ (w : Repl l e). w.0) es) (map (put_term l e) (map (λ (w : Repl l e). w.0) es)) ≡ true
args_repl l e [] = refl
args_repl l e (w ∷ ws) = and_from _ _ w.1 (args_repl l e ws)

layer_repl : (l e : Term) (y : Term-F (Repl l e)) → inside_step l e (bare l e y) (out-Term (put_layer l e (bare l e y))) ≡ true
layer_repl l e (t.Var x) = ap (λ w. inside_step l e (t.Var x) w) (out_var x) ∙ bytes_same x
layer_repl l e (t.Name n) = ap (λ w. inside_step l e (t.Name n) w) (out_name n) ∙ bytes_same n
layer_repl l e (t.App g es) =
    ap (λ w. inside_step l e (t.App g (map (λ (w : Repl l e). w.0) es)) w) (out_app g (map (put_term l e) (map (λ (w : Repl l e). w.0) es)))
    ∙ and_from _ _ (bytes_same g) (args_repl l e es)

repl_at : (l e a u : Term) (z : Term-F Term) (b : Bool) → a ≡ roll-Term z → same_term a l ≡ b → put_term l e a ≡ (if b then e else u) → inside_step l e z (out-Term u) ≡ true → IsRepl l e a
repl_at l e a u z true r s p i =
    ap (repl_term l e a) p ∙ repl_term_is l e a e ∙ or_left _ _ (and_from _ _ s (same_refl e))
repl_at l e a u z false r s p i =
    ap (repl_term l e a) p ∙ repl_term_is l e a u ∙ or_right _ _ (ap (λ w. inside_step l e (out-Term w) (out-Term u)) r ∙ ap (λ w. inside_step l e w (out-Term u)) (out_roll z) ∙ i)

-- what is put is a replacement
pub put_repl : (l e a : Term) → repl_term l e a (put_term l e a) ≡ true
put_repl l e = ind-Term (IsRepl l e) (λ k y is.
    subst (λ (w : Term-F Term). IsRepl l e (roll-Term w)) is
    (repl_at l e (roll-Term (bare l e y)) (put_layer l e (bare l e y)) (bare l e y) (same_term (roll-Term (bare l e y)) l) refl refl (put_is l e (bare l e y)) (layer_repl l e y)))

-- it is ground

abbrev StaysGround : Term → Term → Term → Type 0
StaysGround l e a = grounded [] a ≡ true → grounded [] (put_term l e a) ≡ true

abbrev Stays : Term → Term → Type 0
Stays l e = (a : Term) × StaysGround l e a

abbrev shown : (l e : Term) → Term-F (Stays l e) → Term-F Term
shown l e = map-Term (Stays l e) Term (λ w. w.0)

args_ground : (l e : Term) (es : List (Stays l e)) → list_all (grounded []) (map (λ (w : Stays l e). w.0) es) ≡ true → list_all (grounded []) (map (put_term l e) (map (λ (w : Stays l e). w.0) es)) ≡ true
args_ground l e [] h = refl
args_ground l e (w ∷ ws) h = let b = and_parts (grounded [] w.0) (list_all (grounded []) (map (λ (w : Stays l e). w.0) ws)) h in and_from _ _ (w.1 b.0) (args_ground l e ws b.1)

layer_ground : (l e : Term) (y : Term-F (Stays l e)) → grounded [] (roll-Term (shown l e y)) ≡ true → grounded [] (put_layer l e (shown l e y)) ≡ true
layer_ground l e (t.Var x) h = ap (grounded []) (rolls_var x) ∙ h
layer_ground l e (t.Name n) h = ap (grounded []) (rolls_name n) ∙ h
layer_ground l e (t.App g es) h =
    let ts : List Term = map (λ (w : Stays l e). w.0) es in
    let w = and_parts (is_ident g) (nat_le 1 (length ts) && list_all (grounded []) ts) (sym (grounded_app g ts []) ∙ ap (grounded []) (rolls_app g ts) ∙ h) in
    let v = and_parts (nat_le 1 (length ts)) (list_all (grounded []) ts) w.1 in
    grounded_app g (map (put_term l e) ts) [] ∙ and_from _ _ w.0 (and_from _ _ (ap (nat_le 1) (length-map ts (put_term l e)) ∙ v.0) (args_ground l e es v.1))

either_ground : (b : Bool) (e u : Term) → grounded [] e ≡ true → grounded [] u ≡ true → grounded [] (if b then e else u) ≡ true
either_ground true e u h k = h
either_ground false e u h k = k

pub put_ground : (l e : Term) → grounded [] e ≡ true → (a : Term) → grounded [] a ≡ true → grounded [] (put_term l e a) ≡ true
put_ground l e k = ind-Term (StaysGround l e) (λ n y is.
    subst (λ (w : Term-F Term). StaysGround l e (roll-Term w)) is (λ h.
    ap (grounded []) (put_is l e (shown l e y)) ∙ either_ground (same_term (roll-Term (shown l e y)) l) e (put_layer l e (shown l e y)) k (layer_ground l e y h)))
