-- Places, quantifiers and a world's own names give no block for a function, so it stands for block 1.
use Rattle.std.proofs.Common.{◌≡◌, ℕ, List, [], ◌∷◌, length, map, refl, ap, sym, subst, ◌∙◌}
use Rattle.std.specs.Prelude.{◌/◌}
use Rattle.fol_core.specs.Word.{Word}
use Rattle.fol_core.specs.declared.sent.Term.{Term}
use Rattle.fol_core.specs.declared.sent.Term.TheVariants.{App}
use Rattle.world_truth.specs.declared.answer.Place.{Place}
use Rattle.worlds.specs.declared.block.Block.{Block}
use Rattle.world_truth.specs.declared.bound.Bound.{Bound, ind-Bound, roll-Bound, map-Bound, fold-roll-Bound}
use Rattle.world_truth.specs.declared.bound.Bound.TheOpen.{Bound-F}
use Rattle.world_truth.specs.declared.bound.Bound.TheOpen as f
use Rattle.worlds.specs.Assignments.{Assignment, number_at, value_for, put, own_names}
use Rattle.world_truth.specs.inside.Bound.{standing, standing_step}
use Rattle.world_truth.specs.Places.{given}
use Rattle.world_truth.proofs.Terms.{number_app}

-- a function where none is listed
alone : (a : Assignment) (t : Term) (g : Word) (ts : List Term) → a.functions ≡ [] → t ≡ App g ts → 1 ≡ number_at a t
alone a t g ts none e = sym (ap (number_at a) e ∙ number_app a g ts ∙ ap (λ vs. value_for vs g (map (number_at a) ts)) none)

given_none : (ps : List Place) (a : Assignment) → (given ps a).functions ≡ a.functions
given_none [] a = refl
given_none (p ∷ ps) a = given_none ps (put p.variable p.block a)

pub function_given : (ps : List Place) (w : List Block) (t : Term) (g : Word) (ts : List Term) → t ≡ App g ts → 1 ≡ number_at (given ps (own_names w)) t
function_given ps w t g ts e = alone (given ps (own_names w)) t g ts (given_none ps (own_names w)) e

abbrev HasNone : Bound → Type 0
HasNone b = (w : List Block) (r k : ℕ) → (standing b w r k).functions ≡ []

abbrev Held : Type 0
Held = (b : Bound) × HasNone b

abbrev bare : Bound-F Held → Bound-F Bound
bare y = map-Bound Held Bound (λ e. e.0) y

step : (w : List Block) (y : Bound-F Held) (r k : ℕ) → (standing_step w (map-Bound Bound (ℕ → ℕ → Assignment) (λ b. standing b w) (bare y)) r k).functions ≡ []
step w (f.Given places) r k = given_none places.now (own_names w)
step w (f.One x m rest) r k = rest.now.1 w r k
step w (f.ByRow x rest) r k = rest.now.1 w (r / length w) k
step w (f.ByColumn x rest) r k = rest.now.1 w r (k / length w)

has_none : (b : Bound) → HasNone b
has_none = ind-Bound HasNone (λ l y is. subst (λ (m : Bound-F Bound). HasNone (roll-Bound m)) is (λ w r k.
    ap (λ (g : ℕ → ℕ → Assignment). (g r k).functions) (fold-roll-Bound (ℕ → ℕ → Assignment) (standing_step w) (bare y)) ∙ step w y r k))

pub function_at : (b : Bound) (w : List Block) (r k : ℕ) (t : Term) (g : Word) (ts : List Term) → t ≡ App g ts → 1 ≡ number_at (standing b w r k) t
function_at b w r k t g ts e = alone (standing b w r k) t g ts (has_none b w r k) e
