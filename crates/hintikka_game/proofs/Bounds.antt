-- A sentence within the limits is light and narrow.
use Rattle.std.proofs.Common.{◌≡◌, ℕ, ◌+◌, ◌*◌, ◌≤◌, List, [], ◌∷◌, length, map, sym, subst, rules, arith}
use Rattle.std.specs.Prelude.{Ok}
use Rattle.fol_core.specs.declared.sent.Sent.{Sent, roll-Sent}
use Rattle.fol_core.specs.declared.sent.Sent.TheOpen.{Sent-F}
use Rattle.fol_core.specs.declared.sent.Sent.TheOpen as f
use Rattle.fol_core.specs.declared.sent.Sent.TheFolds.{ind-Sent, fold-roll-Sent, map-Sent}
use Rattle.fol_core.specs.Size.{greatest, total, nodes, nodes_step, within_limits}
use Rattle.hintikka_game.specs.Weight.{weight, weight_step}
use Rattle.hintikka_game.specs.Width.{widest, widest_step}

-- A sentence has a node at least, weighs at most five times its nodes, and is no wider than its nodes and one.
abbrev Bounded : ℕ → ℕ → ℕ → Type 0
Bounded n weighs wide = (1 ≤ n) × ((weighs ≤ 5 * n) × (wide ≤ n + 1))

abbrev IsBounded : Sent → Type 0
IsBounded s = Bounded (nodes s) (weight s) (widest s)

abbrev Held : Type 0
Held = (s : Sent) × IsBounded s

abbrev bare : Sent-F Held → Sent-F Sent
bare y = map-Sent Held Sent (λ e. e.0) y

abbrev counts : (Sent → ℕ) → List Held → List ℕ
counts g es = map g (map (λ (e : Held). e.0) es)

parts_bounded : (es : List Held) → (length (counts widest es) ≤ total (counts nodes es))
    × ((greatest (counts weight es) ≤ 5 * total (counts nodes es)) × (greatest (counts widest es) ≤ total (counts nodes es) + 1))
parts_bounded [] = (omega arith, (omega arith, omega arith))
parts_bounded (e ∷ es) =
    let i = parts_bounded es in
    (omega (arith, i.0, e.1.0), (omega (arith, i.1.0, e.1.1.0), omega (arith, i.1.1, e.1.1.1, e.1.0)))

step : (y : Sent-F Held) → Bounded (nodes_step (map-Sent Sent ℕ nodes (bare y))) (weight_step (map-Sent Sent ℕ weight (bare y))) (widest_step (map-Sent Sent ℕ widest (bare y)))
step (f.Atom p ts) = (omega arith, (omega arith, omega arith))
step (f.Eq t u) = (omega arith, (omega arith, omega arith))
step f.Bottom = (omega arith, (omega arith, omega arith))
step (f.Not e) = (omega arith, (omega (arith, e.1.1.0), omega (arith, e.1.1.1)))
step (f.And es) = let i = parts_bounded es in (omega arith, (omega (arith, i.1.0), omega (arith, i.0, i.1.1)))
step (f.Or es) = let i = parts_bounded es in (omega arith, (omega (arith, i.1.0), omega (arith, i.0, i.1.1)))
step (f.If d e) = (omega arith, (omega (arith, d.1.1.0, e.1.1.0), omega (arith, d.1.0, d.1.1.1, e.1.1.1)))
step (f.Iff d e) = (omega arith, (omega (arith, d.1.1.0, e.1.1.0), omega (arith, d.1.0, d.1.1.1, e.1.1.1)))
step (f.All x e) = (omega arith, (omega (arith, e.1.1.0), omega (arith, e.1.1.1)))
step (f.Ex x e) = (omega arith, (omega (arith, e.1.1.0), omega (arith, e.1.1.1)))

bounded : (s : Sent) → IsBounded s
bounded = ind-Sent IsBounded (λ l y is.
    subst (λ (m : Sent-F Sent). IsBounded (roll-Sent m)) is
    (subst (λ n. Bounded n (weight (roll-Sent (bare y))) (widest (roll-Sent (bare y)))) (sym (fold-roll-Sent ℕ nodes_step (bare y)))
    (subst (λ n. Bounded (nodes_step (map-Sent Sent ℕ nodes (bare y))) n (widest (roll-Sent (bare y)))) (sym (fold-roll-Sent ℕ weight_step (bare y)))
    (subst (λ n. Bounded (nodes_step (map-Sent Sent ℕ nodes (bare y))) (weight_step (map-Sent Sent ℕ weight (bare y))) n) (sym (fold-roll-Sent ℕ widest_step (bare y)))
    (step y)))))

few_nodes : (s : Sent) → within_limits s ≡ Ok tt → nodes s ≤ 400
few_nodes s h = search (rules, arith, h)

pub light : (s : Sent) → within_limits s ≡ Ok tt → weight s ≤ 2000
light s h = omega (arith, few_nodes s h, (bounded s).1.0)

pub narrow : (s : Sent) → within_limits s ≡ Ok tt → widest s ≤ 401
narrow s h = omega (arith, few_nodes s h, (bounded s).1.1)
