-- The commitment is the value of a position exactly where it is so after the moves: the value follows the rules of the game.
use Rattle.std.proofs.Common.{◌≡◌, ℕ, List, [], ◌∷◌, ◌++◌, map, refl, ap, ap₂, sym, ◌∙◌, subst, Bool, true, false, rules}
use Rattle.std.specs.Prelude.{◌||◌, ◌&&◌, not}
use Rattle.fol_core.specs.Word.{Word}
use Rattle.fol_core.specs.declared.sent.Sent.{Sent, out-Sent, roll-Sent, roll-out-Sent, the_lemmas}
use Rattle.fol_core.specs.declared.sent.Sent.TheOpen.{Sent-F}
use Rattle.fol_core.specs.declared.sent.Sent.TheOpen as f
use Rattle.fol_core.specs.declared.sent.Sent.TheVariants as s
use Rattle.fol_core.specs.declared.sent.Sent.TheFolds.{fold-roll-Sent, map-Sent}
use Rattle.worlds.specs.declared.block.Block.{Block}
use Rattle.world_truth.specs.declared.answer.Place.{Place}
use Rattle.worlds.specs.Assignments.{Assignment, put, own_names}
use Rattle.world_truth.specs.Places.{given}
use Rattle.worlds.specs.Truth.{val, val_under, val_step, are_alike}
use Rattle.worlds.specs.Worlds.{numbers}
use Rattle.hintikka_game.specs.declared.position.Position.{Position}
use Rattle.hintikka_game.specs.Positions.{side, side_at, nexts, nexts_at, at_block, is_kept}
use Rattle.hintikka_game.specs.Wins.{wins_by}
use Rattle.hintikka_game.proofs.Lists.{any_applied, all_applied, any_each, all_each, none_each, some_each}

pub given-last : (ps : List Place) (r : Place) (a : Assignment) → given (ps ++ r ∷ []) a ≡ put r.variable r.block (given ps a)
given-last [] r a = refl
given-last (p ∷ ps) r a = given-last ps r (put p.variable p.block a)

val_not : (w : List Block) (a : Assignment) (p : Sent) → val w a (s.Not p) ≡ not (val w a p)
val_not w a p = search (rules, the_lemmas)

val_if : (w : List Block) (a : Assignment) (p q : Sent) → val w a (s.If p q) ≡ (not (val w a p) || val w a q)
val_if w a p q = search (rules, the_lemmas)

-- A disjunction of two, and a conjunction of two.
val_or : (w : List Block) (a : Assignment) (p q : Sent) → val w a (s.Or (p ∷ q ∷ [])) ≡ (val w a p || (val w a q || false))
val_or w a p q = search (rules, the_lemmas)

val_and : (w : List Block) (a : Assignment) (p q : Sent) → val w a (s.And (p ∷ q ∷ [])) ≡ (val w a p && (val w a q && true))
val_and w a p q = search (rules, the_lemmas)

or_false : (b c : Bool) → (b || c) ≡ (b || (c || false))
or_false true c = refl
or_false false true = refl
or_false false false = refl

both_ways : (b c : Bool) → are_alike b c ≡ ((not b || c) && ((not c || b) && true))
both_ways true true = refl
both_ways true false = refl
both_ways false true = refl
both_ways false false = refl

alike_not : (c b : Bool) → are_alike c (not b) ≡ (are_alike (not c) b && true)
alike_not true true = refl
alike_not true false = refl
alike_not false true = refl
alike_not false false = refl

and_true : (b : Bool) → b ≡ (b && true)
and_true true = refl
and_true false = refl

rewritten_if : (w : List Block) (a : Assignment) (p q : Sent) → (not (val w a p) || val w a q) ≡ val w a (s.Or (s.Not p ∷ q ∷ []))
rewritten_if w a p q = or_false (not (val w a p)) (val w a q)
    ∙ ap (λ b. b || (val w a q || false)) (sym (val_not w a p)) ∙ sym (val_or w a (s.Not p) q)

rewritten_iff : (w : List Block) (a : Assignment) (p q : Sent) → are_alike (val w a p) (val w a q) ≡ val w a (s.And (s.If p q ∷ s.If q p ∷ []))
rewritten_iff w a p q = both_ways (val w a p) (val w a q)
    ∙ ap₂ (λ b c. b && (c && true)) (sym (val_if w a p q)) (sym (val_if w a q p)) ∙ sym (val_and w a (s.If p q) (s.If q p))

abbrev position : Sent → List Place → Bool → Position
position q ps c = record { sentence = q; places = ps; commitment = c }

abbrev under : List Block → List Place → Assignment
under w ps = given ps (own_names w)

-- With one more block the commitment is the value exactly where it is under that assignment.
block_true : (w : List Block) (ps : List Place) (x : Word) (q : Sent) (k : ℕ) → val w (put x k (under w ps)) q ≡ is_kept w (at_block (position q ps true) x q k)
block_true w ps x q k = ap (val_under w q) (sym (given-last ps (record { variable = x; block = k }) (own_names w)))

block_false : (w : List Block) (ps : List Place) (x : Word) (q : Sent) (k : ℕ) → not (val w (put x k (under w ps)) q) ≡ is_kept w (at_block (position q ps false) x q k)
block_false w ps x q k = ap (λ a. not (val_under w q a)) (sym (given-last ps (record { variable = x; block = k }) (own_names w)))

-- The value of one form of sentence, from the values of its parts.
abbrev opened : List Block → List Place → Sent-F Sent → Bool
opened w ps y = val_step w (map-Sent Sent (Assignment → Bool) (val_under w) y) (under w ps)

step : (w : List Block) (ps : List Place) (c : Bool) (y : Sent-F Sent) →
    are_alike c (opened w ps y) ≡ wins_by (side_at c y) (map (is_kept w) (nexts_at w (position (roll-Sent y) ps c) y)) (are_alike c (opened w ps y))
step w ps c (f.Atom q ts) = refl
step w ps c (f.Eq t u) = refl
step w ps c f.Bottom = refl
step w ps c (f.Not q) = alike_not c (val w (under w ps) q)
step w ps true (f.And qs) = all_applied (val_under w) (under w ps) qs ∙ all_each (val w (under w ps)) (is_kept w) (λ q. position q ps true) (λ q. refl) qs
step w ps false (f.And qs) = ap not (all_applied (val_under w) (under w ps) qs) ∙ some_each (val w (under w ps)) (is_kept w) (λ q. position q ps false) (λ q. refl) qs
step w ps true (f.Or qs) = any_applied (val_under w) (under w ps) qs ∙ any_each (val w (under w ps)) (is_kept w) (λ q. position q ps true) (λ q. refl) qs
step w ps false (f.Or qs) = ap not (any_applied (val_under w) (under w ps) qs) ∙ none_each (val w (under w ps)) (is_kept w) (λ q. position q ps false) (λ q. refl) qs
step w ps c (f.If q r) = ap (are_alike c) (rewritten_if w (under w ps) q r) ∙ and_true _
step w ps c (f.Iff q r) = ap (are_alike c) (rewritten_iff w (under w ps) q r) ∙ and_true _
step w ps true (f.All x q) = all_each (λ k. val w (put x k (under w ps)) q) (is_kept w) (at_block (position q ps true) x q) (block_true w ps x q) (numbers w)
step w ps false (f.All x q) = some_each (λ k. val w (put x k (under w ps)) q) (is_kept w) (at_block (position q ps false) x q) (block_false w ps x q) (numbers w)
step w ps true (f.Ex x q) = any_each (λ k. val w (put x k (under w ps)) q) (is_kept w) (at_block (position q ps true) x q) (block_true w ps x q) (numbers w)
step w ps false (f.Ex x q) = none_each (λ k. val w (put x k (under w ps)) q) (is_kept w) (at_block (position q ps false) x q) (block_false w ps x q) (numbers w)

-- The value of a sentence follows the rules of the game.
abbrev Follows : List Block → List Place → Bool → Sent → Type 0
Follows w ps c q = is_kept w (position q ps c) ≡ wins_by (side (position q ps c)) (map (is_kept w) (nexts w (position q ps c))) (is_kept w (position q ps c))

rolled : (w : List Block) (ps : List Place) (c : Bool) (y : Sent-F Sent) → Follows w ps c (roll-Sent y)
rolled w ps c y =
    let v : val w (under w ps) (roll-Sent y) ≡ opened w ps y = ap (λ (g : Assignment → Bool). g (under w ps)) (fold-roll-Sent (Assignment → Bool) (val_step w) y) in
    let o : out-Sent (roll-Sent y) ≡ y = search (rules, the_lemmas) in
    ap (are_alike c) v ∙ step w ps c y
    ∙ ap₂ (λ (z : Sent-F Sent) (b : Bool). wins_by (side_at c z) (map (is_kept w) (nexts_at w (position (roll-Sent y) ps c) z)) (are_alike c b)) (sym o) (sym v)

pub kept_by_turns : (w : List Block) (p : Position) → is_kept w p ≡ wins_by (side p) (map (is_kept w) (nexts w p)) (is_kept w p)
kept_by_turns w p = subst (Follows w p.places p.commitment) (roll-out-Sent p.sentence) (rolled w p.places p.commitment (out-Sent p.sentence))
