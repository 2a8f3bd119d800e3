-- A constant that occurs in none of the assumptions that parts leave open.
use Rattle.std.proofs.Common.{◌≡◌, ℕ, zero, suc, ◌+◌, ◌<◌, Bool, true, false, List, [], ◌∷◌, ◌++◌, length, map, take, get_or, refl, ap, ap₂, sym, ◌∙◌, arith}
use Rattle.std.proofs.lemmas.Bool.{and_parts}
use Rattle.std.specs.Prelude.{not, ◌&&◌}
use Rattle.fol_core.specs.declared.sent.Sent.{Sent}
use Rattle.fol_core.specs.Word.{Word}
use Rattle.fol_core.specs.Subst.{occurs}
use Rattle.deriv_laws.specs.declared.tree.Tree.{Tree}
use Rattle.deriv_laws.specs.Discharge.{without, joined}
use Rattle.deriv_laws.specs.Trees.{undischarged}
use Rattle.deriv_laws.specs.Eigen.{AreWithout}
use Rattle.deriv_laws.specs.Dropped.{list_at, avoids}
use Rattle.deriv_laws.proofs.Discharging.{without_append, without_none, dropped_more}

and_joined : (a b d : Bool) → (a && (b && d)) ≡ ((a && b) && d)
and_joined true b d = refl
and_joined false b d = refl

avoids_append : (c : Word) (xs ys : List Sent) → avoids c (xs ++ ys) ≡ (avoids c xs && avoids c ys)
avoids_append c [] ys = refl
avoids_append c (x ∷ xs) ys = ap (λ b. not (occurs c x) && b) (avoids_append c xs ys) ∙ and_joined (not (occurs c x)) (avoids c xs) (avoids c ys)

pub denied_false : (b : Bool) → not b ≡ true → b ≡ false
denied_false true e = sym e
denied_false false e = refl

pub denied_true : (b : Bool) → not b ≡ false → b ≡ true
denied_true true e = refl
denied_true false e = sym e

-- A test of each sentence, and that each passes, are one.
avoids_without : (c : Word) (ss : List Sent) → avoids c ss ≡ true → AreWithout c ss
avoids_without c [] e = tt
avoids_without c (s ∷ ss) e = let w = and_parts (not (occurs c s)) (avoids c ss) e in (denied_false (occurs c s) w.0, avoids_without c ss w.1)

without_avoids : (c : Word) (ss : List Sent) → AreWithout c ss → avoids c ss ≡ true
without_avoids c [] h = refl
without_avoids c (s ∷ ss) h = ap₂ ◌&&◌ (ap not h.0) (without_avoids c ss h.1)

own_avoids : (c : Word) (ds js os : List Sent) (s : Sent) → os ≡ s ∷ js → avoids c (without ds os) ≡ (avoids c (without ds (s ∷ [])) && avoids c (without ds js))
own_avoids c ds js os s e = ap (λ ss. avoids c (without ds ss)) e ∙ ap (avoids c) (without_append ds (s ∷ []) js) ∙ avoids_append c (without ds (s ∷ [])) (without ds js)

-- An assumption that the constant isn't in leaves it to the parts, and one that it is in fails.
pub own_kept : (c : Word) (ds js os : List Sent) (s : Sent) → os ≡ s ∷ js → avoids c (without ds (s ∷ [])) ≡ true → avoids c (without ds os) ≡ avoids c (without ds js)
own_kept c ds js os s e w = own_avoids c ds js os s e ∙ ap (λ b. b && avoids c (without ds js)) w

pub own_fails : (c : Word) (ds js os : List Sent) (s : Sent) → os ≡ s ∷ js → avoids c (without ds (s ∷ [])) ≡ false → avoids c (without ds os) ≡ false
own_fails c ds js os s e w = own_avoids c ds js os s e ∙ ap (λ b. b && avoids c (without ds js)) w

-- What a walk without memory tests is that the constant occurs in none of them.
pub tested : (c : Word) (b : Bool) (xs ss : List Sent) → b ≡ avoids c xs → xs ≡ ss → (b ≡ true → AreWithout c ss) × (AreWithout c ss → b ≡ true)
tested c b xs ss e f = ((λ h. avoids_without c ss (sym (e ∙ ap (avoids c) f) ∙ h)), (λ h. e ∙ ap (avoids c) f ∙ without_avoids c ss h))

-- One part more.
pub avoids_more : (c : Word) (outer : List Sent) (ts : List Tree) (ds : List (List Sent)) (i : ℕ) (t : Tree) → i < length ts → t ≡ get_or ts i t →
    avoids c (without outer (joined (map undischarged (take i ts)) ds)) ≡ true → avoids c (without outer (without (list_at ds i) (undischarged t))) ≡ true →
    avoids c (without outer (joined (map undischarged (take (i + 1) ts)) ds)) ≡ true
avoids_more c outer ts ds i t h e a b =
    ap (avoids c) (dropped_more outer ts ds i t h e)
    ∙ avoids_append c (without outer (joined (map undischarged (take i ts)) ds)) (without outer (without (list_at ds i) (undischarged t)))
    ∙ ap₂ ◌&&◌ a b

both_avoid : (c : Word) (outer xs ys : List Sent) → avoids c (without outer (xs ++ ys)) ≡ true → (avoids c (without outer xs) ≡ true) × (avoids c (without outer ys) ≡ true)
both_avoid c outer xs ys e =
    and_parts (avoids c (without outer xs)) (avoids c (without outer ys)) (sym (ap (avoids c) (without_append outer xs ys) ∙ avoids_append c (without outer xs) (without outer ys)) ∙ e)

-- What holds of all the parts holds of each.
pub part_avoids : (c : Word) (outer : List Sent) (ts : List Tree) (ds : List (List Sent)) (i : ℕ) (t : Tree) → i < length ts → t ≡ get_or ts i t →
    avoids c (without outer (joined (map undischarged ts) ds)) ≡ true → avoids c (without outer (without (list_at ds i) (undischarged t))) ≡ true
part_avoids c outer [] ds i t h e a = absurd (omega arith)
part_avoids c outer (u ∷ ts) [] zero t h e a =
    ap (λ ss. avoids c (without outer ss)) (without_none (undischarged t)) ∙ ap (λ v. avoids c (without outer (undischarged v))) e
    ∙ (both_avoid c outer (undischarged u) (joined (map undischarged ts) []) a).0
part_avoids c outer (u ∷ ts) (d ∷ ds) zero t h e a =
    ap (λ v. avoids c (without outer (without d (undischarged v)))) e ∙ (both_avoid c outer (without d (undischarged u)) (joined (map undischarged ts) ds) a).0
part_avoids c outer (u ∷ ts) [] (suc i) t h e a = part_avoids c outer ts [] i t (omega arith) e ((both_avoid c outer (undischarged u) (joined (map undischarged ts) []) a).1)
part_avoids c outer (u ∷ ts) (d ∷ ds) (suc i) t h e a =
    part_avoids c outer ts ds i t (omega arith) e ((both_avoid c outer (without d (undischarged u)) (joined (map undischarged ts) ds) a).1)

opposite : (a b : Bool) → (a ≡ true → b ≡ true) → b ≡ false → a ≡ false
opposite true b f e = sym (f refl) ∙ e
opposite false b f e = refl

pub parts_fail : (c : Word) (outer : List Sent) (ts : List Tree) (ds : List (List Sent)) (i : ℕ) (t : Tree) → i < length ts → t ≡ get_or ts i t →
    avoids c (without outer (without (list_at ds i) (undischarged t))) ≡ false → avoids c (without outer (joined (map undischarged ts) ds)) ≡ false
parts_fail c outer ts ds i t h e = opposite (avoids c (without outer (joined (map undischarged ts) ds))) (avoids c (without outer (without (list_at ds i) (undischarged t)))) (part_avoids c outer ts ds i t h e)
