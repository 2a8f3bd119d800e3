-- The test of a line's visibility by the last line of a lower level.
use Rattle.std.proofs.Common.{◌≡◌, ℕ, zero, suc, ◌-◌, ◌<◌, ◌≤◌, Bool, true, false, List, [], ◌∷◌, length, get_or, drop, refl, sym, ap, ◌∙◌, arith, cond, Option, Some, None}
use Rattle.std.specs.Prelude.{nat_le, ◌&&◌}
use Rattle.std.specs.Option.{is_some}
use Rattle.std.proofs.lemmas.Bool.{lt-ltb, le-ltb}
use Rattle.deriv_laws.specs.declared.line.FlatLine.{FlatLine}
use Rattle.fol_core.specs.declared.sent.Sent.{Sent}
use Rattle.nested_proofs.specs.Visible.{sentence_over, visible_sentence}
use Rattle.nested_proofs.specs.Enclosing.{last_below}
use Rattle.nested_proofs.proofs.LastBelow.{stays_is}

-- the lines from line i on are line i and the later ones
pub from_item : (ls : List FlatLine) (i : ℕ) (l : FlatLine) → 0 < i → i ≤ length ls → l ≡ get_or ls (i - 1) l → drop (i - 1) ls ≡ l ∷ drop i ls
from_item ls zero l h w e = absurd (omega (arith, h))
from_item ls (suc k) l h w e =
    let q : suc k - 1 ≡ k = omega arith in
    ap (λ n. drop n ls) q ∙ go ls k (omega (arith, w)) (e ∙ ap (λ n. get_or ls n l) q)
  where
    go : (ls : List FlatLine) (k : ℕ) → suc k ≤ length ls → l ≡ get_or ls k l → drop k ls ≡ l ∷ drop (suc k) ls
    go [] k w e = absurd (omega (arith, w))
    go (x ∷ ls) zero w e = ap (λ y. y ∷ ls) (sym e)
    go (x ∷ ls) (suc k) w e = go ls k (omega (arith, w)) e

-- the sentence of line i, where it is visible
pub over_item : (ls : List FlatLine) (i j : ℕ) (l : FlatLine) → 0 < i → i < j → j ≤ length ls → l ≡ get_or ls (i - 1) l →
    visible_sentence ls i j ≡ cond (nat_le (last_below l.depth ls j) i) l.sentence None
over_item ls i j l h a w e =
    ap (λ b. cond b (sentence_over (drop (i - 1) ls) (j - i)) None) (lt-ltb i j a)
    ∙ ap (λ xs. sentence_over xs (j - i)) (from_item ls i l h (omega (arith, a, w)) e)
    ∙ ap (λ b. cond b l.sentence None) (stays_is l.depth (j - i) i j ls (omega (arith, a)) w)

pub sentence_test : (ls : List FlatLine) (i j : ℕ) (l : FlatLine) → 0 < i → i < j → j ≤ length ls → l ≡ get_or ls (i - 1) l →
    is_some (visible_sentence ls i j) ≡ (is_some l.sentence && nat_le (last_below l.depth ls j) i)
sentence_test ls i j l h a w e = ap is_some (over_item ls i j l h a w e) ∙ go (nat_le (last_below l.depth ls j) i) l.sentence
  where
    go : (b : Bool) (o : Option Sent) → is_some (cond b o None) ≡ (is_some o && b)
    go true (Some s) = refl
    go true None = refl
    go false (Some s) = refl
    go false None = refl

pub not_before : (ls : List FlatLine) (i j : ℕ) → j ≤ i → visible_sentence ls i j ≡ None
not_before ls i j h = ap (λ b. cond b (sentence_over (drop (i - 1) ls) (j - i)) None) (le-ltb i j h)
