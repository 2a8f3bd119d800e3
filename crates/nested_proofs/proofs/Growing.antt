-- Lines with one line more.
use Rattle.std.proofs.Common.{◌≡◌, ℕ, suc, ◌<◌, ◌≤◌, List, [], ◌∷◌, ◌++◌, length, get_or, refl, subst, arith, length-append, ◌-◌}
use Rattle.std.specs.List.{AllByRecursion}
use Rattle.deriv_laws.specs.declared.line.FlatLine.{FlatLine}
use Rattle.nested_proofs.specs.Levels.{level}
use Rattle.nested_proofs.specs.Nesting.{IsShaped, WellNested}
use Rattle.nested_proofs.specs.Limits.{IsLineForm, AreLines, AreInForm, DepthFits, depth_after}

-- the last line's depth
pub depth_of_last : (k : ℕ) (ls : List FlatLine) (l : FlatLine) → depth_after k (ls ++ l ∷ []) ≡ l.depth
depth_of_last k [] l = refl
depth_of_last k (x ∷ ls) l = depth_of_last x.depth ls l

well_nested_more : (k : ℕ) (ls : List FlatLine) (l : FlatLine) → WellNested k ls → IsShaped l l.rule → 0 < level l → level l ≤ depth_after k ls → WellNested k (ls ++ l ∷ [])
well_nested_more k [] l w s a b = (s, a, b, tt)
well_nested_more k (x ∷ ls) l w s a b = (w.0, w.1, w.2, well_nested_more x.depth ls l w.3 s a b)

forms_more : (ls : List FlatLine) (l : FlatLine) → AllByRecursion IsLineForm ls → IsLineForm l → AllByRecursion IsLineForm (ls ++ l ∷ [])
forms_more [] l w f = (f, tt)
forms_more (x ∷ ls) l w f = (w.0, forms_more ls l w.1 f)

-- the lines and one more that may come next
pub lines_more : (ls : List FlatLine) (l : FlatLine) → AreLines ls → length ls < 2000 → IsShaped l l.rule → DepthFits (depth_after 1 ls) l.rule l.depth → AreInForm l.cites → AreLines (ls ++ l ∷ [])
lines_more ls l w r s d c = record {
  few = omega (arith, length-append ls (l ∷ []), r);
  well_nested = well_nested_more 1 ls l w.well_nested s d.in_a_list d.not_deeper;
  forms = forms_more ls l w.forms (record { not_deep = d.limit; cites = c });
}

-- the last of the lines has the depth after them
pub depth_at_end : (k : ℕ) (ls : List FlatLine) (l : FlatLine) → 1 ≤ length ls → l ≡ get_or ls (length ls - 1) l → l.depth ≡ depth_after k ls
depth_at_end k [] l h e = absurd (omega (arith, h))
depth_at_end k (x ∷ []) l h e = let q : l ≡ x = e in cc
depth_at_end k (x ∷ y ∷ ls) l h e = depth_at_end x.depth (y ∷ ls) l (omega arith)
    (let q : suc (suc (length ls)) - 1 ≡ suc (suc (length ls) - 1) = omega arith in subst (λ n. l ≡ get_or (x ∷ y ∷ ls) n l) q e)
