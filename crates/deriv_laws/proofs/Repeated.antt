-- Trees that all conclude one sentence.
use Rattle.std.proofs.Common.{◌≡◌, ℕ, zero, suc, ◌<◌, List, [], ◌∷◌, length, map, replicate, get_or, ap, ◌∙◌, arith}
use Rattle.fol_core.specs.declared.sent.Sent.{Sent}
use Rattle.deriv_laws.specs.declared.tree.Tree.{Tree}
use Rattle.deriv_laws.specs.Trees.{concl}

abbrev others : List Sent → List Sent
others [] = []
others (s ∷ ss) = ss

-- where the conclusions are one sentence throughout, each tree concludes it
pub each_repeats : (ts : List Tree) (i : ℕ) (t : Tree) (s : Sent) → i < length ts → t ≡ get_or ts i t → map concl ts ≡ replicate (length ts) s → concl t ≡ s
each_repeats [] i t s h e r = absurd (omega arith)
each_repeats (u ∷ ts) zero t s h e r = ap concl e ∙ ap (λ ss. get_or ss 0 s) r
each_repeats (u ∷ ts) (suc i) t s h e r = each_repeats ts i t s (omega (arith, h)) e (ap others r)
