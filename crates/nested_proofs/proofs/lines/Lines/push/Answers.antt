-- The lines with one more, and their index.
use Rattle.std.proofs.Common.{◌≡◌, ◌<◌, ◌++◌, ◌∷◌, [], length, sym, subst}
use Rattle.nested_proofs.specs.Limits.{AreLines, DepthFits, depth_after}
use Rattle.nested_proofs.specs.Levels.{level}
use Rattle.nested_proofs.specs.Enclosing.{IsIndex, last_below}
use Rattle.nested_proofs.proofs.Growing.{lines_more}
use Rattle.nested_proofs.proofs.LastBelow.{index_more}
use Rattle.nested_proofs.proofs.lines.Lines.push.Goals as goal

pub invariant_of-self-in-Ok : goal.invariant_of-self-in-Ok
invariant_of-self-in-Ok c =
    let ls = c.self.inside.items in
    let l = c.args.line in
    let b = c.last_below-before.result in
    let more : AreLines (ls ++ l ∷ []) =
    lines_more ls l c.self.invariant.0 (subst (λ xs. length xs < 2000) (sym c.self.view_is) c.requires.room) c.requires.shape
    (subst (λ xs. DepthFits (depth_after 1 xs) l.rule l.depth) (sym c.self.view_is) c.requires.depth) c.requires.cites in
    let e : b ≡ last_below (level l) ls (length ls) = cc in
    let index : IsIndex (ls ++ l ∷ []) (c.self.inside.index.items ++ b ∷ []) = index_more ls c.self.inside.index.items l b c.self.invariant.1 e in (
      subst AreLines (sym c.in-Ok.ensures.ok) more,
      subst (λ xs. IsIndex xs c.push.new.self.items) (sym c.in-Ok.ensures.ok) (subst (IsIndex (ls ++ l ∷ [])) (sym c.in_ok-push.ensures.items) index),
    )
