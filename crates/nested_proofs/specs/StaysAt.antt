-- Whether the constant that a cited subproof boxes stays arbitrary at a placed line.
use Rattle.std.specs.Prelude.{◌≡◌, List, [], ◌∷◌, Some, IfSome}
use Rattle.fol_core.specs.Word.{Word}
use Rattle.nested_proofs.specs.Scope.{Subproof, cited_sentences, cited_subproofs}
use Rattle.nested_proofs.specs.Placed.{Placed}
use Rattle.nested_proofs.specs.Rules.{StaysArbitrary}

-- The second test of the two rules that need a boxed constant, of what the line's cites find in scope.
abbrev pub StaysAt : Placed → Type 0
StaysAt x = IfSome x.line.sentence (λ s. StaysArbitrary x.line.rule (cited_sentences x.around.scope x.line.cites) (cited_subproofs x.around.scope x.line.cites) s)

-- There is one subproof, and it boxes the constant c.
abbrev pub OneBoxes : List Subproof → Word → Type 0
OneBoxes bs c = (b : Subproof) × (bs ≡ b ∷ []) × (b.boxed ≡ Some c)

-- The line's cites find one subproof, which boxes the constant c.
abbrev pub BoxesAt : Word → Placed → Type 0
BoxesAt c x = OneBoxes (cited_subproofs x.around.scope x.line.cites) c
