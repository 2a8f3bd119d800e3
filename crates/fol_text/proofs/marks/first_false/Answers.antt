use Rattle.std.proofs.Common.{◌≡◌, ℕ, Bool, List, [], ◌∷◌, None, refl, ap, sym, ◌∙◌, inl, inr}
use Rattle.std.specs.Prelude.{◌⊎◌}
use Rattle.std.specs.Iterator.Adapters.{zip_first, zip_second}
use Rattle.std.specs.Slice.Iter.{iter_rest}
use Rattle.std.proofs.lemmas.Slice.Zip.{either_empty_from_Zip}
use Rattle.fol_text.specs.Occurrences.{first_false}
use Rattle.fol_text.proofs.marks.first_false.Goals as goal

no_places : (marks : List Bool) → first_false marks [] ≡ None
no_places [] = refl
no_places (b ∷ marks) = refl

-- where the marks or the places are over, no mark is false
over : (marks : List Bool) (places : List ℕ) → (marks ≡ []) ⊎ (places ≡ []) → first_false marks places ≡ None
over marks places (inl e) = ap (λ (ms : List Bool). first_false ms places) e
over marks places (inr e) = ap (λ (ns : List ℕ). first_false marks ns) e ∙ no_places marks

pub returns : goal.returns
returns c = record {
  value = sym (over (iter_rest (zip_first c.loop-mark.mark-iterator)) (iter_rest (zip_second c.loop-mark.mark-iterator))
      (either_empty_from_Zip c.loop-mark.mark-iterator c.next.new.self c.next.result c.in-None.is c.next.ensures.steps)) ∙ c.loop-mark.invariant;
}
