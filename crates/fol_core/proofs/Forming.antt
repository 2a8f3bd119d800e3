-- Each predicate of a well-formed sentence has its number of places.
use Rattle.std.proofs.Common.{◌≡◌, List, [], ◌∷◌, length, map, refl, ap₂, sym, ◌∙◌, subst, Bool, true}
use Rattle.std.proofs.lemmas.Bool.{and_parts}
use Rattle.std.specs.Prelude.{◌&&◌, nat_le}
use Rattle.std.specs.List.{list_all}
use Rattle.fol_core.specs.declared.sent.Sent.{Sent, roll-Sent}
use Rattle.fol_core.specs.declared.sent.Sent.TheOpen.{Sent-F}
use Rattle.fol_core.specs.declared.sent.Sent.TheOpen as f
use Rattle.fol_core.specs.declared.sent.Sent.TheFolds.{ind-Sent, fold-roll-Sent, map-Sent}
use Rattle.fol_core.specs.Word.{is_predicate, is_variable}
use Rattle.fol_core.specs.Subst.{itself}
use Rattle.fol_core.specs.Blocks.{has_places, places_step, fits}
use Rattle.fol_core.specs.Formed.{formed, formed_step, is_formed_term}

abbrev KeepsPlaces : Sent → Type 0
KeepsPlaces p = formed p ≡ true → has_places p ≡ true

abbrev Held : Type 0
Held = (p : Sent) × KeepsPlaces p

abbrev bare : Sent-F Held → Sent-F Sent
bare = map-Sent Held Sent (λ e. e.0)

parts_placed : (es : List Held) → list_all itself (map formed (map (λ (e : Held). e.0) es)) ≡ true → list_all itself (map has_places (map (λ (e : Held). e.0) es)) ≡ true
parts_placed [] i = refl
parts_placed (e ∷ es) i =
    let (first, rest) = and_parts (formed e.0) (list_all itself (map formed (map (λ (g : Held). g.0) es))) i in
    ap₂ ◌&&◌ (e.1 first) (parts_placed es rest)

two_placed : (d e : Held) → (formed d.0 && formed e.0) ≡ true → (has_places d.0 && has_places e.0) ≡ true
two_placed d e i = let (left, right) = and_parts (formed d.0) (formed e.0) i in ap₂ ◌&&◌ (d.1 left) (e.1 right)

chain_placed : (es : List Held) → (nat_le 2 (length (map formed (map (λ (e : Held). e.0) es))) && list_all itself (map formed (map (λ (e : Held). e.0) es))) ≡ true → list_all itself (map has_places (map (λ (e : Held). e.0) es)) ≡ true
chain_placed es i = parts_placed es ((and_parts (nat_le 2 (length (map formed (map (λ (e : Held). e.0) es)))) (list_all itself (map formed (map (λ (e : Held). e.0) es))) i).1)

step_placed : (y : Sent-F Held) → formed_step (map-Sent Sent Bool formed (bare y)) ≡ true → places_step (map-Sent Sent Bool has_places (bare y)) ≡ true
step_placed (f.Atom p ts) i = (and_parts (is_predicate p) (fits p (length ts)) ((and_parts (is_predicate p && fits p (length ts)) (list_all is_formed_term ts) i).0)).1
step_placed (f.Eq a b) i = refl
step_placed f.Bottom i = refl
step_placed (f.Not e) i = e.1 i
step_placed (f.And es) i = chain_placed es i
step_placed (f.Or es) i = chain_placed es i
step_placed (f.If d e) i = two_placed d e i
step_placed (f.Iff d e) i = two_placed d e i
step_placed (f.All x e) i = e.1 ((and_parts (is_variable x) (formed e.0) i).1)
step_placed (f.Ex x e) i = e.1 ((and_parts (is_variable x) (formed e.0) i).1)

-- Each predicate of the blocks language in a well-formed sentence has its number of places.
pub formed_places : (s : Sent) → formed s ≡ true → has_places s ≡ true
formed_places = ind-Sent KeepsPlaces (λ l y is.
    subst (λ (m : Sent-F Sent). KeepsPlaces (roll-Sent m)) is (λ i.
    fold-roll-Sent Bool places_step (bare y) ∙ step_placed y (sym (fold-roll-Sent Bool formed_step (bare y)) ∙ i)))
