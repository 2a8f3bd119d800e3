-- Reading the numbers of a text one by one.
use Rattle.std.proofs.Common.{◌≡◌, ℕ, ◌≤◌, List, [], ◌∷◌, ◌++◌, length, map, length-append, append_assoc, append-nil, arith, refl, ap, sym, ◌∙◌, Option, Some, None, inl, inr}
use Rattle.std.specs.Prelude.{◌⊎◌}
use Rattle.std.proofs.lemmas.List.{map-append, length-map}
use Rattle.world_text.specs.Lines.{words}
use Rattle.world_text.specs.BlockLines.{number_of}
use Rattle.play_text.specs.declared.play.PlayFault.{PlayFault}
use Rattle.play_text.specs.declared.play.PlayFault.TheVariants.{Form, Memory}
use Rattle.play_text.specs.PlayLines.{IsChoices}
use Rattle.play_text.specs.Readers.{PutsNumber, NumberFails}

-- The words up to the rest write these numbers.
pub record Numbered (text rest done : List ℕ) : Type 0 where
  pub written : map number_of (words text) ≡ map Some done ++ map number_of (words rest)
  pub few : length done ≤ 60

pub no_number_yet : (text : List ℕ) → Numbered text text []
no_number_yet text = record { written = refl; few = omega arith }

pub one_number_more : (text rest word after old new : List ℕ) → Numbered text rest old → words rest ≡ word ∷ words after → PutsNumber word old new → Numbered text after new
one_number_more text rest word after old new h e p = record {
  written = h.written ∙ ap (λ ws. map Some old ++ map number_of ws) e ∙ ap (λ o. map Some old ++ o ∷ map number_of (words after)) p.written
      ∙ sym (append_assoc (map Some old) (Some p.number ∷ []) (map number_of (words after))) ∙ ap (λ os. os ++ map number_of (words after)) (sym (map-append Some old (p.number ∷ [])))
      ∙ ap (λ ns. map Some ns ++ map number_of (words after)) (sym p.is);
  few = omega (arith, ap length p.is, length-append old (p.number ∷ []), p.room);
}

pub all_numbers : (text rest done : List ℕ) → Numbered text rest done → words rest ≡ [] → IsChoices text done
all_numbers text rest done h e = record { written = h.written ∙ ap (λ ws. map Some done ++ map number_of ws) e ∙ append-nil (map Some done); few = h.few }

no_none : (ns done : List ℕ) (more : List (Option ℕ)) → map Some ns ≡ map Some done ++ None ∷ more → ⊥
no_none [] [] more e = absurd (cc)
no_none [] (d ∷ done) more e = absurd (cc)
no_none (n ∷ ns) [] more e = absurd (cc)
no_none (n ∷ ns) (d ∷ done) more e = let t : map Some ns ≡ map Some done ++ None ∷ more = cc in no_none ns done more t

pub no_choices : (text rest word after done : List ℕ) → Numbered text rest done → words rest ≡ word ∷ words after → NumberFails word done → (ns : List ℕ) → IsChoices text ns → ⊥
no_choices text rest word after done h e (inl f) ns c =
    no_none ns done (map number_of (words after))
    (sym c.written ∙ h.written ∙ ap (λ ws. map Some done ++ map number_of ws) e ∙ ap (λ o. map Some done ++ o ∷ map number_of (words after)) f)
no_choices text rest word after done h e (inr f) ns c =
    let same : map Some ns ≡ map Some done ++ number_of word ∷ map number_of (words after) = sym c.written ∙ h.written ∙ ap (λ ws. map Some done ++ map number_of ws) e in
    omega (
      arith,
      ap length same,
      length-append (map Some done) (number_of word ∷ map number_of (words after)),
      length-map ns Some,
      length-map done Some,
      c.few,
      f,
    )

pub refused_here : (text rest word after done : List ℕ) (f : PlayFault) → Numbered text rest done → words rest ≡ word ∷ words after → (f ≡ Memory) ⊎ ((f ≡ Form) × NumberFails word done) →
    (f ≡ Memory) ⊎ ((f ≡ Form) × ((ns : List ℕ) → IsChoices text ns → ⊥))
refused_here text rest word after done f h e (inl m) = inl m
refused_here text rest word after done f h e (inr k) = inr (k.0, no_choices text rest word after done h e k.1)
