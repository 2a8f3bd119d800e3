-- The parts of a text are no longer than it.
use Rattle.std.proofs.Common.{ℕ, ◌≤◌, List, [], ◌∷◌, length, arith, ap, Option, Some, None, length-append}
use Rattle.std.specs.Prelude.{◌==◌, if◌then◌else◌}
use Rattle.std.specs.Fmt.{decimal}
use Rattle.texts.specs.Blanks.{is_blank}
use Rattle.physical_lines.proofs.Lengths.{either_fits, trimmed_fits}
use Rattle.fol_core.specs.Word.{Word}
use Rattle.fitch_file.specs.Numbering.{IsNumbered, after_bars}
use Rattle.fitch_file.specs.Boxes.{IsBoxed}
use Rattle.fitch_file.specs.Claim.{Claim, IsClaim}
use Rattle.fitch_file.specs.Readers.{IsWordIfAny}
use Rattle.fitch_file.specs.Declarations.{IsBehind}
use Rattle.fitch_file.proofs.Boxing.{name_is_ident}

after_bars_fits : (bs : List ℕ) → length (after_bars bs) ≤ length bs
after_bars_fits [] = omega arith
after_bars_fits (b ∷ bs) =
    let more : length (after_bars bs) ≤ length bs = after_bars_fits bs in
    either_fits (b == 124) (after_bars bs) (if is_blank b then after_bars bs else b ∷ bs) (length (b ∷ bs)) (omega arith)
    (either_fits (is_blank b) (after_bars bs) (b ∷ bs) (length (b ∷ bs)) (omega arith) (omega arith))

unboxed_fits : (text : List ℕ) (b : Option Word) (rest : List ℕ) → IsBoxed text b rest → length rest ≤ length text
unboxed_fits text (Some name) rest h = omega (arith, ap length h.begins, length-append name (93 ∷ rest))
unboxed_fits text None rest h = omega (arith, ap length h.0)

pub claim_fits : (n : ℕ) (text body : List ℕ) (claim : Claim) → IsNumbered n text body → IsClaim (after_bars body) claim → length claim.stated ≤ length text
claim_fits n text body claim h k =
    omega (
      arith,
      ap length h.written,
      length-append (decimal n) body,
      after_bars_fits body,
      unboxed_fits (after_bars body) claim.boxed k.rest k.boxed,
      ap length k.parted.joined,
      length-append k.sentence (59 ∷ k.reason),
      trimmed_fits k.sentence,
      ap length k.stated,
    )

boxed_word : (text : List ℕ) (b : Option Word) (rest : List ℕ) → IsBoxed text b rest → IsWordIfAny b
boxed_word text (Some name) rest h = name_is_ident name h.named
boxed_word text None rest h = tt

pub claim_boxes_word : (text : List ℕ) (claim : Claim) → IsClaim text claim → IsWordIfAny claim.boxed
claim_boxes_word text claim h = boxed_word text claim.boxed h.rest h.boxed

pub behind_fits : (keyword line text : List ℕ) → IsBehind keyword line text → length text ≤ length line
behind_fits keyword line text h = omega (arith, ap length h.begins, length-append keyword h.tail, ap length h.is, trimmed_fits h.tail)
