-- The lines that aren't blank, one by one.
use Rattle.std.proofs.Common.{◌≡◌, ℕ, ◌+◌, ◌-◌, ◌≤◌, eqb, Bool, true, false, List, [], ◌∷◌, length, take, get_or, arith, refl, ap, if◌then◌else◌, length-append, length-take}
use Rattle.std.specs.Str.Lines.{strip_carriage_return}
use Rattle.texts.specs.Blanks.{is_blank, unless_blank, after_blanks, before_blanks}
use Rattle.texts.specs.Lines.{IsFirstLine, ended, last}
use Rattle.fitch_file.specs.Claim.{is_nothing}
use Rattle.fitch_file.specs.Declarations.{IsBehind}
use Rattle.physical_lines.specs.Physical.{IsBlankLine, IsHeader}
use Rattle.boole_table.specs.WrittenLines.{numbered, written_from}
use Rattle.boole_table.specs.TableLines.{table_header}

pub written_blank : (n : ℕ) (line : List ℕ) (ls : List (List ℕ)) → IsBlankLine line → written_from n (line ∷ ls) ≡ written_from (n + 1) ls
written_blank n line ls h = ap (λ t. if is_nothing t then written_from (n + 1) ls else numbered n line ∷ written_from (n + 1) ls) h

something : (t : List ℕ) → (t ≡ [] → ⊥) → is_nothing t ≡ false
something [] h = absurd (h refl)
something (b ∷ bs) h = refl

pub written_here : (n : ℕ) (line : List ℕ) (ls : List (List ℕ)) → (IsBlankLine line → ⊥) → written_from n (line ∷ ls) ≡ numbered n line ∷ written_from (n + 1) ls
written_here n line ls h = ap (λ c. if c then written_from (n + 1) ls else numbered n line ∷ written_from (n + 1) ls) (something (after_blanks line) h)

-- lengths

either_fits : (c : Bool) (xs ys : List ℕ) (n : ℕ) → length xs ≤ n → length ys ≤ n → length (if c then xs else ys) ≤ n
either_fits true xs ys n h k = h
either_fits false xs ys n h k = k

stripped_fits : (raw : List ℕ) → length (strip_carriage_return raw) ≤ length raw
stripped_fits raw =
    either_fits (eqb (get_or raw (length raw - 1) 0) 13) (take (length raw - 1) raw) raw (length raw) (omega (arith, length-take (length raw - 1) raw)) (omega arith)

pub line_fits : {text line rest : List ℕ} → IsFirstLine text line rest → length line + length rest ≤ length text
line_fits (ended text raw rest c) = omega (arith, ap length c.joined, length-append raw (10 ∷ rest), stripped_fits raw)
line_fits (last text some l) = omega arith

one_fits : (b : ℕ) (c : Bool) (n : ℕ) → 1 ≤ n → length (if c then [] else b ∷ []) ≤ n
one_fits b true n h = omega arith
one_fits b false n h = omega (arith, h)

unless_fits : (b : ℕ) (xs : List ℕ) (n : ℕ) → length xs ≤ n → length (unless_blank b xs) ≤ n + 1
unless_fits b [] n h = one_fits b (is_blank b) (n + 1) (omega arith)
unless_fits b (x ∷ xs) n h = omega (arith, h)

front_fits : (bs : List ℕ) → length (before_blanks bs) ≤ length bs
front_fits [] = omega arith
front_fits (b ∷ bs) = omega (arith, unless_fits b (before_blanks bs) (length bs) (front_fits bs))

-- A header has seven bytes at least.
pub header_long : (line : List ℕ) → IsHeader table_header line → 7 ≤ length line
header_long line h = omega (arith, ap length h, front_fits line)

-- Without the blanks at its ends a text isn't longer.
after_fits : (bs : List ℕ) → length (after_blanks bs) ≤ length bs
after_fits [] = omega arith
after_fits (b ∷ bs) = either_fits (is_blank b) (after_blanks bs) (b ∷ bs) (length (b ∷ bs)) (omega (arith, after_fits bs)) (omega arith)

pub trimmed_fits : (bs : List ℕ) → length (before_blanks (after_blanks bs)) ≤ length bs
trimmed_fits bs = omega (arith, front_fits (after_blanks bs), after_fits bs)

pub behind_fits : (word line text : List ℕ) → IsBehind word line text → length word + length text ≤ length line
behind_fits word line text h = omega (arith, ap length h.begins, length-append word h.tail, ap length h.is, trimmed_fits h.tail)
