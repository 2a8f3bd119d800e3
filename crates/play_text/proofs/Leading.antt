-- The first line of a text that isn't blank, with the text behind it.
use Rattle.std.proofs.Common.{◌≡◌, ◌≢◌, ℕ, ◌+◌, ◌-◌, ◌<◌, ◌≤◌, eqb, Bool, true, false, List, [], ◌∷◌, ◌++◌, length, take, get_or, arith, refl, sym, ap, subst, length-append, length-take}
use Rattle.std.specs.Prelude.{if◌then◌else◌}
use Rattle.std.specs.Str.Lines.{lines, strip_carriage_return}
use Rattle.texts.specs.Blanks.{before_blanks}
use Rattle.texts.specs.Lines.{IsFirstLine, ended, last}
use Rattle.texts.proofs.Splitting.{lines-cut, lines-last}
use Rattle.texts.proofs.Cutting.{cut_once, lacks_not_cut}
use Rattle.texts.proofs.Trimming.{front_before_blanks}
use Rattle.physical_lines.specs.Physical.{IsBlankLine, AreBlank, ComesFirst, at_once, past_blank, IsHeader}
use Rattle.physical_lines.specs.Leading.{LeadsTo, leads_here, leads_on}
use Rattle.physical_lines.proofs.Heading.{blank_has_none}
use Rattle.play_text.specs.PlayLines.{play_header}

positive : (text : List ℕ) → text ≢ [] → 0 < length text
positive [] h = absurd (h refl)
positive (b ∷ bs) h = omega arith

first_lines : {text line rest : List ℕ} → IsFirstLine text line rest → lines text ≡ line ∷ lines rest
first_lines (ended text raw rest c) = lines-cut text raw rest c
first_lines (last text some l) = lines-last text (positive text some) l

record IsSameLine (line line' rest rest' : List ℕ) : Type 0 where
  pub is : line ≡ line'
  pub rest_is : rest ≡ rest'

line_once : {text line rest : List ℕ} → IsFirstLine text line rest → (line' rest' : List ℕ) → IsFirstLine text line' rest' → IsSameLine line line' rest rest'
line_once (ended text raw rest c) _ _ (ended _ raw' rest' c') =
    let e : (raw ≡ raw') × (rest ≡ rest') = cut_once 10 text raw rest raw' rest' c c' in
    record { is = ap strip_carriage_return e.0; rest_is = e.1 }
line_once (ended text raw rest c) _ _ (last _ some l) = absurd (lacks_not_cut 10 text raw rest l c)
line_once (last text some l) _ _ (ended _ raw rest c) = absurd (lacks_not_cut 10 text raw rest l c)
line_once (last text some l) _ _ (last _ some' l') = record { is = refl; rest_is = refl }

either_fits : (c : Bool) (xs ys : List ℕ) (n : ℕ) → length xs ≤ n → length ys ≤ n → length (if c then xs else ys) ≤ n
either_fits true xs ys n h k = h
either_fits false xs ys n h k = k

stripped_fits : (raw : List ℕ) → length (strip_carriage_return raw) ≤ length raw
stripped_fits raw =
    either_fits (eqb (get_or raw (length raw - 1) 0) 13) (take (length raw - 1) raw) raw (length raw) (omega (arith, length-take (length raw - 1) raw)) (omega arith)

line_fits : {text line rest : List ℕ} → IsFirstLine text line rest → length line + length rest ≤ length text
line_fits (ended text raw rest c) = omega (arith, ap length c.joined, length-append raw (10 ∷ rest), stripped_fits raw)
line_fits (last text some l) = omega arith

line_shorter : {text line rest : List ℕ} → IsFirstLine text line rest → length rest < length text
line_shorter (ended text raw rest c) = omega (arith, ap length c.joined, length-append raw (10 ∷ rest))
line_shorter (last text some l) = positive text some

-- it is one line at most
pub record IsSameLead (n m : ℕ) (line line' rest rest' : List ℕ) : Type 0 where
  pub number : n ≡ m
  pub is : line ≡ line'
  pub rest_is : rest ≡ rest'

pub leads_once : {place : ℕ} {text : List ℕ} {n : ℕ} {line rest : List ℕ} → LeadsTo place text n line rest → (m : ℕ) (line' rest' : List ℕ) → LeadsTo place text m line' rest' → IsSameLead n m line line' rest rest'
leads_once (leads_here place text line rest f w) _ _ _ (leads_here _ _ line' rest' f' w') =
    let e : IsSameLine line line' rest rest' = line_once f line' rest' f' in
    record { number = refl; is = e.is; rest_is = e.rest_is }
leads_once (leads_here place text line rest f w) _ _ _ (leads_on _ _ blank after m line' rest' f' b l) =
    let e : IsSameLine line blank rest after = line_once f blank after f' in
    absurd (w (subst IsBlankLine (sym e.is) b))
leads_once (leads_on place text blank after n line rest f b l) _ _ _ (leads_here _ _ line' rest' f' w) =
    let e : IsSameLine blank line' after rest' = line_once f line' rest' f' in
    absurd (w (subst IsBlankLine e.is b))
leads_once (leads_on place text blank after n line rest f b l) _ _ _ (leads_on _ _ blank' after' m line' rest' f' b' l') =
    let e : IsSameLine blank blank' after after' = line_once f blank' after' f' in
    leads_once l m line' rest' (subst (λ t. LeadsTo (place + 1) t m line' rest') (sym e.rest_is) l')

-- the lines counted on from another number
pub leads_shift : {place : ℕ} {text : List ℕ} {n : ℕ} {line rest : List ℕ} → LeadsTo place text n line rest → (k : ℕ) → LeadsTo (k + place) text (k + n) line rest
leads_shift (leads_here place text line rest f w) k = leads_here (k + place) text line rest f w
leads_shift (leads_on place text blank after n line rest f b l) k =
    let e : k + (place + 1) ≡ k + place + 1 = omega arith in
    leads_on (k + place) text blank after (k + n) line rest f b (subst (λ p. LeadsTo p after (k + n) line rest) e (leads_shift l k))

leads_comes : {place : ℕ} {text : List ℕ} {n : ℕ} {line rest : List ℕ} → LeadsTo place text n line rest → ComesFirst place (lines text) n line (lines rest)
leads_comes (leads_here place text line rest f w) = subst (λ ls. ComesFirst place ls place line (lines rest)) (sym (first_lines f)) (at_once place line (lines rest) w)
leads_comes (leads_on place text blank after n line rest f b l) =
    subst (λ ls. ComesFirst place ls n line (lines rest)) (sym (first_lines f)) (past_blank place blank (lines after) n line (lines rest) b (leads_comes l))

pub blank_leads_none : (place : ℕ) (text : List ℕ) (n : ℕ) (line rest : List ℕ) → AreBlank (lines text) → LeadsTo place text n line rest → ⊥
blank_leads_none place text n line rest b l = blank_has_none place (lines text) n line (lines rest) b (leads_comes l)

-- how long the parts are
leads_room : {place : ℕ} {text : List ℕ} {n : ℕ} {line rest : List ℕ} → LeadsTo place text n line rest → (n + length line + length rest ≤ place + length text) × (place ≤ n)
leads_room (leads_here place text line rest f w) = (omega (arith, line_fits f), omega arith)
leads_room (leads_on place text blank after n line rest f b l) =
    let more : (n + length line + length rest ≤ place + 1 + length after) × (place + 1 ≤ n) = leads_room l in
    (omega (arith, more.0, line_shorter f), omega (arith, more.1))

pub line_no_longer : (place : ℕ) (text : List ℕ) (n : ℕ) (line rest : List ℕ) → LeadsTo place text n line rest → length line ≤ length text
line_no_longer place text n line rest l =
    let room : (n + length line + length rest ≤ place + length text) × (place ≤ n) = leads_room l in
    omega (arith, room.0, room.1)

header_long : (line : List ℕ) → IsHeader play_header line → 6 ≤ length line
header_long line h =
    let f : (tail : List ℕ) × (line ≡ before_blanks line ++ tail) = front_before_blanks line in
    omega (arith, ap length f.1, length-append (before_blanks line) f.0, ap length h)

pub room_behind_header : (text : List ℕ) (n : ℕ) (line rest : List ℕ) → LeadsTo 1 text n line rest → IsHeader play_header line → n + length rest < length text
room_behind_header text n line rest l h =
    let room : (n + length line + length rest ≤ 1 + length text) × (1 ≤ n) = leads_room l in
    omega (arith, room.0, header_long line h)
