-- The faults of a world text: none is want of memory, and each has a line of the text or the first one.
use Rattle.std.proofs.Common.{◌≡◌, ℕ, zero, suc, ◌+◌, ◌≤◌, Bool, true, false, List, [], ◌∷◌, ◌++◌, length, length-append, arith, refl, ap, ◌∙◌, Option, Some, None, inl, inr}
use Rattle.std.specs.Prelude.{if◌then◌else◌, not, ◌&&◌, ◌==◌, ◌⊎◌}
use Rattle.std.proofs.lemmas.Bool.{eqb-true}
use Rattle.texts.specs.Cuts.{Lacks, IsCut}
use Rattle.texts.proofs.Splitting.{lines-cut, lines-last}
use Rattle.std.specs.Str.Lines.{lines}
use Rattle.worlds.specs.declared.block.Block.{Block}
use Rattle.world_text.specs.declared.reading.WorldFault.{WorldFault}
use Rattle.world_text.specs.declared.reading.WorldFault.TheVariants.{Header, SquareTaken, NameTaken, OffBoard, Memory}
use Rattle.worlds.specs.Geometry.{square_at, is_place}
use Rattle.world_text.specs.Lines.{is_blank_line, is_header}
use Rattle.world_text.specs.BlockLines.{Said, said_in, blocks_of}
use Rattle.world_text.specs.WorldText.{is_square_taken, is_name_taken, repeats_name, fault_said, faulty_or, first_fault, fault_from, world_fault}

-- The fault isn't want of memory.
abbrev pub IsPlain : Option WorldFault → Type 0
IsPlain o = o ≡ Some Memory → ⊥

either : (c : Bool) (o p : Option WorldFault) → IsPlain o → IsPlain p → IsPlain (if c then o else p)
either true o p h k = h
either false o p h k = k

said_plain : (blocks : List Block) (o : Option Said) → IsPlain (fault_said blocks o)
said_plain blocks None = λ e. absurd (cc)
said_plain blocks (Some s) =
    either (not (is_place s.column && is_place s.row)) (Some OffBoard)
    (if is_square_taken blocks (square_at s.column s.row) then Some SquareTaken else (if repeats_name (is_name_taken blocks) s.names then Some NameTaken else None))
    (λ e. absurd (cc))
    (either (is_square_taken blocks (square_at s.column s.row)) (Some SquareTaken) (if repeats_name (is_name_taken blocks) s.names then Some NameTaken else None) (λ e. absurd (cc))
    (either (repeats_name (is_name_taken blocks) s.names) (Some NameTaken) None (λ e. absurd (cc)) (λ e. absurd (cc))))

-- The same of a fault with its line, which is at most so great.
abbrev pub IsPlacedBy : ℕ → Option (ℕ × WorldFault) → Type 0
IsPlacedBy most o = (n : ℕ) (w : WorldFault) → o ≡ Some (n, w) → (n ≤ most) × (w ≡ Memory → ⊥)

either_placed : (most : ℕ) (c : Bool) (o p : Option (ℕ × WorldFault)) → IsPlacedBy most o → IsPlacedBy most p → IsPlacedBy most (if c then o else p)
either_placed most true o p h k = h
either_placed most false o p h k = k

abbrev number_in : Option (ℕ × WorldFault) → ℕ
number_in None = 0
number_in (Some p) = p.0

abbrev fault_in : Option (ℕ × WorldFault) → WorldFault
fault_in None = Header
fault_in (Some p) = p.1

pub pair_once : (p q : ℕ × WorldFault) → Some p ≡ Some q → (p.0 ≡ q.0) × (p.1 ≡ q.1)
pair_once p q e = (ap number_in e, ap fault_in e)

placed : (most n : ℕ) (w : WorldFault) → n ≤ most → (w ≡ Memory → ⊥) → IsPlacedBy most (Some (n, w))
placed most n w h k m v e =
    let s : (n ≡ m) × (w ≡ v) = pair_once (n, w) (m, v) e in
    (omega (arith, s.0, h), λ g. k (s.1 ∙ g))

no_place : (most : ℕ) → IsPlacedBy most None
no_place most n w e = absurd (cc)

further : (most more : ℕ) (o : Option (ℕ × WorldFault)) → most ≤ more → IsPlacedBy most o → IsPlacedBy more o
further most more o h k n w e = (omega (arith, h, (k n w e).0), (k n w e).1)

faulty_placed : (most n : ℕ) (o : Option WorldFault) (later : Option (ℕ × WorldFault)) → n ≤ most → IsPlain o → IsPlacedBy most later → IsPlacedBy most (faulty_or n o later)
faulty_placed most n (Some w) later h k l = placed most n w h (λ e. k (ap (λ (x : WorldFault). let y : Option WorldFault = Some x in y) e))
faulty_placed most n None later h k l = l

first_placed : (blocks : List Block) (n : ℕ) (ls : List (List ℕ)) → IsPlacedBy (n + length ls) (first_fault blocks n ls)
first_placed blocks n [] = no_place (n + 0)
first_placed blocks n (l ∷ ls) =
    let more : (bs : List Block) → IsPlacedBy (n + length (l ∷ ls)) (first_fault bs (n + 1) ls) = λ bs. further (n + 1 + length ls) (n + length (l ∷ ls)) (first_fault bs (n + 1) ls) (omega arith) (first_placed bs (n + 1) ls) in
    either_placed (n + length (l ∷ ls)) (is_blank_line l) (first_fault blocks (n + 1) ls) (faulty_or n (fault_said blocks (said_in l)) (first_fault (blocks ++ blocks_of (l ∷ [])) (n + 1) ls))
    (more blocks)
    (faulty_placed (n + length (l ∷ ls)) n (fault_said blocks (said_in l)) (first_fault (blocks ++ blocks_of (l ∷ [])) (n + 1) ls) (omega arith) (said_plain blocks (said_in l)) (more (blocks ++ blocks_of (l ∷ []))))

from_placed : (n : ℕ) (ls : List (List ℕ)) → 1 ≤ n → IsPlacedBy (n + length ls) (fault_from n ls)
from_placed n [] h = placed (n + 0) 1 Header (omega (arith, h)) (λ e. absurd (cc))
from_placed n (l ∷ ls) h =
    either_placed (n + length (l ∷ ls)) (is_blank_line l) (fault_from (n + 1) ls) (if is_header l then first_fault [] (n + 1) ls else Some (n, Header))
    (further (n + 1 + length ls) (n + length (l ∷ ls)) (fault_from (n + 1) ls) (omega arith) (from_placed (n + 1) ls (omega (arith, h))))
    (either_placed (n + length (l ∷ ls)) (is_header l) (first_fault [] (n + 1) ls) (Some (n, Header))
    (further (n + 1 + length ls) (n + length (l ∷ ls)) (first_fault [] (n + 1) ls) (omega arith) (first_placed [] (n + 1) ls))
    (placed (n + length (l ∷ ls)) n Header (omega arith) (λ e. absurd (cc))))

pub world_plain : (text : List ℕ) (n : ℕ) (w : WorldFault) → world_fault text ≡ Some (n, w) → w ≡ Memory → ⊥
world_plain text n w e = (from_placed 1 (lines text) (omega arith) n w e).1

-- how many lines a text has

record Cuts (text : List ℕ) : Type 0 where
  pub front : List ℕ
  pub rest : List ℕ
  pub cut : IsCut 10 text front rest

on_byte : (b : ℕ) (bs : List ℕ) (c : Bool) → (b == 10) ≡ c → Lacks 10 bs ⊎ Cuts bs → Lacks 10 (b ∷ bs) ⊎ Cuts (b ∷ bs)
on_byte b bs true e h = inr (record { front = []; rest = bs; cut = record { joined = ap (λ x. x ∷ bs) (eqb-true b 10 e); first = refl } })
on_byte b bs false e (inl h) = inl (rw e h)
on_byte b bs false e (inr h) = inr (record { front = b ∷ h.front; rest = h.rest; cut = record { joined = ap (λ xs. b ∷ xs) h.cut.joined; first = rw e h.cut.first } })

either_way : (text : List ℕ) → Lacks 10 text ⊎ Cuts text
either_way [] = inl refl
either_way (b ∷ bs) = on_byte b bs (b == 10) refl (either_way bs)

few_last : (text : List ℕ) → Lacks 10 text → length (lines text) ≤ length text
few_last [] l = omega arith
few_last (b ∷ bs) l = omega (arith, ap length (lines-last (b ∷ bs) (omega arith) l))

few_within : (most : ℕ) (text : List ℕ) → length text ≤ most → Lacks 10 text ⊎ Cuts text → length (lines text) ≤ length text
few_within most text h (inl l) = few_last text l
few_within zero text h (inr c) = absurd (omega (arith, h, ap length c.cut.joined, length-append c.front (10 ∷ c.rest)))
few_within (suc most) text h (inr c) =
    let shorter : length c.rest + 1 ≤ length text = omega (arith, ap length c.cut.joined, length-append c.front (10 ∷ c.rest)) in
    let more : length (lines c.rest) ≤ length c.rest = few_within most c.rest (omega (arith, h, shorter)) (either_way c.rest) in
    omega (arith, ap length (lines-cut text c.front c.rest c.cut), more, shorter)

few_lines : (text : List ℕ) → length (lines text) ≤ length text
few_lines text = few_within (length text) text (omega arith) (either_way text)

pub world_place : (text : List ℕ) (n : ℕ) (w : WorldFault) → world_fault text ≡ Some (n, w) → n ≤ 1 + length text
world_place text n w e = omega (arith, (from_placed 1 (lines text) (omega arith) n w e).0, few_lines text)
