-- The lines of a world text, one by one.
use Rattle.std.proofs.Common.{◌≡◌, ℕ, ◌+◌, ◌<◌, ◌≤◌, Bool, true, false, List, [], ◌∷◌, ◌++◌, length, arith, refl, sym, ap, subst, ◌∙◌, append-nil}
use Rattle.std.proofs.lemmas.List.{append_assoc}
use Rattle.std.proofs.lemmas.Bool.{and_parts}
use Rattle.std.specs.Prelude.{Option, Some, None, if◌then◌else◌}
use Rattle.std.specs.List.{cons_option}
use Rattle.std.specs.Str.Lines.{lines}
use Rattle.texts.specs.Blanks.{is_blank}
use Rattle.worlds.specs.declared.block.Block.{Block}
use Rattle.world_text.specs.declared.squares.Squares.{Squares}
use Rattle.world_text.specs.declared.reading.WorldFault.{WorldFault}
use Rattle.world_text.specs.declared.reading.WorldFault.TheVariants.{Header}
use Rattle.world_text.specs.Lines.{is_blank_line, is_header, behind_header, words}
use Rattle.world_text.specs.BlockLines.{Said, said_in, said_by, block_said, blocks_of}
use Rattle.world_text.specs.WorldText.{fault_said, faulty_or, first_fault, fault_from}
use Rattle.world_text.specs.inside.Squares.{Holds}

-- The reader is at the rest: the blocks of the lines before it stand on the board, and none of these lines is faulty.
pub record Reads (header : ℕ) (text : List ℕ) (place : ℕ) (rest : List ℕ) (board : Squares) : Type 0 where
  pub seen : List Block
  pub holds : Holds seen board
  pub fault : first_fault [] (header + 1) (lines text) ≡ first_fault seen (place + 1) (lines rest)
  pub blocks : blocks_of (lines text) ≡ seen ++ blocks_of (lines rest)
  pub within : place + length rest ≤ header + length text

pub reads_start : (header : ℕ) (text : List ℕ) (board : Squares) → Holds [] board → Reads header text header text board
reads_start header text board h = record { seen = []; holds = h; fault = refl; blocks = refl; within = omega arith }

-- Nothing where the test passes.
abbrev unless : Bool → Option Said → Option Said
unless t o = if t then None else o

blank_says : (line : List ℕ) → is_blank_line line ≡ true → said_in line ≡ None
blank_says [] h = refl
blank_says (b ∷ bs) h =
    let e : is_blank b ≡ true = (and_parts (is_blank b) (is_blank_line bs) h).0 in
    ap (λ t. unless t (said_by (words (b ∷ bs)))) e

one_more : (o : Option Block) (bs : List Block) → cons_option o bs ≡ cons_option o [] ++ bs
one_more None bs = refl
one_more (Some b) bs = refl

blocks_more : (line : List ℕ) (ls : List (List ℕ)) → blocks_of (line ∷ ls) ≡ blocks_of (line ∷ []) ++ blocks_of ls
blocks_more line ls = one_more (block_said (said_in line)) (blocks_of ls)

blank_blocks : (line : List ℕ) (ls : List (List ℕ)) → is_blank_line line ≡ true → blocks_of (line ∷ ls) ≡ blocks_of ls
blank_blocks line ls h = ap (λ o. cons_option (block_said o) (blocks_of ls)) (blank_says line h)

blank_fault : (seen : List Block) (n : ℕ) (line : List ℕ) (ls : List (List ℕ)) → is_blank_line line ≡ true → first_fault seen n (line ∷ ls) ≡ first_fault seen (n + 1) ls
blank_fault seen n line ls h = rw h refl

pub reads_blank : (header : ℕ) (text : List ℕ) (place : ℕ) (rest line after : List ℕ) (board : Squares) → Reads header text place rest board →
    lines rest ≡ line ∷ lines after → length after < length rest → is_blank_line line ≡ true → Reads header text (place + 1) after board
reads_blank header text place rest line after board r e s h = record {
  seen = r.seen;
  holds = r.holds;
  fault = r.fault ∙ ap (first_fault r.seen (place + 1)) e ∙ blank_fault r.seen (place + 1) line (lines after) h;
  blocks = r.blocks ∙ ap (λ ls. r.seen ++ blocks_of ls) e ∙ ap (λ bs. r.seen ++ bs) (blank_blocks line (lines after) h);
  within = omega (arith, r.within, s);
}

line_fault : (seen : List Block) (n : ℕ) (line : List ℕ) (ls : List (List ℕ)) → is_blank_line line ≡ false →
    first_fault seen n (line ∷ ls) ≡ faulty_or n (fault_said seen (said_in line)) (first_fault (seen ++ blocks_of (line ∷ [])) (n + 1) ls)
line_fault seen n line ls h = rw h refl

pub reads_block : (header : ℕ) (text : List ℕ) (place : ℕ) (rest line after : List ℕ) (board next : Squares) → (r : Reads header text place rest board) →
    lines rest ≡ line ∷ lines after → length after < length rest → is_blank_line line ≡ false →
    ((seen : List Block) → Holds seen board → fault_said seen (said_in line) ≡ None) →
    ((seen : List Block) → Holds seen board → Holds (seen ++ blocks_of (line ∷ [])) next) → Reads header text (place + 1) after next
reads_block header text place rest line after board next r e s h f p = record {
  seen = r.seen ++ blocks_of (line ∷ []);
  holds = p r.seen r.holds;
  fault = r.fault ∙ ap (first_fault r.seen (place + 1)) e ∙ line_fault r.seen (place + 1) line (lines after) h
      ∙ ap (λ o. faulty_or (place + 1) o (first_fault (r.seen ++ blocks_of (line ∷ [])) (place + 1 + 1) (lines after))) (f r.seen r.holds);
  blocks = r.blocks ∙ ap (λ ls. r.seen ++ blocks_of ls) e ∙ ap (λ bs. r.seen ++ bs) (blocks_more line (lines after)) ∙ sym (append_assoc r.seen (blocks_of (line ∷ [])) (blocks_of (lines after)));
  within = omega (arith, r.within, s);
}

pub reads_fault : (header : ℕ) (text : List ℕ) (place : ℕ) (rest line after : List ℕ) (board : Squares) (fault : WorldFault) → Reads header text place rest board →
    lines rest ≡ line ∷ lines after → is_blank_line line ≡ false → ((seen : List Block) → Holds seen board → fault_said seen (said_in line) ≡ Some fault) →
    first_fault [] (header + 1) (lines text) ≡ Some (place + 1, fault)
reads_fault header text place rest line after board fault r e h f =
    r.fault ∙ ap (first_fault r.seen (place + 1)) e ∙ line_fault r.seen (place + 1) line (lines after) h
    ∙ ap (λ o. faulty_or (place + 1) o (first_fault (r.seen ++ blocks_of (line ∷ [])) (place + 1 + 1) (lines after))) (f r.seen r.holds)

pub reads_end : (header : ℕ) (text : List ℕ) (place : ℕ) (rest : List ℕ) (board : Squares) → Reads header text place rest board → rest ≡ [] →
    (first_fault [] (header + 1) (lines text) ≡ None) × Holds (blocks_of (lines text)) board
reads_end header text place rest board r e =
    let none : lines rest ≡ [] = ap lines e in (
      r.fault ∙ ap (first_fault r.seen (place + 1)) none,
      subst (λ bs. Holds bs board) (sym (r.blocks ∙ ap (λ ls. r.seen ++ blocks_of ls) none ∙ append-nil r.seen)) r.holds,
    )

-- the lines up to the header

pub header_blank : (n : ℕ) (rest line after : List ℕ) → lines rest ≡ line ∷ lines after → is_blank_line line ≡ true →
    (fault_from n (lines rest) ≡ fault_from (n + 1) (lines after)) × (behind_header (lines rest) ≡ behind_header (lines after))
header_blank n rest line after e h = rw e (rw h (refl, refl))

pub header_here : (n : ℕ) (rest line after : List ℕ) → lines rest ≡ line ∷ lines after → is_blank_line line ≡ false → is_header line ≡ true →
    (fault_from n (lines rest) ≡ first_fault [] (n + 1) (lines after)) × (behind_header (lines rest) ≡ lines after)
header_here n rest line after e h k = rw e (rw h (rw k (refl, refl)))

pub header_missing : (n : ℕ) (rest line after : List ℕ) → lines rest ≡ line ∷ lines after → is_blank_line line ≡ false → is_header line ≡ false →
    fault_from n (lines rest) ≡ Some (n, Header)
header_missing n rest line after e h k = rw e (rw h (rw k refl))
