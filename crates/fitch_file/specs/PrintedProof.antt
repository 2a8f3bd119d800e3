-- How the lines of a proof are printed, and which of them are read back.
use Rattle.std.specs.Prelude.{◌≡◌, ℕ, zero, suc, ◌+◌, ◌≤◌, Bool, true, false, List, [], ◌∷◌, ◌++◌, codes, length, map, Option, Some, None, Ok}
use Rattle.std.specs.Fmt.{decimal}
use Rattle.fol_core.specs.Word.{Word, is_name}
use Rattle.fol_core.specs.Formed.{formed}
use Rattle.fol_core.specs.Closed.{closed}
use Rattle.fol_core.specs.Size.{within_limits}
use Rattle.fol_core.specs.declared.sent.Sent.{Sent}
use Rattle.fol_text.specs.Readable.{most_bytes}
use Rattle.fol_text.specs.Printed.{printed, separated}
use Rattle.deriv_laws.specs.declared.line.Cite.{Cite}
use Rattle.deriv_laws.specs.declared.line.FlatLine.{FlatLine}
use Rattle.fitch_file.specs.declared.rule_names.RuleName.{RuleName}
use Rattle.fitch_file.specs.declared.rule_names.RuleName.TheVariants.{OneWord, Consequence, Introduction, Elimination}
use Rattle.fitch_file.specs.RuleNames.{name_of, word_text, typed}
use Rattle.fitch_file.specs.Headers.{proof_header}

-- A rule's name with the typed sign, and one space between its two words.
abbrev pub name_text : RuleName → List ℕ
name_text (OneWord w) = word_text w
name_text (Consequence w) = word_text w ++ codes " Con"
name_text (Introduction s) = typed s ∷ codes " Intro"
name_text (Elimination s) = typed s ∷ codes " Elim"

-- So many bars, each with a space behind it.
abbrev pub bars_text : ℕ → List ℕ
bars_text zero = []
bars_text (suc n) = 124 ∷ 32 ∷ bars_text n

-- A box and a space, or nothing.
abbrev pub box_text : Option Word → List ℕ
box_text None = []
box_text (Some c) = 91 ∷ c ++ 93 ∷ 32 ∷ []

-- The text of a sentence and a space, or nothing.
abbrev pub stated_text : Option Sent → List ℕ
stated_text None = []
stated_text (Some s) = printed s ++ 32 ∷ []

-- A subproof is cited by its first and its last line with a hyphen between them.
abbrev pub range_end : Bool → ℕ → List ℕ
range_end false last = []
range_end true last = 45 ∷ decimal last

-- A cite is the number of a line, or a range for a subproof.
abbrev pub cite_text : Cite → List ℕ
cite_text c = decimal c.first ++ range_end c.sub c.last

-- A colon before the cites, and a comma between them, each with a space behind it; nothing where there is no cite.
abbrev pub cites_text : List Cite → List ℕ
cites_text [] = []
cites_text (c ∷ cs) = 58 ∷ 32 ∷ separated (44 ∷ 32 ∷ []) (map cite_text (c ∷ cs))

-- What a line names behind its semicolon: the rule, and the cites.
abbrev pub reason_text : FlatLine → List ℕ
reason_text l = name_text (name_of l.rule) ++ cites_text l.cites

-- What a line claims behind its bars: the box, the sentence, and behind a semicolon and a space the reason.
abbrev pub claim_text : FlatLine → List ℕ
claim_text l = box_text l.boxed ++ (stated_text l.sentence ++ 59 ∷ 32 ∷ reason_text l)

-- The line with this number: one space between two parts.
abbrev pub printed_line : ℕ → FlatLine → List ℕ
printed_line n l = decimal n ++ 32 ∷ (bars_text l.depth ++ claim_text l)

-- The lines, numbered from n on, each with a line feed behind it.
abbrev pub printed_lines : ℕ → List FlatLine → List ℕ
printed_lines n [] = []
printed_lines n (l ∷ ls) = printed_line n l ++ 10 ∷ printed_lines (n + 1) ls

-- The header and the lines, numbered from 1 on.
abbrev pub printed_proof : List FlatLine → List ℕ
printed_proof ls = proof_header ++ 10 ∷ printed_lines 1 ls

-- The sentence is read back from its text: it is well formed, closed and within the limits, and its text is short enough.
pub record HasReadableText (s : Sent) : Type 0 where
  pub formed : formed s ≡ true
  pub closed : closed s ≡ true
  pub within : within_limits s ≡ Ok tt
  pub short : length (printed s) ≤ most_bytes

-- So it is where there is a sentence.
abbrev pub StatesReadableText : Option Sent → Type 0
StatesReadableText None = Unit {0}
StatesReadableText (Some s) = HasReadableText s

-- What is boxed is a name, where something is.
abbrev pub BoxesName : Option Word → Type 0
BoxesName None = Unit {0}
BoxesName (Some c) = is_name c ≡ true

-- The line is read back: a constant that it boxes is a name, and a sentence that it states is read back.
pub record IsReadBack (l : FlatLine) : Type 0 where
  pub boxes : BoxesName l.boxed
  pub states : StatesReadableText l.sentence
