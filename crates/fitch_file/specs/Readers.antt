-- What the parts of the reader answer, each about the piece of text that it is given.
use Rattle.std.specs.Prelude.{◌≡◌, ℕ, ◌≤◌, Bool, true, false, List, [], ◌∷◌, ◌++◌, length, Option, Some, None, ◌⊎◌}
use Rattle.std.specs.Option.{option_copied}
use Rattle.deriv_laws.specs.declared.line.Cite.{Cite}
use Rattle.deriv_laws.specs.declared.line.FlatLine.{FlatLine}
use Rattle.deriv_laws.specs.declared.rule.Rule.{Rule}
use Rattle.fol_core.specs.Word.{is_ident}
use Rattle.fol_text.specs.declared.fault.ReadFault.{ReadFault}
use Rattle.fol_text.specs.declared.fault.ReadFault.TheVariants as read_fault
use Rattle.fitch_file.specs.declared.fault.TextFault.{TextFault}
use Rattle.fitch_file.specs.declared.fault.TextFault.TheVariants.{Sentence, Memory}
use Rattle.physical_lines.specs.Physical.{IsBlankLine}
use Rattle.fitch_file.specs.Cites.{IsPart}
use Rattle.fitch_file.specs.Claim.{Claim, IsReason, IsClaim}
use Rattle.fitch_file.specs.Line.{IsLine}
use Rattle.fitch_file.specs.declared.claim.Claim.{Claim as ReadClaim}
use Rattle.fitch_file.specs.declared.claim.Reason.{Reason as ReadReason}

-- What was found is so; where nothing was found, nothing is so.
abbrev pub Finds : {X : Type 0} → (X → Type 0) → Option X → Type 0
Finds P (Some x) = P x
Finds {X} P None = (x : X) → P x → ⊥

-- The cite that the text is was put last, and there are at most 64; or the text is none, or there are 64 already.
abbrev pub TakesCite : List ℕ → List Cite → List Cite → Bool → Type 0
TakesCite text old new true = (c : Cite) × (new ≡ old ++ c ∷ []) × IsPart text c × (length new ≤ 64)
TakesCite text old new false = ((c : Cite) → IsPart text c → ⊥) ⊎ (64 ≤ length old)

-- The claim that was read, without the places in memory where its parts stand.
abbrev pub claim_of : ReadClaim → Claim
claim_of c = record { boxed = option_copied c.boxed; stated = c.stated.now; rule = c.rule; cites = option_copied c.cites }

-- The text claims what was read; where nothing was read, it claims nothing.
abbrev pub FindsClaim : List ℕ → Option ReadClaim → Type 0
FindsClaim text (Some c) = IsClaim text (claim_of c)
FindsClaim text None = (c : Claim) → IsClaim text c → ⊥

-- The text is the reason that was read; where nothing was read, it is none.
abbrev pub FindsReason : List ℕ → Option ReadReason → Type 0
FindsReason text (Some x) = IsReason text x.rule (option_copied x.cites)
FindsReason text None = (rule : Rule) (cites : Option (List ℕ)) → IsReason text rule cites → ⊥

-- Nothing was put last for a blank line, and for another the line that it is.
abbrev pub PutsLine : List ℕ → List FlatLine → List FlatLine → Type 0
PutsLine text old new = (IsBlankLine text × (new ≡ old)) ⊎ ((l : FlatLine) × IsLine old text l × (new ≡ old ++ l ∷ []))

-- Where a name is boxed, it is an identifier.
abbrev pub IsWordIfAny : Option (List ℕ) → Type 0
IsWordIfAny None = Unit {0}
IsWordIfAny (Some w) = is_ident w ≡ true

-- The fault of a line whose sentence is refused, or the want of memory.
abbrev pub sentence_fault : ReadFault → TextFault
sentence_fault read_fault.Memory = Memory
sentence_fault fault = Sentence fault
