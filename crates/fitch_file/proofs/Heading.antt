-- What a proof text spells behind its header.
use Rattle.std.proofs.Common.{◌≡◌, ℕ, ◌+◌, List, [], subst, Result, Ok, Err, inl, inr, IfErr}
use Rattle.std.specs.Prelude.{◌⊎◌}
use Rattle.std.specs.Str.Lines.{lines}
use Rattle.deriv_laws.specs.declared.line.FlatLine.{FlatLine}
use Rattle.physical_lines.specs.Physical.{IsHeaded, LacksHeader}
use Rattle.physical_lines.proofs.Heading.{headed_once, lacks_not_headed}
use Rattle.fitch_file.specs.Headers.{proof_header}
use Rattle.fitch_file.specs.ProofText.{SpellLines, SpellsProof}
use Rattle.fitch_file.specs.ProofFaults.{LinesFail, IsFirstFault, no_line}
use Rattle.fitch_file.specs.declared.fault.TextFault.{TextFault}
use Rattle.fitch_file.specs.declared.fault.TextFault.TheVariants.{Memory}

-- what the text spells is what follows its header
pub spelled_behind : (text : List ℕ) (n : ℕ) (rest : List (List ℕ)) (ls : List FlatLine) → IsHeaded proof_header (lines text) n rest → SpellsProof text ls → SpellLines [] rest ls
spelled_behind text n rest ls h s =
    subst (λ ts. SpellLines [] ts ls) (headed_once proof_header (lines text) s.place n s.rest rest s.headed h).rest_is s.spell

pub spelled_not_lacking : (text : List ℕ) (n : ℕ) (ls : List FlatLine) → LacksHeader proof_header (lines text) n → SpellsProof text ls → ⊥
spelled_not_lacking text n ls l s = lacks_not_headed proof_header (lines text) n s.place s.rest l s.headed

pub fault_behind : {X : Type 0} (text : List ℕ) (place : ℕ) (rest : List (List ℕ)) (r : Result X (ℕ × TextFault)) → IsHeaded proof_header (lines text) place rest →
    IfErr r (λ e. (e.1 ≡ Memory) ⊎ LinesFail [] (place + 1) rest e.0 e.1) → IfErr r (λ e. (e.1 ≡ Memory) ⊎ IsFirstFault text e.0 e.1)
fault_behind text place rest (Ok x) h f = tt
fault_behind text place rest (Err e) h (inl m) = inl m
fault_behind text place rest (Err e) h (inr f) = inr (no_line text place rest e.0 e.1 h f)
