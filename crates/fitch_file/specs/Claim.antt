-- What a proof line claims behind its bars: a box, the text of a sentence, a rule, and the text of its cites.
use Rattle.std.specs.Prelude.{◌≡◌, ℕ, Bool, true, false, not, ◌&&◌, List, [], ◌∷◌, Option, Some, None}
use Rattle.std.specs.Option.{is_some}
use Rattle.texts.specs.Blanks.{trimmed}
use Rattle.texts.specs.Cuts.{Lacks, IsCut}
use Rattle.fol_core.specs.Word.{Word}
use Rattle.deriv_laws.specs.declared.rule.Rule.{Rule}
use Rattle.deriv_laws.specs.declared.rule.Rule.TheVariants as r
use Rattle.fitch_file.specs.Boxes.{IsBoxed}
use Rattle.fitch_file.specs.RuleNames.{IsRuleName}

-- The text has no byte.
abbrev pub is_nothing : List ℕ → Bool
is_nothing [] = true
is_nothing (b ∷ bs) = false

-- The box and the sentence's text suit the rule: a rule that opens a subproof by a box alone has a box and no sentence,
-- an assumption has a sentence and may have a box, and each other rule has a sentence and no box.
abbrev pub suits : Rule → Option Word → List ℕ → Bool
suits r.BoxOnly boxed stated = is_some boxed && is_nothing stated
suits r.Assume boxed stated = not (is_nothing stated)
suits _ boxed stated = not (is_some boxed) && not (is_nothing stated)

-- The box, the sentence's text without the blanks at its ends, the rule, and the text after the colon where there is one.
pub record Claim : Type 0 where
  pub boxed : Option Word
  pub stated : List ℕ
  pub rule : Rule
  pub cites : Option (List ℕ)

-- The text is the rule's name, or that and, behind the first colon, the text of the cites.
abbrev pub IsReason : List ℕ → Rule → Option (List ℕ) → Type 0
IsReason text rule None = Lacks 58 text × IsRuleName (trimmed text) rule
IsReason text rule (Some cites) = (name : List ℕ) × IsCut 58 text name cites × IsRuleName (trimmed name) rule

-- The text claims this: a box or none, the sentence's text up to the first semicolon, and the reason. The box and the
-- sentence suit the rule.
pub record IsClaim (text : List ℕ) (claim : Claim) : Type 0 where
  pub rest : List ℕ
  pub sentence : List ℕ
  pub reason : List ℕ
  pub boxed : IsBoxed text claim.boxed rest
  pub parted : IsCut 59 rest sentence reason
  pub stated : claim.stated ≡ trimmed sentence
  pub reasoned : IsReason reason claim.rule claim.cites
  pub suited : suits claim.rule claim.boxed claim.stated ≡ true
