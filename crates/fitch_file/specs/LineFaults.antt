-- The first test that a line of a proof text fails.
use Rattle.std.specs.Prelude.{◌≡◌, ◌≢◌, ℕ, ◌+◌, ◌<◌, List, [], length, Option, ◌⊎◌}
use Rattle.fol_core.specs.declared.sent.Sent.{Sent}
use Rattle.fol_text.specs.declared.fault.ReadFault.{ReadFault}
use Rattle.fol_text.specs.Refusals.{IsRefused}
use Rattle.deriv_laws.specs.declared.line.Cite.{Cite}
use Rattle.deriv_laws.specs.declared.line.FlatLine.{FlatLine}
use Rattle.nested_proofs.specs.Limits.{DepthFits, depth_after}
use Rattle.fitch_file.specs.Numbering.{IsNumbered, IsDepth, bars, after_bars}
use Rattle.fitch_file.specs.Claim.{Claim, IsClaim}
use Rattle.fitch_file.specs.Cites.{AreCited}
use Rattle.fitch_file.specs.Line.{IsStated}
use Rattle.fitch_file.specs.declared.fault.TextFault.{TextFault}
use Rattle.fitch_file.specs.declared.fault.TextFault.TheVariants.{Number, Depth, Sentence, RuleName, Cite as BadCite, TooManyLines}

-- One test, and the tests after it. Nothing passes this test, and its fault is the first; or something passes it, and a
-- later test fails on that.
abbrev pub Fails : {X : Type 0} → (X → Type 0) → TextFault → (X → TextFault → Type 0) → TextFault → Type 0
Fails {X} Passes fault Later first = (((x : X) → Passes x → ⊥) × (first ≡ fault)) ⊎ ((x : X) × Passes x × Later x first)

-- The same for a test of a fact.
abbrev pub FailsUnless : Type 0 → TextFault → (TextFault → Type 0) → TextFault → Type 0
FailsUnless P fault Later first = ((P → ⊥) × (first ≡ fault)) ⊎ (P × Later first)

-- The text of a sentence is there and is refused.
pub record IsRefusedSentence (text : List ℕ) (fault : ReadFault) : Type 0 where
  pub there : text ≢ []
  pub refused : IsRefused text fault

-- No test is left.
abbrev pub NoneFails : TextFault → Type 0
NoneFails first = ⊥

-- Seventh, the cites.
abbrev pub CitesFail : Claim → TextFault → Type 0
CitesFail claim first = Fails (AreCited claim.rule claim.cites) BadCite (λ (cites : List Cite). NoneFails) first

-- Sixth, the sentence, with the fault of its text.
abbrev pub SentenceFails : Claim → TextFault → Type 0
SentenceFails claim first =
    ((fault : ReadFault) × (first ≡ Sentence fault) × IsRefusedSentence claim.stated fault)
    ⊎ ((s : Option Sent) × IsStated claim.stated s × CitesFail claim first)

-- Fifth, the depth by the rules on subproofs.
abbrev pub NestingFails : ℕ → ℕ → Claim → TextFault → Type 0
NestingFails before depth claim first = FailsUnless (DepthFits before claim.rule depth) Depth (SentenceFails claim) first

-- Fourth, the claim: the semicolon, the rule's name, and what must stand before it and what mustn't.
abbrev pub ClaimFails : ℕ → List ℕ → TextFault → Type 0
ClaimFails before body first = Fails (IsClaim (after_bars body)) RuleName (NestingFails before (bars body)) first

-- Third, the number of bars.
abbrev pub BarsFail : ℕ → List ℕ → TextFault → Type 0
BarsFail before body first = FailsUnless (IsDepth (bars body)) Depth (ClaimFails before body) first

-- Second, the number of the line.
abbrev pub NumberFails : ℕ → ℕ → List ℕ → TextFault → Type 0
NumberFails number before text first = Fails (IsNumbered number text) Number (BarsFail before) first

-- After the earlier lines, this is the first test that the text fails. The first test of all is whether there is room for
-- another line.
abbrev pub LineFails : List FlatLine → List ℕ → TextFault → Type 0
LineFails earlier text first = FailsUnless (length earlier < 2000) TooManyLines (NumberFails (length earlier + 1) (depth_after 1 earlier) text) first
