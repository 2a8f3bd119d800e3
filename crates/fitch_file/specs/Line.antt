-- The lines of a proof as text.
use Rattle.std.specs.Prelude.{◌≡◌, ◌≢◌, ℕ, ◌+◌, ◌<◌, List, [], length, Option, Some, None}
use Rattle.fol_core.specs.declared.sent.Sent.{Sent}
use Rattle.fol_text.specs.Readable.{IsReadable}
use Rattle.deriv_laws.specs.declared.line.FlatLine.{FlatLine}
use Rattle.nested_proofs.specs.Limits.{DepthFits, depth_after}
use Rattle.fitch_file.specs.Numbering.{IsNumbered, IsDepth, bars, after_bars}
use Rattle.fitch_file.specs.Claim.{Claim, IsClaim}
use Rattle.fitch_file.specs.Cites.{AreCited}

-- The sentence that the text states, or none where there is no text.
abbrev pub IsStated : List ℕ → Option Sent → Type 0
IsStated text None = text ≡ []
IsStated text (Some s) = (text ≢ []) × IsReadable text s

-- The line of this depth with this claim: what it boxes, states and cites.
pub record IsClaimed (depth : ℕ) (claim : Claim) (l : FlatLine) : Type 0 where
  pub deep : l.depth ≡ depth
  pub boxes : l.boxed ≡ claim.boxed
  pub rules : l.rule ≡ claim.rule
  pub stated : IsStated claim.stated l.sentence
  pub cited : AreCited claim.rule claim.cites l.cites

-- After the earlier lines, the text is this line. It has the next number and one to 30 bars, and its depth fits the depth
-- of the line before.
pub record IsLine (earlier : List FlatLine) (text : List ℕ) (l : FlatLine) : Type 0 where
  pub room : length earlier < 2000
  pub body : List ℕ
  pub numbered : IsNumbered (length earlier + 1) text body
  pub depth : IsDepth (bars body)
  pub claim : Claim
  pub claims : IsClaim (after_bars body) claim
  pub fits : DepthFits (depth_after 1 earlier) claim.rule (bars body)
  pub claimed : IsClaimed (bars body) claim l
