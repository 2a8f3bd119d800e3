-- Plays as text: four lines, with blank lines anywhere among them, and then a world text.
use Rattle.std.specs.Prelude.{◌≡◌, ℕ, ◌+◌, List, None}
use Rattle.physical_lines.specs.Physical.{IsHeader}
use Rattle.physical_lines.specs.Leading.{LeadsTo}
use Rattle.worlds.specs.declared.block.Block.{Block}
use Rattle.world_text.specs.WorldText.{world_fault, world_of}
use Rattle.play_text.specs.declared.play.Play.{Play}
use Rattle.play_text.specs.PlayLines.{play_header, IsSentenceLine, IsCommitLine, IsChoicesLine}

-- `Next Is Then place text`: the text follows the physical line `place`, or is the whole text where that is 0. Its next line
-- that isn't blank is of this kind, and the rest holds of the number of that line and of the text that follows it.
pub record Next (Is : List ℕ → Type 0) (Then : ℕ → List ℕ → Type 0) (place : ℕ) (text : List ℕ) : Type 0 where
  pub number : ℕ
  pub line : List ℕ
  pub behind : List ℕ
  pub leads : LeadsTo (place + 1) text number line behind
  pub is : Is line
  pub on : Then number behind

-- The text is a world text, and this is its world.
pub record IsWorldText (world : List Block) (place : ℕ) (text : List ℕ) : Type 0 where
  pub faultless : world_fault text ≡ None
  pub is : world ≡ world_of text

-- Behind the header: the lines of the sentence, the commitment and the choices in this order, and then a world text.
abbrev pub SpellsBehind : Play → ℕ → List ℕ → Type 0
SpellsBehind play place text =
    Next (IsSentenceLine play.sentence)
    (Next (IsCommitLine play.commitment)
    (Next (IsChoicesLine play.choices)
    (IsWorldText play.world)))
    place text

-- The text is the header, and behind it the play.
abbrev pub SpellsPlay : List ℕ → Play → Type 0
SpellsPlay text play = Next (IsHeader play_header) (SpellsBehind play) 0 text
