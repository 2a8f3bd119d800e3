-- The positions of the game, who moves in each, and where a move can lead.
use Rattle.std.specs.Prelude.{ℕ, Bool, true, false, not, List, [], ◌∷◌, ◌++◌, map}
use Rattle.fol_core.specs.Word.{Word}
use Rattle.fol_core.specs.declared.sent.Sent.{Sent, out-Sent}
use Rattle.fol_core.specs.declared.sent.Sent.TheVariants as s
use Rattle.fol_core.specs.declared.sent.Sent.TheOpen.{Sent-F}
use Rattle.fol_core.specs.declared.sent.Sent.TheOpen as f
use Rattle.worlds.specs.declared.block.Block.{Block}
use Rattle.worlds.specs.Assignments.{Assignment, own_names}
use Rattle.world_truth.specs.Places.{given}
use Rattle.worlds.specs.Truth.{val, are_alike}
use Rattle.worlds.specs.Worlds.{numbers}
use Rattle.hintikka_game.specs.declared.position.Position.{Position}

-- Whose move it is: the player's, the machine's, or nobody's, where a negation, a conditional or a value decides.
pub data Side : Type 0 where
  Player Computer Negation Conditional Value : Side

-- Who chooses a disjunct or a block that makes a sentence true: the player where committed to true, else the machine.
abbrev pub verifier : Bool → Side
verifier true = Player
verifier false = Computer

-- Who chooses a conjunct or a block that makes a sentence false: the other one.
abbrev pub falsifier : Bool → Side
falsifier true = Computer
falsifier false = Player

-- Whose move it is at each form of sentence, under a commitment.
abbrev pub side_at : Bool → Sent-F Sent → Side
side_at c (f.Atom p ts) = Value
side_at c (f.Eq t u) = Value
side_at c f.Bottom = Value
side_at c (f.Not p) = Negation
side_at c (f.And ps) = falsifier c
side_at c (f.Or ps) = verifier c
side_at c (f.If p q) = Conditional
side_at c (f.Iff p q) = Conditional
side_at c (f.All x p) = falsifier c
side_at c (f.Ex x p) = verifier c

-- Whose move it is in a position.
abbrev pub side : Position → Side
side p = side_at p.commitment (out-Sent p.sentence)

-- The same position but for its sentence.
abbrev pub at_sentence : Position → Sent → Position
at_sentence p q = record { sentence = q; places = p.places; commitment = p.commitment }

-- The part of a quantified sentence, with a block for its variable.
abbrev pub at_block : Position → Word → Sent → ℕ → Position
at_block p x q k = record { sentence = q; places = p.places ++ record { variable = x; block = k } ∷ []; commitment = p.commitment }

-- The positions that a move can lead to at each form of sentence, one for each alternative. A negation turns the commitment
-- round. `P $ Q` becomes `~P | Q`, and `P % Q` becomes `(P $ Q) & (Q $ P)`. The alternatives of a conjunction and a
-- disjunction are its parts, those of a quantified sentence are the blocks.
abbrev pub nexts_at : List Block → Position → Sent-F Sent → List Position
nexts_at w p (f.Atom q ts) = []
nexts_at w p (f.Eq t u) = []
nexts_at w p f.Bottom = []
nexts_at w p (f.Not q) = record { sentence = q; places = p.places; commitment = not p.commitment } ∷ []
nexts_at w p (f.And qs) = map (at_sentence p) qs
nexts_at w p (f.Or qs) = map (at_sentence p) qs
nexts_at w p (f.If q r) = at_sentence p (s.Or (s.Not q ∷ r ∷ [])) ∷ []
nexts_at w p (f.Iff q r) = at_sentence p (s.And (s.If q r ∷ s.If r q ∷ [])) ∷ []
nexts_at w p (f.All x q) = map (at_block p x q) (numbers w)
nexts_at w p (f.Ex x q) = map (at_block p x q) (numbers w)

-- The positions that a move can lead to.
abbrev pub nexts : List Block → Position → List Position
nexts w p = nexts_at w p (out-Sent p.sentence)

-- What the names and the free variables of a position stand for.
abbrev pub assigned : List Block → Position → Assignment
assigned w p = given p.places (own_names w)

-- The commitment of the position is the value of its sentence.
abbrev pub is_kept : List Block → Position → Bool
is_kept w p = are_alike p.commitment (val w (assigned w p) p.sentence)
