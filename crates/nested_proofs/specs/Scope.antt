-- The scope: what may be cited, and what the cites of a line find in it.
use Rattle.std.specs.Prelude.{ℕ, ◌==◌, ◌&&◌, if◌then◌else◌, List, [], ◌∷◌, Option, Some, None}
use Rattle.fol_core.specs.declared.sent.Sent.{Sent}
use Rattle.fol_core.specs.Word.{Word}
use Rattle.deriv_laws.specs.declared.line.Cite.{Cite}

-- A sentence with the number of its line.
pub record Numbered : Type 0 where
  pub number : ℕ
  pub sentence : Sent

-- A subproof that is closed: its first and its last line, the constant that it boxes, if any, its
-- assumption, if any, as the hypothesis, and the last sentence of its own list of items, if any.
pub record Subproof : Type 0 where
  pub first : ℕ
  pub last : ℕ
  pub boxed : Option Word
  pub hypothesis : Option Sent
  pub conclusion : Option Sent

-- What a line may cite: sentences, and closed subproofs, the latest first.
pub record Scope : Type 0 where
  pub sentences : List Numbered
  pub subproofs : List Subproof

-- The list, with one item before it where there is one.
abbrev pub prepend : {X : Type 0} → Option X → List X → List X
prepend None xs = xs
prepend (Some x) xs = x ∷ xs

-- The sentence in scope with this number, if there is one.
abbrev pub sentence_at : ℕ → List Numbered → Option Sent
sentence_at n [] = None
sentence_at n (x ∷ xs) = if x.number == n then Some x.sentence else sentence_at n xs

-- The closed subproof in scope with this first and this last line, if there is one.
abbrev pub subproof_at : ℕ → ℕ → List Subproof → Option Subproof
subproof_at n m [] = None
subproof_at n m (x ∷ xs) = if (x.first == n) && (x.last == m) then Some x else subproof_at n m xs

-- The sentences that the cites name, in the order of the cites; a cite that finds none adds none.
abbrev pub cited_sentences : Scope → List Cite → List Sent
cited_sentences sc [] = []
cited_sentences sc (c ∷ cs) = if c.sub then cited_sentences sc cs else prepend (sentence_at c.first sc.sentences) (cited_sentences sc cs)

-- The subproofs that the cites name, in the order of the cites; a cite that finds none adds none.
abbrev pub cited_subproofs : Scope → List Cite → List Subproof
cited_subproofs sc [] = []
cited_subproofs sc (c ∷ cs) = if c.sub then prepend (subproof_at c.first c.last sc.subproofs) (cited_subproofs sc cs) else cited_subproofs sc cs
