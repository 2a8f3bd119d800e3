-- How a sentence is printed.
use Rattle.std.specs.Prelude.{ℕ, Bool, true, false, List, [], ◌∷◌, ◌++◌, map}
use Rattle.fol_core.specs.Word.{Word}
use Rattle.fol_core.specs.declared.sent.Term.{Term}
use Rattle.fol_core.specs.declared.sent.Term.TheOpen.{Term-F}
use Rattle.fol_core.specs.declared.sent.Term.TheOpen as t
use Rattle.fol_core.specs.declared.sent.Term.TheFolds.{fold-Term}
use Rattle.fol_core.specs.declared.sent.Sent.{Sent}
use Rattle.fol_core.specs.declared.sent.Sent.TheOpen.{Sent-F}
use Rattle.fol_core.specs.declared.sent.Sent.TheOpen as f
use Rattle.fol_core.specs.declared.sent.Sent.TheFolds.{fold-Sent}

-- The texts in their order, with the separator between them.
abbrev pub separated : List ℕ → List (List ℕ) → List ℕ
separated by [] = []
separated by (t ∷ []) = t
separated by (t ∷ u ∷ ts) = t ++ by ++ separated by (u ∷ ts)

-- The text in parentheses.
abbrev pub in_parentheses : List ℕ → List ℕ
in_parentheses t = 40 ∷ t ++ 41 ∷ []

-- One form of term: its word, and behind a function's symbol its arguments in parentheses and commas between them.
abbrev pub term_step : Term-F (List ℕ) → List ℕ
term_step (t.Var x) = x
term_step (t.Name n) = n
term_step (t.App g us) = g ++ in_parentheses (separated (44 ∷ []) us)

-- The text of a term, without blanks.
abbrev pub term_text : Term → List ℕ
term_text = fold-Term (List ℕ) term_step

-- A predicate alone, or with its terms in parentheses and commas between them.
abbrev pub atom_text : Word → List Term → List ℕ
atom_text p [] = p
atom_text p (t ∷ ts) = p ++ in_parentheses (separated (44 ∷ []) (map term_text (t ∷ ts)))

-- The terms of an equation with ` = ` between them, or ` # ` where it is denied.
abbrev pub between : List ℕ → ℕ → List ℕ → List ℕ
between s sign t = s ++ 32 ∷ sign ∷ 32 ∷ t

-- What is printed of a sentence that stands alone, of one that is a part, and of its negation.
pub record Texts : Type 0 where
  pub alone : List ℕ
  pub part : List ℕ
  pub denied : List ℕ

-- A sentence without a connective at its top is the same text alone and as a part, and its negation is `~` before it.
abbrev pub plain : List ℕ → Texts
plain t = record { alone = t; part = t; denied = 126 ∷ t }

-- A sentence joined by a connective stands in parentheses where it is a part and where it is denied.
abbrev pub with_connective : List ℕ → Texts
with_connective t = record { alone = t; part = in_parentheses t; denied = 126 ∷ in_parentheses t }

-- One form of sentence: the connectives with a space on each side, a quantifier with its variable and a space before its
-- part, and a denied equation with `#`.
abbrev pub printed_step : Sent-F Texts → Texts
printed_step (f.Atom p ts) = plain (atom_text p ts)
printed_step (f.Eq s t) = record {
  alone = between (term_text s) 61 (term_text t);
  part = between (term_text s) 61 (term_text t);
  denied = between (term_text s) 35 (term_text t);
}
printed_step f.Bottom = plain (94 ∷ [])
printed_step (f.Not d) = plain d.denied
printed_step (f.And ds) = with_connective (separated (32 ∷ 38 ∷ 32 ∷ []) (map (λ d. d.part) ds))
printed_step (f.Or ds) = with_connective (separated (32 ∷ 124 ∷ 32 ∷ []) (map (λ d. d.part) ds))
printed_step (f.If d e) = with_connective (d.part ++ 32 ∷ 36 ∷ 32 ∷ e.part)
printed_step (f.Iff d e) = with_connective (d.part ++ 32 ∷ 37 ∷ 32 ∷ e.part)
printed_step (f.All x d) = plain (64 ∷ x ++ 32 ∷ d.part)
printed_step (f.Ex x d) = plain (47 ∷ x ++ 32 ∷ d.part)

-- The three texts of a sentence.
abbrev pub shown : Sent → Texts
shown = fold-Sent Texts printed_step

-- The text of a sentence, with the typed signs.
abbrev pub printed : Sent → List ℕ
printed s = (shown s).alone

-- The text of a sentence as a part, or alone.
abbrev pub text_in : Bool → Texts → List ℕ
text_in true d = d.part
text_in false d = d.alone

-- The parenthesis that begins the text of a part that a connective joins; a sentence that stands alone has none.
abbrev pub opening : Bool → List ℕ
opening true = 40 ∷ []
opening false = []

-- The parenthesis that ends it.
abbrev pub closing : Bool → List ℕ
closing true = 41 ∷ []
closing false = []
