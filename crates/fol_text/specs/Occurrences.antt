-- The predicates and the words of the terms of a sentence from left to right, and the places where they stand in its text.
use Rattle.std.specs.Prelude.{ℕ, Bool, true, false, not, ◌&&◌, List, [], ◌∷◌, ◌++◌, length, map, Option, Some, None, if◌then◌else◌}
use Rattle.fol_core.specs.Word.{Word, is_predicate}
use Rattle.fol_core.specs.Blocks.{fits}
use Rattle.fol_core.specs.Closed.{is_among}
use Rattle.fol_core.specs.declared.sent.Term.{Term}
use Rattle.fol_core.specs.declared.sent.Term.TheOpen.{Term-F}
use Rattle.fol_core.specs.declared.sent.Term.TheOpen as t
use Rattle.fol_core.specs.declared.sent.Term.TheFolds.{fold-Term}
use Rattle.fol_core.specs.declared.sent.Sent.{Sent}
use Rattle.fol_core.specs.declared.sent.Sent.TheOpen.{Sent-F}
use Rattle.fol_core.specs.declared.sent.Sent.TheOpen as f
use Rattle.fol_core.specs.declared.sent.Sent.TheFolds.{fold-Sent}
use Rattle.fol_text.specs.declared.token.Token.{Token}
use Rattle.fol_text.specs.declared.token.Token.TheVariants.{AllSign, ExistsSign, Identifier}
use Rattle.fol_text.specs.declared.token.Placed.{Placed}

-- The token is a predicate.
abbrev pub names_predicate : Token → Bool
names_predicate (Identifier w) = is_predicate w
names_predicate _ = false

-- The token is the sign of a quantifier, so that the identifier behind it is the quantifier's variable and no term.
abbrev pub is_quantifier : Token → Bool
is_quantifier AllSign = true
is_quantifier ExistsSign = true
is_quantifier _ = false

-- The token is a word of a term where it is no quantifier's variable: an identifier that is no predicate.
abbrev pub names_term : Token → Bool
names_term (Identifier w) = not (is_predicate w)
names_term _ = false

-- The places of the predicates, from left to right.
abbrev pub predicate_places : List Placed → List ℕ
predicate_places [] = []
predicate_places (k ∷ ks) = if names_predicate k.token then k.place ∷ predicate_places ks else predicate_places ks

-- The places of the words of terms, from left to right, where the flag says that a quantifier's sign stands right before the tokens.
abbrev pub term_places : Bool → List Placed → List ℕ
term_places quantified [] = []
term_places quantified (k ∷ ks) =
    if not quantified && names_term k.token then k.place ∷ term_places (is_quantifier k.token) ks
    else term_places (is_quantifier k.token) ks

-- The lists, one after the other.
abbrev pub joined : List (List Bool) → List Bool
joined [] = []
joined (m ∷ ms) = m ++ joined ms

-- One form of sentence: whether its predicate fits the number of its terms, or what its parts say in their order.
abbrev pub fitting_step : Sent-F (List Bool) → List Bool
fitting_step (f.Atom p ts) = fits p (length ts) ∷ []
fitting_step (f.Eq s t) = []
fitting_step f.Bottom = []
fitting_step (f.Not m) = m
fitting_step (f.And ms) = joined ms
fitting_step (f.Or ms) = joined ms
fitting_step (f.If m n) = m ++ n
fitting_step (f.Iff m n) = m ++ n
fitting_step (f.All x m) = m
fitting_step (f.Ex x m) = m

-- For each predicate of the sentence, from left to right: whether its number of terms fits it.
abbrev pub fitting : Sent → List Bool
fitting = fold-Sent (List Bool) fitting_step

-- One form of term: whether its word is a bound variable, or no variable; then what its arguments say.
abbrev pub word_step : List Word → Term-F (List Bool) → List Bool
word_step bound (t.Var x) = is_among x bound ∷ []
word_step bound (t.Name n) = true ∷ []
word_step bound (t.App g ms) = true ∷ joined ms

-- For each word of the term, from left to right: whether it is no variable, or one that is bound.
abbrev pub word_marks : List Word → Term → List Bool
word_marks bound = fold-Term (List Bool) (word_step bound)

-- One form of sentence under the variables bound around it: what its terms say, or what its parts say.
abbrev pub bound_step : Sent-F (List Word → List Bool) → List Word → List Bool
bound_step (f.Atom p ts) bound = joined (map (word_marks bound) ts)
bound_step (f.Eq a b) bound = word_marks bound a ++ word_marks bound b
bound_step f.Bottom bound = []
bound_step (f.Not m) bound = m bound
bound_step (f.And ms) bound = joined (map (λ m. m bound) ms)
bound_step (f.Or ms) bound = joined (map (λ m. m bound) ms)
bound_step (f.If m n) bound = m bound ++ n bound
bound_step (f.Iff m n) bound = m bound ++ n bound
bound_step (f.All x m) bound = m (x ∷ bound)
bound_step (f.Ex x m) bound = m (x ∷ bound)

-- For each word of a term of the sentence, from left to right: whether it is no variable, or one bound there or around it.
abbrev pub boundness : Sent → List Word → List Bool
boundness = fold-Sent (List Word → List Bool) bound_step

-- The place that stands beside the first `false`.
abbrev pub first_false : List Bool → List ℕ → Option ℕ
first_false [] ns = None
first_false (b ∷ bs) [] = None
first_false (b ∷ bs) (n ∷ ns) = if b then first_false bs ns else Some n
