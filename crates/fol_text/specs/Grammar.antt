-- The grammar of sentences: which tokens spell which sentence, with one constructor for each production.
use Rattle.std.specs.Prelude.{◌≡◌, ℕ, suc, true, List, [], ◌∷◌, ◌++◌}
use Rattle.fol_core.specs.Word.{Word, is_predicate, is_variable, is_name}
use Rattle.fol_core.specs.declared.sent.Term.{Term}
use Rattle.fol_core.specs.declared.sent.Term.TheVariants.{Var, Name, App}
use Rattle.fol_core.specs.declared.sent.Sent.{Sent}
use Rattle.fol_core.specs.declared.sent.Sent.TheVariants.{Atom, Eq, Bottom, Not, And, Or, If, Iff, All, Ex}
use Rattle.fol_text.specs.declared.token.Token.{Token}
use Rattle.fol_text.specs.declared.token.Token.TheVariants.{NotSign, AndSign, OrSign, IfSign, IffSign, AllSign, ExistsSign, FalsumSign, Equals, Unequal, Open, Close, Comma, Identifier}

mutual
  -- `SpellsTerm room ks t`: the tokens spell the term, and at no token are more than `room` parentheses of functions
  -- pending, each from the opening one on until the closing one. A function's symbol is spelled as a name is.
  pub data SpellsTerm : ℕ → List Token → Term → Type 0 where
    variable : (room : ℕ) (x : Word) → is_variable x ≡ true → SpellsTerm room (Identifier x ∷ []) (Var x)
    name : (room : ℕ) (n : Word) → is_name n ≡ true → SpellsTerm room (Identifier n ∷ []) (Name n)
    function : (room : ℕ) (g : Word) (ks : List Token) (ts : List Term) → is_name g ≡ true → SpellsTerms room ks ts → SpellsTerm (suc room) (Identifier g ∷ Open ∷ ks ++ Close ∷ []) (App g ts)

  -- One or more terms, with commas between them.
  pub data SpellsTerms : ℕ → List Token → List Term → Type 0 where
    last_term : (room : ℕ) (ks : List Token) (t : Term) → SpellsTerm room ks t → SpellsTerms room ks (t ∷ [])
    more_terms : (room : ℕ) (ks js : List Token) (t : Term) (ts : List Term) → SpellsTerm room ks t → SpellsTerms room js ts → SpellsTerms room (ks ++ Comma ∷ js) (t ∷ ts)

mutual
  -- `Spells room ks s`: the tokens spell the sentence, and at no token are more than `room` pending. Pending are the
  -- parentheses of groups and of functions from the opening one on until the closing one, and each `~` and each
  -- quantifier until its part is complete; an atom's own parenthesis isn't counted.
  pub data Spells : ℕ → List Token → Sent → Type 0 where
    one_part : (room : ℕ) (ks : List Token) (s : Sent) → SpellsPart room ks s → Spells room ks s
    conjunction : (room : ℕ) (ks js : List Token) (s : Sent) (ss : List Sent) → SpellsPart room ks s → SpellsParts AndSign room js ss → Spells room (ks ++ AndSign ∷ js) (And (s ∷ ss))
    disjunction : (room : ℕ) (ks js : List Token) (s : Sent) (ss : List Sent) → SpellsPart room ks s → SpellsParts OrSign room js ss → Spells room (ks ++ OrSign ∷ js) (Or (s ∷ ss))
    conditional : (room : ℕ) (ks js : List Token) (s t : Sent) → SpellsPart room ks s → SpellsPart room js t → Spells room (ks ++ IfSign ∷ js) (If s t)
    biconditional : (room : ℕ) (ks js : List Token) (s t : Sent) → SpellsPart room ks s → SpellsPart room js t → Spells room (ks ++ IffSign ∷ js) (Iff s t)

  -- One or more parts, with the sign between them.
  pub data SpellsParts : Token → ℕ → List Token → List Sent → Type 0 where
    last_part : (sign : Token) (room : ℕ) (ks : List Token) (s : Sent) → SpellsPart room ks s → SpellsParts sign room ks (s ∷ [])
    more_parts : (sign : Token) (room : ℕ) (ks js : List Token) (s : Sent) (ss : List Sent) → SpellsPart room ks s → SpellsParts sign room js ss → SpellsParts sign room (ks ++ sign ∷ js) (s ∷ ss)

  -- A part, which is what a connective joins and what `~` or a quantifier stands before.
  pub data SpellsPart : ℕ → List Token → Sent → Type 0 where
    letter : (room : ℕ) (p : Word) → is_predicate p ≡ true → SpellsPart room (Identifier p ∷ []) (Atom p [])
    atom : (room : ℕ) (p : Word) (ks : List Token) (ts : List Term) → is_predicate p ≡ true → SpellsTerms room ks ts → SpellsPart room (Identifier p ∷ Open ∷ ks ++ Close ∷ []) (Atom p ts)
    equation : (room : ℕ) (ks js : List Token) (a b : Term) → SpellsTerm room ks a → SpellsTerm room js b → SpellsPart room (ks ++ Equals ∷ js) (Eq a b)
    inequation : (room : ℕ) (ks js : List Token) (a b : Term) → SpellsTerm room ks a → SpellsTerm room js b → SpellsPart room (ks ++ Unequal ∷ js) (Not (Eq a b))
    falsum : (room : ℕ) → SpellsPart room (FalsumSign ∷ []) Bottom
    negation : (room : ℕ) (ks : List Token) (s : Sent) → SpellsPart room ks s → SpellsPart (suc room) (NotSign ∷ ks) (Not s)
    universal : (room : ℕ) (x : Word) (ks : List Token) (s : Sent) → is_variable x ≡ true → SpellsPart room ks s → SpellsPart (suc room) (AllSign ∷ Identifier x ∷ ks) (All x s)
    existential : (room : ℕ) (x : Word) (ks : List Token) (s : Sent) → is_variable x ≡ true → SpellsPart room ks s → SpellsPart (suc room) (ExistsSign ∷ Identifier x ∷ ks) (Ex x s)
    group : (room : ℕ) (ks : List Token) (s : Sent) → Spells room ks s → SpellsPart (suc room) (Open ∷ ks ++ Close ∷ []) s
