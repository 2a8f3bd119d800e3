-- What is spelled is read: from a state that wants a part, the machine goes over the tokens of a part to the state that
-- has this part, whatever follows.
use Rattle.std.proofs.Common.{◌≡◌, ℕ, suc, ◌+◌, ◌-◌, nat_lt, true, false, arith, lt-ltb, List, [], ◌∷◌, ◌++◌, length, Some, Result, Ok, Err, refl, ap, sym, ◌∙◌, append_assoc}
use Rattle.std.proofs.lemmas.List.{append-nil}
use Rattle.fol_core.specs.Word.{Word, is_predicate, is_variable}
use Rattle.fol_core.specs.declared.sent.Term.{Term}
use Rattle.fol_core.specs.declared.sent.Term.TheVariants.{Var, Name, App}
use Rattle.fol_core.specs.declared.sent.Sent.{Sent}
use Rattle.fol_core.specs.declared.sent.Sent.TheVariants.{Atom, Eq, Not, And, Or, If, Iff}
use Rattle.fol_text.specs.declared.token.Token.{Token}
use Rattle.fol_text.specs.declared.token.Token.TheVariants.{NotSign, AndSign, OrSign, IfSign, IffSign, AllSign, ExistsSign, Equals, Unequal, Open, Close, Comma, Identifier}
use Rattle.fol_text.specs.declared.state.Quantifier.TheVariants.{Universal, Existential}
use Rattle.fol_text.specs.declared.state.Prefix.{Prefix}
use Rattle.fol_text.specs.declared.state.Prefix.TheVariants.{Negation, Quantified}
use Rattle.fol_text.specs.declared.state.Relation.{Relation}
use Rattle.fol_text.specs.declared.state.Relation.TheVariants.{Same, Different}
use Rattle.fol_text.specs.declared.state.Begun.{Begun}
use Rattle.fol_text.specs.declared.state.Begun.TheVariants.{Nothing, Conjunction, Disjunction, Conditional, Biconditional}
use Rattle.fol_text.specs.declared.state.Mode.TheVariants.{WantsPart, HasPredicate, WantsTerm, HasTerm, HasPart}
use Rattle.fol_text.specs.declared.state.Mode.{Mode}
use Rattle.fol_text.specs.declared.state.Read.{Read}
use Rattle.fol_text.specs.declared.state.Read.TheVariants.{Variable, Symbol, Function}
use Rattle.fol_text.specs.declared.state.Spot.{Spot}
use Rattle.fol_text.specs.declared.state.Spot.TheVariants.{Argument, Left, Right}
use Rattle.fol_text.specs.declared.state.Call.{Call}
use Rattle.fol_text.specs.declared.fault.Refusal.{Refusal}
use Rattle.fol_text.specs.declared.state.Group.{Group}
use Rattle.fol_text.specs.declared.state.State.{State}
use Rattle.fol_text.specs.Grammar.{SpellsTerm, variable, name, function, SpellsTerms, last_term, more_terms, Spells, one_part, conjunction, disjunction, conditional, biconditional, SpellsParts, last_part, more_parts, SpellsPart, letter, atom, equation, inequation, falsum, negation, universal, existential, group}
use Rattle.fol_text.specs.Machine.{state, group_of, finished, conjoined, disjoined, whole, related, word_of, read_term, call_of, behind_term, after_term, ended_term, go, begin}
use Rattle.fol_text.proofs.WordKinds.{variable_read, name_read, variable_no_predicate, name_no_predicate}

abbrev wants : ℕ → List Prefix → Begun → List Group → State
wants n ps b o = state WantsPart (group_of n ps b) o

abbrev has : ℕ → Sent → Begun → List Group → State
has n s b o = state (HasPart s) (group_of n [] b) o

-- what follows is no argument list
abbrev pub NoOpen : List Token → Type 0
NoOpen [] = Unit {0}
NoOpen (Open ∷ ks) = ⊥
NoOpen (_ ∷ ks) = Unit {0}

-- one token

predicate_goes : (p : Word) → is_predicate p ≡ true → (h : Group) (o : List Group) (rest : List Token) → go (state WantsPart h o) (Identifier p ∷ rest) ≡ go (state (HasPredicate p) h o) rest
predicate_goes p i h o rest = rw (i, go) refl

letter_goes : (p : Word) (h : Group) (o : List Group) (rest : List Token) → NoOpen rest → go (state (HasPredicate p) h o) rest ≡ go (finished (Atom p []) h o) rest
letter_goes p h [] [] n = refl
letter_goes p h (g ∷ o) [] n = refl
letter_goes p h o (Open ∷ ks) n = absurd n
letter_goes p h o (k ∷ ks) n = refl

-- terms

word_goes : (w : Word) (r : Read) → word_of w ≡ Some r → (spot : Spot) (cs : List Call) (h : Group) (o : List Group) (rest : List Token) → go (state (WantsTerm spot cs) h o) (Identifier w ∷ rest) ≡ go (state (HasTerm spot cs r) h o) rest
word_goes w r e spot cs h o rest = rw (e, go) refl

-- before anything but a parenthesis it doesn't matter how a term was read
plain_behind : (spot : Spot) (cs : List Call) (r : Read) (h : Group) (o : List Group) (k : Token) (ks : List Token) → NoOpen (k ∷ ks) → after_term spot cs r h o k ≡ behind_term spot cs (read_term r) h o k
plain_behind spot cs (Symbol g) h o Open ks n = absurd n
plain_behind spot cs (Symbol g) h o k ks n = refl
plain_behind spot cs (Variable x) h o k ks n = refl
plain_behind spot cs (Function t) h o k ks n = refl

abbrev goes_on : List Token → Result State Refusal → Result Sent Refusal
goes_on ks r = elim r as (λ x. Result Sent Refusal) [ Ok next ↦ go next ks | Err refusal ↦ Err refusal ]

pub as_function : (spot : Spot) (cs : List Call) (r : Read) (t : Term) (h : Group) (o : List Group) (rest : List Token) → read_term r ≡ t → NoOpen rest → go (state (HasTerm spot cs r) h o) rest ≡ go (state (HasTerm spot cs (Function t)) h o) rest
as_function spot cs r t h [] [] e n = ap (λ (u : Term). ended_term spot cs u h) e
as_function spot cs r t h (g ∷ o) [] e n = refl
as_function spot cs r t h o (k ∷ ks) e n = ap (λ (x : Result State Refusal). goes_on ks x) (plain_behind spot cs r h o k ks n ∙ ap (λ (u : Term). behind_term spot cs u h o k) e)

call_room : (r m c l : ℕ) → r ≡ (suc m + c) + l → nat_lt (l + c) r ≡ true
call_room r m c l e = lt-ltb (l + c) r (omega (arith, e))

call_inside : (r m c l : ℕ) → r ≡ (suc m + c) + l → r ≡ (m + suc c) + l
call_inside r m c l e = omega (arith, e)

call_opens : (g : Word) (m : ℕ) (spot : Spot) (cs : List Call) (h : Group) (o : List Group) (rest : List Token) → h.room ≡ (suc m + length cs) + length h.prefixes
    → go (state (HasTerm spot cs (Symbol g)) h o) (Open ∷ rest) ≡ go (state (WantsTerm spot (call_of g [] ∷ cs)) h o) rest
call_opens g m spot cs h o rest e = rw (call_room h.room m (length cs) (length h.prefixes) e, go) refl

mutual
  term_read : {m : ℕ} {ks : List Token} {t : Term} → SpellsTerm m ks t → (spot : Spot) (cs : List Call) (h : Group) (o : List Group) (rest : List Token) → h.room ≡ (m + length cs) + length h.prefixes → NoOpen rest
      → go (state (WantsTerm spot cs) h o) (ks ++ rest) ≡ go (state (HasTerm spot cs (Function t)) h o) rest
  term_read (variable m x i) spot cs h o rest e n = word_goes x (Variable x) (variable_read x i) spot cs h o rest ∙ as_function spot cs (Variable x) (Var x) h o rest refl n
  term_read (name m k i) spot cs h o rest e n = word_goes k (Symbol k) (name_read k i) spot cs h o rest ∙ as_function spot cs (Symbol k) (Name k) h o rest refl n
  term_read (function m g ks ts i q) spot cs h o rest e n =
      word_goes g (Symbol g) (name_read g i) spot cs h o (Open ∷ ((ks ++ Close ∷ []) ++ rest))
      ∙ call_opens g m spot cs h o ((ks ++ Close ∷ []) ++ rest) e
      ∙ ap (λ (js : List Token). go (state (WantsTerm spot (call_of g [] ∷ cs)) h o) js) (append_assoc ks (Close ∷ []) rest)
      ∙ args_read q spot g [] cs h o rest (call_inside h.room m (length cs) (length h.prefixes) e)

  args_read : {m : ℕ} {ks : List Token} {ts : List Term} → SpellsTerms m ks ts → (spot : Spot) (g : Word) (us : List Term) (cs : List Call) (h : Group) (o : List Group) (rest : List Token) → h.room ≡ (m + suc (length cs)) + length h.prefixes
      → go (state (WantsTerm spot (call_of g us ∷ cs)) h o) (ks ++ Close ∷ rest) ≡ go (state (HasTerm spot cs (Function (App g (us ++ ts)))) h o) rest
  args_read (last_term m ks t q) spot g us cs h o rest e = term_read q spot (call_of g us ∷ cs) h o (Close ∷ rest) e tt
  args_read (more_terms m ks js t ts q r) spot g us cs h o rest e =
      ap (λ (ls : List Token). go (state (WantsTerm spot (call_of g us ∷ cs)) h o) ls) (append_assoc ks (Comma ∷ js) (Close ∷ rest))
      ∙ term_read q spot (call_of g us ∷ cs) h o (Comma ∷ (js ++ Close ∷ rest)) e tt
      ∙ args_read r spot g (us ++ t ∷ []) cs h o rest e
      ∙ ap (λ (vs : List Term). go (state (HasTerm spot cs (Function (App g vs))) h o) rest) (append_assoc us (t ∷ []) ts)

no_calls : (r m l : ℕ) → r ≡ m + l → r ≡ (m + 0) + l
no_calls r m l e = omega (arith, e)

-- atomic sentences

terms_read : {m : ℕ} {ks : List Token} {ts : List Term} → SpellsTerms m ks ts → (p : Word) (us : List Term) (h : Group) (o : List Group) (rest : List Token) → h.room ≡ m + length h.prefixes
    → go (state (WantsTerm (Argument p us) []) h o) (ks ++ Close ∷ rest) ≡ go (finished (Atom p (us ++ ts)) h o) rest
terms_read (last_term m ks t q) p us h o rest e = term_read q (Argument p us) [] h o (Close ∷ rest) (no_calls h.room m (length h.prefixes) e) tt
terms_read (more_terms m ks js t ts q r) p us h o rest e =
    ap (λ (ls : List Token). go (state (WantsTerm (Argument p us) []) h o) ls) (append_assoc ks (Comma ∷ js) (Close ∷ rest))
    ∙ term_read q (Argument p us) [] h o (Comma ∷ (js ++ Close ∷ rest)) (no_calls h.room m (length h.prefixes) e) tt
    ∙ terms_read r p (us ++ t ∷ []) h o rest e
    ∙ ap (λ (vs : List Term). go (finished (Atom p vs) h o) rest) (append_assoc us (t ∷ []) ts)

atom_read : (m : ℕ) (p : Word) (ks : List Token) (ts : List Term) → is_predicate p ≡ true → SpellsTerms m ks ts → (h : Group) (o : List Group) (rest : List Token) → h.room ≡ m + length h.prefixes
    → go (state WantsPart h o) ((Identifier p ∷ Open ∷ ks ++ Close ∷ []) ++ rest) ≡ go (finished (Atom p ts) h o) rest
atom_read m p ks ts i q h o rest e =
    predicate_goes p i h o (Open ∷ ((ks ++ Close ∷ []) ++ rest)) ∙ ap (λ (js : List Token). go (state (WantsTerm (Argument p []) []) h o) js) (append_assoc ks (Close ∷ []) rest) ∙ terms_read q p [] h o rest e

-- a term begins a part as it begins on the left of an equation

first_word : (w : Word) → is_predicate w ≡ false → (h : Group) (o : List Group) (rest : List Token) → go (state WantsPart h o) (Identifier w ∷ rest) ≡ go (state (WantsTerm Left []) h o) (Identifier w ∷ rest)
first_word w i h o rest = rw (i, go) refl

left_goes : {m : ℕ} {ks : List Token} {t : Term} → SpellsTerm m ks t → (h : Group) (o : List Group) (rest : List Token) → go (state WantsPart h o) (ks ++ rest) ≡ go (state (WantsTerm Left []) h o) (ks ++ rest)
left_goes (variable m x i) h o rest = first_word x (variable_no_predicate x i) h o rest
left_goes (name m n i) h o rest = first_word n (name_no_predicate n i) h o rest
left_goes (function m g ks ts i q) h o rest = first_word g (name_no_predicate g i) h o (Open ∷ ((ks ++ Close ∷ []) ++ rest))

right_done : (a : Term) (r : Relation) (b : Term) (h : Group) (o : List Group) (rest : List Token) → go (state (HasTerm (Right a r) [] (Function b)) h o) rest ≡ go (finished (related a r b) h o) rest
right_done a r b h [] [] = refl
right_done a r b h (g ∷ o) [] = refl
right_done a r b h o (k ∷ ks) = refl

equation_read : {m : ℕ} {ks js : List Token} {a b : Term} → SpellsTerm m ks a → SpellsTerm m js b → (h : Group) (o : List Group) (rest : List Token) → h.room ≡ m + length h.prefixes → NoOpen rest
    → go (state WantsPart h o) ((ks ++ Equals ∷ js) ++ rest) ≡ go (finished (Eq a b) h o) rest
equation_read {m} {ks} {js} {a} {b} x y h o rest e n =
    let room = no_calls h.room m (length h.prefixes) e in
    ap (λ (ls : List Token). go (state WantsPart h o) ls) (append_assoc ks (Equals ∷ js) rest)
    ∙ left_goes x h o (Equals ∷ (js ++ rest)) ∙ term_read x Left [] h o (Equals ∷ (js ++ rest)) room tt
    ∙ term_read y (Right a Same) [] h o rest room n ∙ right_done a Same b h o rest

inequation_read : {m : ℕ} {ks js : List Token} {a b : Term} → SpellsTerm m ks a → SpellsTerm m js b → (h : Group) (o : List Group) (rest : List Token) → h.room ≡ m + length h.prefixes → NoOpen rest
    → go (state WantsPart h o) ((ks ++ Unequal ∷ js) ++ rest) ≡ go (finished (Not (Eq a b)) h o) rest
inequation_read {m} {ks} {js} {a} {b} x y h o rest e n =
    let room = no_calls h.room m (length h.prefixes) e in
    ap (λ (ls : List Token). go (state WantsPart h o) ls) (append_assoc ks (Unequal ∷ js) rest)
    ∙ left_goes x h o (Unequal ∷ (js ++ rest)) ∙ term_read x Left [] h o (Unequal ∷ (js ++ rest)) room tt
    ∙ term_read y (Right a Different) [] h o rest room n ∙ right_done a Different b h o rest

-- what takes one of the room

room_left : (r m l : ℕ) → r ≡ suc m + l → nat_lt l r ≡ true
room_left r m l e = lt-ltb l r (omega arith)

room_inside : (r m l : ℕ) → r ≡ suc m + l → r - l - 1 ≡ m
room_inside r m l e = omega arith

one_more : (r m l : ℕ) → r ≡ suc m + l → r ≡ m + suc l
one_more r m l e = omega arith

negation_goes : (r m : ℕ) (ps : List Prefix) (b : Begun) (o : List Group) (rest : List Token) → r ≡ suc m + length ps → go (wants r ps b o) (NotSign ∷ rest) ≡ go (wants r (Negation ∷ ps) b o) rest
negation_goes r m ps b o rest e = rw (room_left r m (length ps) e, go) refl

universal_goes : (x : Word) (r m : ℕ) (ps : List Prefix) (b : Begun) (o : List Group) (rest : List Token) → is_variable x ≡ true → r ≡ suc m + length ps → go (wants r ps b o) (AllSign ∷ Identifier x ∷ rest) ≡ go (wants r (Quantified Universal x ∷ ps) b o) rest
universal_goes x r m ps b o rest v e = rw (room_left r m (length ps) e, go, v) refl

existential_goes : (x : Word) (r m : ℕ) (ps : List Prefix) (b : Begun) (o : List Group) (rest : List Token) → is_variable x ≡ true → r ≡ suc m + length ps → go (wants r ps b o) (ExistsSign ∷ Identifier x ∷ rest) ≡ go (wants r (Quantified Existential x ∷ ps) b o) rest
existential_goes x r m ps b o rest v e = rw (room_left r m (length ps) e, go, v) refl

opens : (r m : ℕ) (ps : List Prefix) (b : Begun) (o : List Group) (rest : List Token) → r ≡ suc m + length ps → go (wants r ps b o) (Open ∷ rest) ≡ go (wants m [] Nothing (group_of r ps b ∷ o)) rest
opens r m ps b o rest e = rw (room_left r m (length ps) e, go) (ap (λ (n : ℕ). go (wants n [] Nothing (group_of r ps b ∷ o)) rest) (room_inside r m (length ps) e))

-- the signs of a chain

record Chains (k : Token) (c : List Sent → Begun) : Type 0 where
  goes : (n : ℕ) (s : Sent) (ps : List Sent) (o : List Group) (rest : List Token) → go (has n s (c ps) o) (k ∷ rest) ≡ go (wants n [] (c (ps ++ s ∷ [])) o) rest
  no_open : (rest : List Token) → NoOpen (k ∷ rest)

and_chains : Chains AndSign Conjunction
and_chains = record { goes = λ n s ps o rest. refl; no_open = λ rest. tt }

or_chains : Chains OrSign Disjunction
or_chains = record { goes = λ n s ps o rest. refl; no_open = λ rest. tt }

-- a sentence is read up to its last part
record Reached (n : ℕ) (s : Sent) (o : List Group) (ks rest : List Token) : Type 0 where
  begun : Begun
  last : Sent
  is_whole : whole begun last ≡ s
  goes : go (wants n [] Nothing o) (ks ++ rest) ≡ go (has n last begun o) rest

-- several parts are read up to the last one
record ReachedLast (c : List Sent → Begun) (n : ℕ) (ps ss : List Sent) (o : List Group) (ks rest : List Token) : Type 0 where
  front : List Sent
  last : Sent
  is_all : front ++ last ∷ [] ≡ ss
  goes : go (wants n [] (c ps) o) (ks ++ rest) ≡ go (has n last (c (ps ++ front)) o) rest

conjoined_more : (s : Sent) (front : List Sent) (last : Sent) (ss : List Sent) → front ++ last ∷ [] ≡ ss → conjoined (s ∷ front) last ≡ And (s ∷ ss)
unfolding conjoined
conjoined_more s front last ss e = ap (λ (qs : List Sent). And (s ∷ qs)) e

disjoined_more : (s : Sent) (front : List Sent) (last : Sent) (ss : List Sent) → front ++ last ∷ [] ≡ ss → disjoined (s ∷ front) last ≡ Or (s ∷ ss)
unfolding disjoined
disjoined_more s front last ss e = ap (λ (qs : List Sent). Or (s ∷ qs)) e

group_read : (r n : ℕ) (ks : List Token) (s : Sent) (ps : List Prefix) (b : Begun) (o : List Group) (rest : List Token) → r ≡ suc n + length ps → Reached n s (group_of r ps b ∷ o) ks (Close ∷ rest)
    → go (wants r ps b o) ((Open ∷ ks ++ Close ∷ []) ++ rest) ≡ go (finished s (group_of r ps b) o) rest
group_read r n ks s ps b o rest e d =
    opens r n ps b o ((ks ++ Close ∷ []) ++ rest) e
    ∙ ap (λ (js : List Token). go (wants n [] Nothing (group_of r ps b ∷ o)) js) (append_assoc ks (Close ∷ []) rest)
    ∙ d.goes ∙ ap (λ (u : Sent). go (finished u (group_of r ps b) o) rest) d.is_whole

more_read : {k : Token} {c : List Sent → Begun} → Chains k c → (n : ℕ) (ks js : List Token) (s : Sent) (ss ps : List Sent) (o : List Group) (rest : List Token)
    → go (wants n [] (c ps) o) (ks ++ (k ∷ (js ++ rest))) ≡ go (has n s (c ps) o) (k ∷ (js ++ rest))
    → ReachedLast c n (ps ++ s ∷ []) ss o js rest → ReachedLast c n ps (s ∷ ss) o (ks ++ k ∷ js) rest
more_read {k} {c} h n ks js s ss ps o rest first d = record {
  front = s ∷ d.front;
  last = d.last;
  is_all = ap (λ (qs : List Sent). s ∷ qs) d.is_all;
  goes = ap (λ (ls : List Token). go (wants n [] (c ps) o) ls) (append_assoc ks (k ∷ js) rest) ∙ first ∙ h.goes n s ps o (js ++ rest) ∙ d.goes
      ∙ ap (λ (qs : List Sent). go (has n d.last (c qs) o) rest) (append_assoc ps (s ∷ []) d.front);
}

-- a chain, or a conditional, is read: its first part, its sign, and what follows
joined_read : (n : ℕ) (k : Token) (b : Begun) (ks js : List Token) (s last whole_of : Sent) (end : Begun) (o : List Group) (rest : List Token)
    → whole end last ≡ whole_of
    → go (wants n [] Nothing o) (ks ++ (k ∷ (js ++ rest))) ≡ go (has n s Nothing o) (k ∷ (js ++ rest))
    → go (has n s Nothing o) (k ∷ (js ++ rest)) ≡ go (wants n [] b o) (js ++ rest)
    → go (wants n [] b o) (js ++ rest) ≡ go (has n last end o) rest
    → Reached n whole_of o (ks ++ k ∷ js) rest
joined_read n k b ks js s last whole_of end o rest e first sign others = record {
  begun = end;
  last = last;
  is_whole = e;
  goes = ap (λ (ls : List Token). go (wants n [] Nothing o) ls) (append_assoc ks (k ∷ js) rest) ∙ first ∙ sign ∙ others;
}

no_prefix : (n : ℕ) → n ≡ n + 0
no_prefix n = omega arith

mutual
  pub part_read : {m : ℕ} {ks : List Token} {s : Sent} → SpellsPart m ks s → (r : ℕ) (ps : List Prefix) (b : Begun) (o : List Group) (rest : List Token) → r ≡ m + length ps → NoOpen rest
      → go (wants r ps b o) (ks ++ rest) ≡ go (finished s (group_of r ps b) o) rest
  part_read (letter m p i) r ps b o rest e h = predicate_goes p i (group_of r ps b) o rest ∙ letter_goes p (group_of r ps b) o rest h
  part_read (atom m p ks ts i q) r ps b o rest e h = atom_read m p ks ts i q (group_of r ps b) o rest e
  part_read (equation m ks js t u x y) r ps b o rest e h = equation_read x y (group_of r ps b) o rest e h
  part_read (inequation m ks js t u x y) r ps b o rest e h = inequation_read x y (group_of r ps b) o rest e h
  part_read (falsum m) r ps b o rest e h = refl
  part_read (negation m ks s q) r ps b o rest e h =
      negation_goes r m ps b o (ks ++ rest) e ∙ part_read q r (Negation ∷ ps) b o rest (one_more r m (length ps) e) h
  part_read (universal m x ks s v q) r ps b o rest e h =
      universal_goes x r m ps b o (ks ++ rest) v e ∙ part_read q r (Quantified Universal x ∷ ps) b o rest (one_more r m (length ps) e) h
  part_read (existential m x ks s v q) r ps b o rest e h =
      existential_goes x r m ps b o (ks ++ rest) v e ∙ part_read q r (Quantified Existential x ∷ ps) b o rest (one_more r m (length ps) e) h
  part_read (group m ks s q) r ps b o rest e h = group_read r m ks s ps b o rest e (sentence_read q (group_of r ps b ∷ o) (Close ∷ rest) tt)

  parts_read : {k : Token} {n : ℕ} {ks : List Token} {ss : List Sent} → SpellsParts k n ks ss → (c : List Sent → Begun) → Chains k c → (ps : List Sent) (o : List Group) (rest : List Token) → NoOpen rest → ReachedLast c n ps ss o ks rest
  parts_read (last_part k n ks s q) c x ps o rest h =
      record { front = []; last = s; is_all = refl; goes = part_read q n [] (c ps) o rest (no_prefix n) h ∙ ap (λ (qs : List Sent). go (has n s (c qs) o) rest) (sym (append-nil ps)) }
  parts_read (more_parts k n ks js s ss q d) c x ps o rest h =
      more_read x n ks js s ss ps o rest (part_read q n [] (c ps) o (k ∷ (js ++ rest)) (no_prefix n) (x.no_open (js ++ rest))) (parts_read d c x (ps ++ s ∷ []) o rest h)

  sentence_read : {n : ℕ} {ks : List Token} {s : Sent} → Spells n ks s → (o : List Group) (rest : List Token) → NoOpen rest → Reached n s o ks rest
  sentence_read (one_part n ks s q) o rest h = record { begun = Nothing; last = s; is_whole = refl; goes = part_read q n [] Nothing o rest (no_prefix n) h }
  sentence_read (conjunction n ks js s ss q d) o rest h =
      let l = parts_read d Conjunction and_chains (s ∷ []) o rest h in
      joined_read n AndSign (Conjunction (s ∷ [])) ks js s l.last (And (s ∷ ss)) (Conjunction (s ∷ l.front)) o rest (conjoined_more s l.front l.last ss l.is_all)
      (part_read q n [] Nothing o (AndSign ∷ (js ++ rest)) (no_prefix n) tt) refl l.goes
  sentence_read (disjunction n ks js s ss q d) o rest h =
      let l = parts_read d Disjunction or_chains (s ∷ []) o rest h in
      joined_read n OrSign (Disjunction (s ∷ [])) ks js s l.last (Or (s ∷ ss)) (Disjunction (s ∷ l.front)) o rest (disjoined_more s l.front l.last ss l.is_all)
      (part_read q n [] Nothing o (OrSign ∷ (js ++ rest)) (no_prefix n) tt) refl l.goes
  sentence_read (conditional n ks js s t q d) o rest h =
      joined_read n IfSign (Conditional s) ks js s t (If s t) (Conditional s) o rest refl
      (part_read q n [] Nothing o (IfSign ∷ (js ++ rest)) (no_prefix n) tt) refl (part_read d n [] (Conditional s) o rest (no_prefix n) h)
  sentence_read (biconditional n ks js s t q d) o rest h =
      joined_read n IffSign (Biconditional s) ks js s t (Iff s t) (Biconditional s) o rest refl
      (part_read q n [] Nothing o (IffSign ∷ (js ++ rest)) (no_prefix n) tt) refl (part_read d n [] (Biconditional s) o rest (no_prefix n) h)

-- the tokens of a sentence are read as this sentence
pub spelled_is_read : (n : ℕ) (ks : List Token) (s : Sent) → Spells n ks s → go (begin n) ks ≡ Ok s
spelled_is_read n ks s q =
    let d = sentence_read q [] [] tt in
    ap (λ (js : List Token). go (begin n) js) (sym (append-nil ks)) ∙ d.goes ∙ ap (λ (u : Sent). Ok u) d.is_whole
