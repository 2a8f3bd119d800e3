-- What the last tokens say: a part is read only where a part is wanted, and behind it no connective is unexpected.
use Rattle.std.proofs.Common.{◌≡◌, ℕ, ◌+◌, arith, append_assoc, nat_lt, length, Bool, true, false, List, [], ◌∷◌, ◌++◌, Option, Some, None, Result, Ok, Err, if◌then◌else◌, refl, ap, sym, ◌∙◌, subst}
use Rattle.fol_core.specs.Word.{Word, is_predicate, is_variable, is_name}
use Rattle.fol_core.specs.declared.sent.Term.{Term}
use Rattle.fol_core.specs.declared.sent.Term.TheVariants.{Var, Name, App}
use Rattle.fol_core.specs.declared.sent.Sent.{Sent}
use Rattle.fol_core.specs.declared.sent.Sent.TheVariants.{Atom}
use Rattle.fol_text.specs.declared.fault.Refusal.{Refusal}
use Rattle.fol_text.specs.declared.fault.Refusal.TheVariants.{Ambiguous, Unexpected, TooDeep, Memory}
use Rattle.fol_text.specs.declared.token.Token.{Token}
use Rattle.fol_text.specs.declared.token.Token.TheVariants.{NotSign, AndSign, OrSign, IfSign, IffSign, AllSign, ExistsSign, FalsumSign, Equals, Unequal, Open, Close, Comma, Identifier}
use Rattle.fol_text.specs.declared.state.Quantifier.{Quantifier}
use Rattle.fol_text.specs.declared.state.Quantifier.TheVariants.{Universal, Existential}
use Rattle.fol_text.specs.declared.state.Prefix.TheVariants.{Quantified}
use Rattle.fol_text.specs.declared.state.Relation.{Relation}
use Rattle.fol_text.specs.declared.state.Begun.{Begun}
use Rattle.fol_text.specs.declared.state.Begun.TheVariants.{Nothing, Conjunction, Disjunction}
use Rattle.fol_text.specs.declared.state.Mode.{Mode}
use Rattle.fol_text.specs.declared.state.Mode.TheVariants.{WantsPart, WantsVariable, HasPredicate, WantsTerm, HasTerm, HasPart}
use Rattle.fol_text.specs.declared.state.Read.{Read}
use Rattle.fol_text.specs.declared.state.Read.TheVariants.{Variable, Symbol, Function}
use Rattle.fol_text.specs.declared.state.Spot.{Spot}
use Rattle.fol_text.specs.declared.state.Spot.TheVariants.{Argument, Left, Right}
use Rattle.fol_text.specs.declared.state.Call.{Call}
use Rattle.fol_text.specs.declared.state.Group.{Group}
use Rattle.fol_text.specs.declared.state.State.{State}
use Rattle.fol_text.specs.Grammar.{SpellsTerm, variable, name, function, SpellsTerms, last_term, more_terms, Spells, one_part, conjunction, disjunction, conditional, biconditional, SpellsPart, letter, atom, equation, inequation, falsum, negation, universal, existential, group}
use Rattle.fol_text.specs.Refusals.{IsConnective, and_is, or_is, if_is, iff_is, EndsInPart, JoinsPart}
use Rattle.fol_text.specs.Machine.{state, group_of, wrapped, finished, related, word_of, with_word, read_term, call_of, open_call, in_call, behind_term, after_term, with_room, negated, open_group, close_group, conjoin, disjoin, imply, equate, joined, after_part, begin_part, take_variable, after_predicate, take_term, after_argument, after_left, step_in, step, begin, reach, go}
use Rattle.fol_text.proofs.WordKinds.{variable_no_predicate, name_no_predicate, name_no_variable, variable_read, name_read, word_small}
use Rattle.fol_text.proofs.Finishing.{go_by, reach_by, reach_then, reach_built, finishes, reached}
use Rattle.fol_text.proofs.Complete.{NoOpen, as_function, part_read}
use Rattle.fol_text.proofs.Raising.{wide, unexpected_lifts, reach_lifts, part_much_wider}
use Rattle.fol_text.proofs.Built.{Built, NotFirst, begin_built, letter_built}
use Rattle.fol_text.proofs.Sound.{AtPart, at_part, at_right}

no_state : (refusal : Refusal) (st : State) → Err refusal ≡ Ok st → ⊥
no_state refusal st e = cc

no_ok : (refusal : Refusal) (s : Sent) → Err refusal ≡ Ok s → ⊥
no_ok refusal s e = cc

true_false : (b : Bool) → b ≡ true → b ≡ false → ⊥
true_false b e f = cc

-- the mode is the one in which a part is wanted
abbrev Wants : Mode → Type 0
Wants WantsPart = Unit {0}
Wants m = ⊥

-- one token is taken, or the machine stops at it
abbrev onward : List Token → Result State Refusal → Result Sent Refusal
onward ks r = elim r as (λ x. Result Sent Refusal) [ Ok next ↦ go next ks | Err refusal ↦ Err refusal ]

-- behind a term no word stands
term_stops : (spot : Spot) (cs : List Call) (r : Read) (h : Group) (o : List Group) (w : Word) → after_term spot cs r h o (Identifier w) ≡ Err Unexpected
term_stops (Argument p ts) [] (Variable x) h o w = refl
term_stops (Argument p ts) [] (Symbol g) h o w = refl
term_stops (Argument p ts) [] (Function t) h o w = refl
term_stops Left [] (Variable x) h o w = refl
term_stops Left [] (Symbol g) h o w = refl
term_stops Left [] (Function t) h o w = refl
term_stops (Right a q) [] (Variable x) h o w = refl
term_stops (Right a q) [] (Symbol g) h o w = refl
term_stops (Right a q) [] (Function t) h o w = refl
term_stops spot (c ∷ cs) (Variable x) h o w = refl
term_stops spot (c ∷ cs) (Symbol g) h o w = refl
term_stops spot (c ∷ cs) (Function t) h o w = refl

-- the signs that begin a part
data Begins : Token → Type 0 where
  falsum_begins : Begins FalsumSign
  not_begins : Begins NotSign
  all_begins : Begins AllSign
  some_begins : Begins ExistsSign

spot_stops : (spot : Spot) (t : Term) (h : Group) (o : List Group) (k : Token) → Begins k → behind_term spot [] t h o k ≡ Err Unexpected
spot_stops (Argument p ts) t h o k falsum_begins = refl
spot_stops (Argument p ts) t h o k not_begins = refl
spot_stops (Argument p ts) t h o k all_begins = refl
spot_stops (Argument p ts) t h o k some_begins = refl
spot_stops Left t h o k falsum_begins = refl
spot_stops Left t h o k not_begins = refl
spot_stops Left t h o k all_begins = refl
spot_stops Left t h o k some_begins = refl
spot_stops (Right a q) t h o k falsum_begins = refl
spot_stops (Right a q) t h o k not_begins = refl
spot_stops (Right a q) t h o k all_begins = refl
spot_stops (Right a q) t h o k some_begins = refl

behind_stops : (spot : Spot) (cs : List Call) (t : Term) (h : Group) (o : List Group) (k : Token) → Begins k → behind_term spot cs t h o k ≡ Err Unexpected
behind_stops spot [] t h o k i = spot_stops spot t h o k i
behind_stops spot (c ∷ cs) t h o k falsum_begins = refl
behind_stops spot (c ∷ cs) t h o k not_begins = refl
behind_stops spot (c ∷ cs) t h o k all_begins = refl
behind_stops spot (c ∷ cs) t h o k some_begins = refl

sign_behind : (spot : Spot) (cs : List Call) (r : Read) (h : Group) (o : List Group) (k : Token) → Begins k → after_term spot cs r h o k ≡ behind_term spot cs (read_term r) h o k
sign_behind spot cs (Variable x) h o k i = refl
sign_behind spot cs (Function t) h o k i = refl
sign_behind spot cs (Symbol g) h o k falsum_begins = refl
sign_behind spot cs (Symbol g) h o k not_begins = refl
sign_behind spot cs (Symbol g) h o k all_begins = refl
sign_behind spot cs (Symbol g) h o k some_begins = refl

stopped : (ks : List Token) (s : Sent) (r : Result State Refusal) → r ≡ Err Unexpected → onward ks r ≡ Ok s → ⊥
stopped ks s r e f = no_ok Unexpected s (sym (ap (λ (x : Result State Refusal). onward ks x) e) ∙ f)

sign_wanted : (m : Mode) (h : Group) (o : List Group) (k : Token) (rest : List Token) (s : Sent) → Begins k → go (state m h o) (k ∷ rest) ≡ Ok s → Wants m
sign_wanted WantsPart h o k rest s i e = tt
sign_wanted (WantsVariable q) h o k rest s falsum_begins e = no_ok Unexpected s e
sign_wanted (WantsVariable q) h o k rest s not_begins e = no_ok Unexpected s e
sign_wanted (WantsVariable q) h o k rest s all_begins e = no_ok Unexpected s e
sign_wanted (WantsVariable q) h o k rest s some_begins e = no_ok Unexpected s e
sign_wanted (HasPredicate p) h o k rest s falsum_begins e = no_ok Unexpected s e
sign_wanted (HasPredicate p) h o k rest s not_begins e = no_ok Unexpected s e
sign_wanted (HasPredicate p) h o k rest s all_begins e = no_ok Unexpected s e
sign_wanted (HasPredicate p) h o k rest s some_begins e = no_ok Unexpected s e
sign_wanted (WantsTerm spot cs) h o k rest s falsum_begins e = no_ok Unexpected s e
sign_wanted (WantsTerm spot cs) h o k rest s not_begins e = no_ok Unexpected s e
sign_wanted (WantsTerm spot cs) h o k rest s all_begins e = no_ok Unexpected s e
sign_wanted (WantsTerm spot cs) h o k rest s some_begins e = no_ok Unexpected s e
sign_wanted (HasTerm spot cs r) h o k rest s i e = stopped rest s (after_term spot cs r h o k) (sign_behind spot cs r h o k i ∙ behind_stops spot cs (read_term r) h o k i) e
sign_wanted (HasPart p) h o k rest s falsum_begins e = no_ok Unexpected s e
sign_wanted (HasPart p) h o k rest s not_begins e = no_ok Unexpected s e
sign_wanted (HasPart p) h o k rest s all_begins e = no_ok Unexpected s e
sign_wanted (HasPart p) h o k rest s some_begins e = no_ok Unexpected s e

-- a predicate

bound_stops : (q : Quantifier) (h : Group) (o : List Group) (w : Word) (b : Bool) (st : State) (rest : List Token) (s : Sent) → is_variable w ≡ b → (is_variable w ≡ true → ⊥) → onward rest (if b then Ok st else Err Unexpected) ≡ Ok s → ⊥
bound_stops q h o w true st rest s i n e = n i
bound_stops q h o w false st rest s i n e = no_ok Unexpected s e

word_stops : (spot : Spot) (cs : List Call) (h : Group) (o : List Group) (w : Word) (f : Option Read) (rest : List Token) (s : Sent) → word_of w ≡ f → is_predicate w ≡ true → onward rest (with_word f (λ r. state (HasTerm spot cs r) h o)) ≡ Ok s → ⊥
word_stops spot cs h o w None rest s i p e = no_ok Unexpected s e
word_stops spot cs h o w (Some r) rest s i p e = true_false (is_predicate w) p (word_small w r i)

predicate_wanted : (m : Mode) (h : Group) (o : List Group) (w : Word) (rest : List Token) (s : Sent) → is_predicate w ≡ true → go (state m h o) (Identifier w ∷ rest) ≡ Ok s → Wants m
predicate_wanted WantsPart h o w rest s i e = tt
predicate_wanted (WantsVariable q) h o w rest s i e =
    bound_stops q h o w (is_variable w) (state WantsPart (group_of h.room (Quantified q w ∷ h.prefixes) h.begun) o) rest s refl (λ v. true_false (is_predicate w) i (variable_no_predicate w v)) e
predicate_wanted (HasPredicate p) h o w rest s i e = no_ok Unexpected s e
predicate_wanted (WantsTerm spot cs) h o w rest s i e = word_stops spot cs h o w (word_of w) rest s refl i e
predicate_wanted (HasTerm spot cs r) h o w rest s i e = stopped rest s (after_term spot cs r h o (Identifier w)) (term_stops spot cs r h o w) e
predicate_wanted (HasPart p) h o w rest s i e = no_ok Unexpected s e

-- a term is passed where it is read at all

room_passes : (b : Bool) (st : State) (rest : List Token) (s : Sent) → onward rest (if b then Ok st else Err TooDeep) ≡ Ok s → go st rest ≡ Ok s
room_passes true st rest s e = e
room_passes false st rest s e = absurd (no_ok TooDeep s e)

word_passes : (w : Word) (r : Read) → word_of w ≡ Some r → (spot : Spot) (cs : List Call) (h : Group) (o : List Group) (rest : List Token) → go (state (WantsTerm spot cs) h o) (Identifier w ∷ rest) ≡ go (state (HasTerm spot cs r) h o) rest
word_passes w r e spot cs h o rest = rw (e, go) refl

mutual
  term_passes : {m : ℕ} {ks : List Token} {t : Term} → SpellsTerm m ks t → (spot : Spot) (cs : List Call) (h : Group) (o : List Group) (rest : List Token) (s : Sent) → NoOpen rest
      → go (state (WantsTerm spot cs) h o) (ks ++ rest) ≡ Ok s → go (state (HasTerm spot cs (Function t)) h o) rest ≡ Ok s
  term_passes (variable m x i) spot cs h o rest s n e = sym (as_function spot cs (Variable x) (Var x) h o rest refl n) ∙ sym (word_passes x (Variable x) (variable_read x i) spot cs h o rest) ∙ e
  term_passes (name m k i) spot cs h o rest s n e = sym (as_function spot cs (Symbol k) (Name k) h o rest refl n) ∙ sym (word_passes k (Symbol k) (name_read k i) spot cs h o rest) ∙ e
  term_passes (function m g ks ts i q) spot cs h o rest s n e =
      args_pass q spot g [] cs h o rest s
      (ap (λ (js : List Token). go (state (WantsTerm spot (call_of g [] ∷ cs)) h o) js) (sym (append_assoc ks (Close ∷ []) rest))
      ∙ room_passes (nat_lt (length h.prefixes + length cs) h.room) (state (WantsTerm spot (call_of g [] ∷ cs)) h o) ((ks ++ Close ∷ []) ++ rest) s
      (sym (word_passes g (Symbol g) (name_read g i) spot cs h o (Open ∷ ((ks ++ Close ∷ []) ++ rest))) ∙ e))

  args_pass : {m : ℕ} {ks : List Token} {ts : List Term} → SpellsTerms m ks ts → (spot : Spot) (g : Word) (us : List Term) (cs : List Call) (h : Group) (o : List Group) (rest : List Token) (s : Sent)
      → go (state (WantsTerm spot (call_of g us ∷ cs)) h o) (ks ++ Close ∷ rest) ≡ Ok s → go (state (HasTerm spot cs (Function (App g (us ++ ts)))) h o) rest ≡ Ok s
  args_pass (last_term m ks t q) spot g us cs h o rest s e = term_passes q spot (call_of g us ∷ cs) h o (Close ∷ rest) s tt e
  args_pass (more_terms m ks js t ts q r) spot g us cs h o rest s e =
      ap (λ (vs : List Term). go (state (HasTerm spot cs (Function (App g vs))) h o) rest) (sym (append_assoc us (t ∷ []) ts))
      ∙ args_pass r spot g (us ++ t ∷ []) cs h o rest s
      (term_passes q spot (call_of g us ∷ cs) h o (Comma ∷ (js ++ Close ∷ rest)) s tt
      (ap (λ (ls : List Token). go (state (WantsTerm spot (call_of g us ∷ cs)) h o) ls) (sym (append_assoc ks (Comma ∷ js) (Close ∷ rest))) ∙ e))

-- an equation

data Relates : Token → Type 0 where
  equals_relates : Relates Equals
  unequal_relates : Relates Unequal

relates_stops : (spot : Spot) (cs : List Call) (t : Term) (h : Group) (o : List Group) (k : Token) → Relates k → NotFirst spot cs → behind_term spot cs t h o k ≡ Err Unexpected
relates_stops (Argument p ts) [] t h o k equals_relates n = refl
relates_stops (Argument p ts) [] t h o k unequal_relates n = refl
relates_stops Left [] t h o k i n = absurd n
relates_stops (Right a q) [] t h o k equals_relates n = refl
relates_stops (Right a q) [] t h o k unequal_relates n = refl
relates_stops spot (c ∷ cs) t h o k equals_relates n = refl
relates_stops spot (c ∷ cs) t h o k unequal_relates n = refl

relates_no_open : (k : Token) (rest : List Token) → Relates k → NoOpen (k ∷ rest)
relates_no_open k rest equals_relates = tt
relates_no_open k rest unequal_relates = tt

-- the mode can be reached
abbrev IsMode : Mode → Type 0
IsMode (WantsTerm spot cs) = NotFirst spot cs
IsMode m = Unit {0}

in_term : {m : ℕ} {ks : List Token} {t : Term} → SpellsTerm m ks t → (spot : Spot) (cs : List Call) (h : Group) (o : List Group) (k : Token) (rest : List Token) (s : Sent) → Relates k → NotFirst spot cs → go (state (WantsTerm spot cs) h o) (ks ++ (k ∷ rest)) ≡ Ok s → ⊥
in_term {m} {ks} {t} q spot cs h o k rest s i n e = stopped rest s (behind_term spot cs t h o k) (relates_stops spot cs t h o k i n) (term_passes q spot cs h o (k ∷ rest) s (relates_no_open k rest i) e)

part_stops : (h : Group) (o : List Group) (k : Token) (rest : List Token) (s : Sent) → Relates k → go (state WantsPart h o) (k ∷ rest) ≡ Ok s → ⊥
part_stops h o k rest s equals_relates e = no_ok Unexpected s e
part_stops h o k rest s unequal_relates e = no_ok Unexpected s e

bound_word : (b : Bool) (st : State) (rest : List Token) (s : Sent) → onward rest (if b then Ok st else Err Unexpected) ≡ Ok s → go st rest ≡ Ok s
bound_word true st rest s e = e
bound_word false st rest s e = absurd (no_ok Unexpected s e)

in_variable : {m : ℕ} {ks : List Token} {t : Term} → SpellsTerm m ks t → (q : Quantifier) (h : Group) (o : List Group) (k : Token) (rest : List Token) (s : Sent) → Relates k → go (state (WantsVariable q) h o) (ks ++ (k ∷ rest)) ≡ Ok s → ⊥
in_variable (variable m x i) q h o k rest s r e = part_stops (group_of h.room (Quantified q x ∷ h.prefixes) h.begun) o k rest s r (bound_word (is_variable x) (state WantsPart (group_of h.room (Quantified q x ∷ h.prefixes) h.begun) o) (k ∷ rest) s e)
in_variable (name m n i) q h o k rest s r e = bound_stops q h o n (is_variable n) (state WantsPart (group_of h.room (Quantified q n ∷ h.prefixes) h.begun) o) (k ∷ rest) s refl (λ v. true_false (is_variable n) v (name_no_variable n i)) e
in_variable (function m g ks ts i d) q h o k rest s r e =
    bound_stops q h o g (is_variable g) (state WantsPart (group_of h.room (Quantified q g ∷ h.prefixes) h.begun) o) ((Open ∷ ks ++ Close ∷ []) ++ (k ∷ rest)) s refl (λ v. true_false (is_variable g) v (name_no_variable g i)) e

in_has : {m : ℕ} {ks : List Token} {t : Term} → SpellsTerm m ks t → (spot : Spot) (cs : List Call) (r : Read) (h : Group) (o : List Group) (rest : List Token) (s : Sent) → go (state (HasTerm spot cs r) h o) (ks ++ rest) ≡ Ok s → ⊥
in_has (variable m x i) spot cs r h o rest s e = stopped rest s (after_term spot cs r h o (Identifier x)) (term_stops spot cs r h o x) e
in_has (name m n i) spot cs r h o rest s e = stopped rest s (after_term spot cs r h o (Identifier n)) (term_stops spot cs r h o n) e
in_has (function m g ks ts i d) spot cs r h o rest s e = stopped ((Open ∷ ks ++ Close ∷ []) ++ rest) s (after_term spot cs r h o (Identifier g)) (term_stops spot cs r h o g) e

in_predicate : {m : ℕ} {ks : List Token} {t : Term} → SpellsTerm m ks t → (p : Word) (h : Group) (o : List Group) (rest : List Token) (s : Sent) → go (state (HasPredicate p) h o) (ks ++ rest) ≡ Ok s → ⊥
in_predicate (variable m x i) p h o rest s e = no_ok Unexpected s e
in_predicate (name m n i) p h o rest s e = no_ok Unexpected s e
in_predicate (function m g ks ts i d) p h o rest s e = no_ok Unexpected s e

in_part : {m : ℕ} {ks : List Token} {t : Term} → SpellsTerm m ks t → (p : Sent) (h : Group) (o : List Group) (rest : List Token) (s : Sent) → go (state (HasPart p) h o) (ks ++ rest) ≡ Ok s → ⊥
in_part (variable m x i) p h o rest s e = no_ok Unexpected s e
in_part (name m n i) p h o rest s e = no_ok Unexpected s e
in_part (function m g ks ts i d) p h o rest s e = no_ok Unexpected s e

equation_wanted : {n : ℕ} {ks : List Token} {t : Term} → SpellsTerm n ks t → (m : Mode) (h : Group) (o : List Group) (k : Token) (rest : List Token) (s : Sent) → Relates k → IsMode m → go (state m h o) (ks ++ (k ∷ rest)) ≡ Ok s → Wants m
equation_wanted q WantsPart h o k rest s i n e = tt
equation_wanted q (WantsVariable v) h o k rest s i n e = in_variable q v h o k rest s i e
equation_wanted q (HasPredicate p) h o k rest s i n e = in_predicate q p h o (k ∷ rest) s e
equation_wanted q (WantsTerm spot cs) h o k rest s i n e = in_term q spot cs h o k rest s i n e
equation_wanted q (HasTerm spot cs r) h o k rest s i n e = in_has q spot cs r h o (k ∷ rest) s e
equation_wanted q (HasPart p) h o k rest s i n e = in_part q p h o (k ∷ rest) s e

-- a group, where its sentence is read only where a part is wanted

abbrev WantedBy : List Token → Type 0
WantedBy ks = (m : Mode) (h : Group) (o : List Group) (rest : List Token) (s : Sent) → IsMode m → go (state m h o) (ks ++ rest) ≡ Ok s → Wants m

not_first : (spot : Spot) (c : Call) (cs : List Call) → NotFirst spot (c ∷ cs)
not_first Left c cs = tt
not_first (Argument p ts) c cs = tt
not_first (Right a r) c cs = tt

spot_shut : (spot : Spot) (cs : List Call) (t : Term) (h : Group) (o : List Group) → behind_term spot cs t h o Open ≡ Err Unexpected
spot_shut (Argument p ts) [] t h o = refl
spot_shut Left [] t h o = refl
spot_shut (Right a q) [] t h o = refl
spot_shut spot (c ∷ cs) t h o = refl

group_wanted : (ks : List Token) → WantedBy ks → (m : Mode) (h : Group) (o : List Group) (rest : List Token) (s : Sent) → go (state m h o) (Open ∷ (ks ++ rest)) ≡ Ok s → Wants m
group_wanted ks ih WantsPart h o rest s e = tt
group_wanted ks ih (WantsVariable q) h o rest s e = no_ok Unexpected s e
group_wanted ks ih (HasPredicate p) h o rest s e = ih (WantsTerm (Argument p []) []) h o rest s tt e
group_wanted ks ih (WantsTerm spot cs) h o rest s e = no_ok Unexpected s e
group_wanted ks ih (HasTerm spot cs (Variable x)) h o rest s e = stopped (ks ++ rest) s (behind_term spot cs (Var x) h o Open) (spot_shut spot cs (Var x) h o) e
group_wanted ks ih (HasTerm spot cs (Function t)) h o rest s e = stopped (ks ++ rest) s (behind_term spot cs t h o Open) (spot_shut spot cs t h o) e
group_wanted ks ih (HasTerm spot cs (Symbol g)) h o rest s e =
    ih (WantsTerm spot (call_of g [] ∷ cs)) h o rest s (not_first spot (call_of g []) cs) (room_passes (nat_lt (length h.prefixes + length cs) h.room) (state (WantsTerm spot (call_of g [] ∷ cs)) h o) (ks ++ rest) s e)
group_wanted ks ih (HasPart p) h o rest s e = no_ok Unexpected s e

-- a part is read only where one is wanted

joined_wanted : (ks : List Token) (k : Token) (js : List Token) → WantedBy ks → WantedBy (ks ++ k ∷ js)
joined_wanted ks k js ih m h o rest s i e = ih m h o (k ∷ (js ++ rest)) s i (ap (λ (ls : List Token). go (state m h o) ls) (sym (append_assoc ks (k ∷ js) rest)) ∙ e)

related_wanted : {n : ℕ} {ks : List Token} {t : Term} → SpellsTerm n ks t → (k : Token) (js : List Token) → Relates k → WantedBy (ks ++ k ∷ js)
related_wanted {n} {ks} {t} q k js r m h o rest s i e = equation_wanted q m h o k (js ++ rest) s r i (ap (λ (ls : List Token). go (state m h o) ls) (sym (append_assoc ks (k ∷ js) rest)) ∙ e)

mutual
  part_wanted : {n : ℕ} {ks : List Token} {p : Sent} → SpellsPart n ks p → WantedBy ks
  part_wanted (letter n p i) m h o rest s j e = predicate_wanted m h o p rest s i e
  part_wanted (atom n p ks ts i q) m h o rest s j e = predicate_wanted m h o p ((Open ∷ ks ++ Close ∷ []) ++ rest) s i e
  part_wanted (equation n ks js a b x y) m h o rest s j e = related_wanted x Equals js equals_relates m h o rest s j e
  part_wanted (inequation n ks js a b x y) m h o rest s j e = related_wanted x Unequal js unequal_relates m h o rest s j e
  part_wanted (falsum n) m h o rest s j e = sign_wanted m h o FalsumSign rest s falsum_begins e
  part_wanted (negation n ks p q) m h o rest s j e = sign_wanted m h o NotSign (ks ++ rest) s not_begins e
  part_wanted (universal n x ks p v q) m h o rest s j e = sign_wanted m h o AllSign (Identifier x ∷ (ks ++ rest)) s all_begins e
  part_wanted (existential n x ks p v q) m h o rest s j e = sign_wanted m h o ExistsSign (Identifier x ∷ (ks ++ rest)) s some_begins e
  part_wanted (group n ks p q) m h o rest s j e =
      group_wanted ks (sentence_wanted q) m h o (Close ∷ rest) s (ap (λ (ls : List Token). go (state m h o) (Open ∷ ls)) (sym (append_assoc ks (Close ∷ []) rest)) ∙ e)

  sentence_wanted : {n : ℕ} {ks : List Token} {p : Sent} → Spells n ks p → WantedBy ks
  sentence_wanted (one_part n ks p q) = part_wanted q
  sentence_wanted (conjunction n ks js p ps q r) = joined_wanted ks AndSign js (part_wanted q)
  sentence_wanted (disjunction n ks js p ps q r) = joined_wanted ks OrSign js (part_wanted q)
  sentence_wanted (conditional n ks js p t q r) = joined_wanted ks IfSign js (part_wanted q)
  sentence_wanted (biconditional n ks js p t q r) = joined_wanted ks IffSign js (part_wanted q)

-- a connective behind a part is never unexpected
abbrev Expected : Result State Refusal → Type 0
Expected (Err Unexpected) = ⊥
Expected r = Unit {0}

conjoin_expected : (s : Sent) (b : Begun) (h : Group) (o : List Group) → Expected (joined h o (conjoin s b))
conjoin_expected s Nothing h o = tt
conjoin_expected s (Conjunction ps) h o = tt
conjoin_expected s b h o = tt

disjoin_expected : (s : Sent) (b : Begun) (h : Group) (o : List Group) → Expected (joined h o (disjoin s b))
disjoin_expected s Nothing h o = tt
disjoin_expected s (Disjunction ps) h o = tt
disjoin_expected s b h o = tt

imply_expected : (s : Sent) (b : Begun) (h : Group) (o : List Group) → Expected (joined h o (imply s b))
imply_expected s Nothing h o = tt
imply_expected s b h o = tt

equate_expected : (s : Sent) (b : Begun) (h : Group) (o : List Group) → Expected (joined h o (equate s b))
equate_expected s Nothing h o = tt
equate_expected s b h o = tt

after_expected : (s : Sent) (h : Group) (o : List Group) (k : Token) → IsConnective k → Expected (after_part s h o k)
after_expected s h o k and_is = conjoin_expected s h.begun h o
after_expected s h o k or_is = disjoin_expected s h.begun h o
after_expected s h o k if_is = imply_expected s h.begun h o
after_expected s h o k iff_is = equate_expected s h.begun h o

predicate_expected : (p : Word) (h : Group) (o : List Group) (k : Token) → IsConnective k → Expected (after_predicate p h o k)
predicate_expected p h o k and_is = after_expected (wrapped h.prefixes (Atom p [])) (group_of h.room [] h.begun) o AndSign and_is
predicate_expected p h o k or_is = after_expected (wrapped h.prefixes (Atom p [])) (group_of h.room [] h.begun) o OrSign or_is
predicate_expected p h o k if_is = after_expected (wrapped h.prefixes (Atom p [])) (group_of h.room [] h.begun) o IfSign if_is
predicate_expected p h o k iff_is = after_expected (wrapped h.prefixes (Atom p [])) (group_of h.room [] h.begun) o IffSign iff_is

-- a reached mode
mode_is : (top : ℕ) (m : Mode) (h : Group) (o : List Group) (ks : List Token) → Built top (state m h o) ks → IsMode m
mode_is top WantsPart h o ks b = tt
mode_is top (WantsVariable q) h o ks b = tt
mode_is top (HasPredicate p) h o ks b = tt
mode_is top (WantsTerm spot cs) h o ks b = b.pending.0
mode_is top (HasTerm spot cs r) h o ks b = tt
mode_is top (HasPart s) h o ks b = tt

-- two ways of reading on differ where the one is unexpected, and the other isn't
err_differ : (r : Result Sent Refusal) (s : Sent) → r ≡ Err Unexpected → r ≡ Ok s → ⊥
err_differ r s e f = cc

refusals_differ : (r : Result Sent Refusal) (refusal : Refusal) → r ≡ Err Unexpected → r ≡ Err refusal → refusal ≡ Unexpected
refusals_differ r refusal e f = cc

-- where each continuation is unexpected, so is the token
continues : (st : State) (k : Token) → ((js : List Token) → go st (k ∷ js) ≡ Err Unexpected) → (r : Result State Refusal) → step st k ≡ r → r ≡ Err Unexpected
continues st k f (Err refusal) e = ap (λ (x : Refusal). Err x) (refusals_differ (go st (k ∷ [])) refusal (f []) (go_by st k [] (Err refusal) e))
continues st k f (Ok next) e =
    let d = finishes next.mode next.here next.outer in
    absurd (err_differ (go st (k ∷ d.tokens)) d.sentence (f d.tokens) (go_by st k d.tokens (Ok next) e ∙ d.goes))

connective_no_open : (k : Token) (js : List Token) → IsConnective k → NoOpen (k ∷ js)
connective_no_open k js and_is = tt
connective_no_open k js or_is = tt
connective_no_open k js if_is = tt
connective_no_open k js iff_is = tt

unexpected_not : (r : Result State Refusal) → Expected r → r ≡ Err Unexpected → ⊥
unexpected_not r x e = subst Expected e x

-- the machine reads a part where one is wanted, and then a connective
room_for : (r n l : ℕ) → r + (n + l) ≡ (r + n) + l
room_for r n l = omega arith

behind_part : (m : Mode) (h : Group) (o : List Group) (n : ℕ) (part : List Token) (p : Sent) (k : Token) (st : State) → Wants m → SpellsPart n part p → h.room ≡ n + length h.prefixes → IsConnective k → reach (state m h o) part ≡ Ok st → step st k ≡ Err Unexpected → ⊥
behind_part WantsPart h o n part p k st w q e i d f =
    unexpected_not (after_part (wrapped h.prefixes p) (group_of h.room [] h.begun) o k) (after_expected (wrapped h.prefixes p) (group_of h.room [] h.begun) o k i)
    (continues (finished p h o) k (λ js.
    sym (part_read q h.room h.prefixes h.begun o (k ∷ js) e (connective_no_open k js i))
    ∙ reach_then part (k ∷ js) (state WantsPart h o) st d ∙ go_by st k js (Err Unexpected) f) (step (finished p h o) k) refl)
behind_part (WantsVariable v) h o n part p k st w q e i d f = w
behind_part (HasPredicate v) h o n part p k st w q e i d f = w
behind_part (WantsTerm v cs) h o n part p k st w q e i d f = w
behind_part (HasTerm v cs r) h o n part p k st w q e i d f = w
behind_part (HasPart v) h o n part p k st w q e i d f = w

-- the tokens before lead somewhere
split_by : (k : Token) (ks js : List Token) (st st' : State) (r : Result State Refusal) → ((next : State) → reach next (ks ++ js) ≡ Ok st' → (mid : State) × ((reach next ks ≡ Ok mid) × (reach mid js ≡ Ok st'))) → step st k ≡ r → reach st (k ∷ (ks ++ js)) ≡ Ok st' → (mid : State) × ((reach st (k ∷ ks) ≡ Ok mid) × (reach mid js ≡ Ok st'))
split_by k ks js st st' (Err refusal) ih e d = absurd (no_state refusal st' (sym (reach_by st k (ks ++ js) (Err refusal) e) ∙ d))
split_by k ks js st st' (Ok next) ih e d =
    let (mid, (f, g)) = ih next (sym (reach_by st k (ks ++ js) (Ok next) e) ∙ d) in
    (mid, (reach_by st k ks (Ok next) e ∙ f, g))

split : (ks js : List Token) (st st' : State) → reach st (ks ++ js) ≡ Ok st' → (mid : State) × ((reach st ks ≡ Ok mid) × (reach mid js ≡ Ok st'))
split [] js st st' d = (st, (refl, d))
split (k ∷ ks) js st st' d = split_by k ks js st st' (step st k) (λ next e. split ks js next st' e) refl d

wanted_at : (top : ℕ) (before part : List Token) (n : ℕ) (p : Sent) (mid st : State) → SpellsPart n part p → reach (begin top) before ≡ Ok mid → reach mid part ≡ Ok st → Wants mid.mode
wanted_at top before part n p mid st q e d =
    let f = finishes st.mode st.here st.outer in
    part_wanted q mid.mode mid.here mid.outer f.tokens f.sentence (mode_is top mid.mode mid.here mid.outer before (reached top before mid e))
    (reach_then part f.tokens mid st d ∙ f.goes)

joins_by : (top : ℕ) (before part : List Token) (n : ℕ) (p : Sent) (k : Token) (mid st : State) → SpellsPart n part p → IsConnective k → reach (begin top) before ≡ Ok mid → reach mid part ≡ Ok st → step st k ≡ Err Unexpected → ⊥
joins_by top before part n p k mid st q i e d f =
    let more = n + length mid.here.prefixes in
    behind_part mid.mode (wide more mid).here (wide more mid).outer (mid.here.room + n) part p k (wide more st)
    (wanted_at top before part n p mid st q e d) (part_much_wider mid.here.room n part p q) (room_for mid.here.room n (length mid.here.prefixes)) i
    (reach_lifts more part mid st d) (unexpected_lifts more st k f)

-- an unexpected token is no connective behind a part
pub unexpected_joins_none : (top : ℕ) (ks : List Token) (k : Token) (st : State) → reach (begin top) ks ≡ Ok st → step st k ≡ Err Unexpected → JoinsPart ks k → ⊥
unexpected_joins_none top ks k st e f (i, p) =
    let (mid, (d, g)) = split p.before p.part (begin top) st (ap (λ (js : List Token). reach (begin top) js) (sym p.is_all) ∙ e) in
    joins_by top p.before p.part p.room p.sentence k mid st p.spells i d g f

-- an ambiguous token is a connective behind a part

abbrev Judges : List Token → Token → Result State Refusal → Type 0
Judges ks k (Err Ambiguous) = JoinsPart ks k
Judges ks k r = Unit {0}

judge_if : (ks : List Token) (k : Token) (b : Bool) (st : State) → Judges ks k (if b then Ok st else Err Unexpected)
judge_if ks k true st = tt
judge_if ks k false st = tt

judge_room : (ks : List Token) (k : Token) (b : Bool) (st : State) → Judges ks k (if b then Ok st else Err TooDeep)
judge_room ks k true st = tt
judge_room ks k false st = tt

judge_read : (ks : List Token) (k : Token) (f : Option Read) (next : Read → State) → Judges ks k (with_word f next)
judge_read ks k None next = tt
judge_read ks k (Some t) next = tt

judge_word : (ks : List Token) (w : Word) (h : Group) (o : List Group) (p : Bool) → Judges ks (Identifier w) (if p then Ok (state (HasPredicate w) h o) else with_word (word_of w) (λ r. state (HasTerm Left [] r) h o))
judge_word ks w h o true = tt
judge_word ks w h o false = judge_read ks (Identifier w) (word_of w) (λ r. state (HasTerm Left [] r) h o)

judge_begin : (ks : List Token) (h : Group) (o : List Group) (k : Token) → Judges ks k (begin_part h o k)
judge_begin ks h o (Identifier w) = judge_word ks w h o (is_predicate w)
judge_begin ks h o NotSign = judge_room ks NotSign (nat_lt (length h.prefixes) h.room) (negated h o)
judge_begin ks h o AllSign = judge_room ks AllSign (nat_lt (length h.prefixes) h.room) (state (WantsVariable Universal) h o)
judge_begin ks h o ExistsSign = judge_room ks ExistsSign (nat_lt (length h.prefixes) h.room) (state (WantsVariable Existential) h o)
judge_begin ks h o Open = judge_room ks Open (nat_lt (length h.prefixes) h.room) (open_group h o)
judge_begin ks h o FalsumSign = tt
judge_begin ks h o k = tt

judge_close : (ks : List Token) (s : Sent) (h : Group) (o : List Group) → Judges ks Close (close_group s h o)
judge_close ks s h [] = tt
judge_close ks s h (g ∷ o) = tt

judge_joined : (ks : List Token) (k : Token) (h : Group) (o : List Group) (r : Result Begun Refusal) → JoinsPart ks k → Judges ks k (joined h o r)
judge_joined ks k h o (Ok b) j = tt
judge_joined ks k h o (Err Ambiguous) j = j
judge_joined ks k h o (Err Unexpected) j = tt
judge_joined ks k h o (Err TooDeep) j = tt
judge_joined ks k h o (Err Memory) j = tt

ends_in_part : (top : ℕ) (s : Sent) (h : Group) (o : List Group) (ks : List Token) → AtPart top s h o ks → EndsInPart ks
ends_in_part top s h o ks a = record { before = a.before ++ a.chain; part = a.now; is_all = a.all; room = h.room; sentence = s; spells = a.spells }

judge_part : (top : ℕ) (ks : List Token) (s : Sent) (h : Group) (o : List Group) (k : Token) → EndsInPart ks → Judges ks k (after_part s h o k)
judge_part top ks s h o Close e = judge_close ks s h o
judge_part top ks s h o AndSign e = judge_joined ks AndSign h o (conjoin s h.begun) (and_is, e)
judge_part top ks s h o OrSign e = judge_joined ks OrSign h o (disjoin s h.begun) (or_is, e)
judge_part top ks s h o IfSign e = judge_joined ks IfSign h o (imply s h.begun) (if_is, e)
judge_part top ks s h o IffSign e = judge_joined ks IffSign h o (equate s h.begun) (iff_is, e)
judge_part top ks s h o k e = tt

judge_predicate : (top : ℕ) (ks : List Token) (p : Word) (h : Group) (o : List Group) (k : Token) → EndsInPart ks → Judges ks k (after_predicate p h o k)
judge_predicate top ks p h o Open e = tt
judge_predicate top ks p h o k e = judge_part top ks (wrapped h.prefixes (Atom p [])) (group_of h.room [] h.begun) o k e

judge_variable : (ks : List Token) (q : Quantifier) (h : Group) (o : List Group) (k : Token) → Judges ks k (take_variable q h o k)
judge_variable ks q h o (Identifier x) = judge_if ks (Identifier x) (is_variable x) (state WantsPart (group_of h.room (Quantified q x ∷ h.prefixes) h.begun) o)
judge_variable ks q h o k = tt

judge_take : (ks : List Token) (spot : Spot) (cs : List Call) (h : Group) (o : List Group) (k : Token) → Judges ks k (take_term spot cs h o k)
judge_take ks spot cs h o (Identifier w) = judge_read ks (Identifier w) (word_of w) (λ r. state (HasTerm spot cs r) h o)
judge_take ks spot cs h o k = tt

judge_end : (ks : List Token) (p : Word) (ts : List Term) (h : Group) (o : List Group) (k : Token) → Judges ks k (after_argument p ts h o k)
judge_end ks p ts h o Comma = tt
judge_end ks p ts h o Close = tt
judge_end ks p ts h o k = tt

judge_left : (ks : List Token) (a : Term) (h : Group) (o : List Group) (k : Token) → Judges ks k (after_left a h o k)
judge_left ks a h o Equals = tt
judge_left ks a h o Unequal = tt
judge_left ks a h o k = tt

judge_call : (ks : List Token) (spot : Spot) (g : Word) (us : List Term) (cs : List Call) (t : Term) (h : Group) (o : List Group) (k : Token) → Judges ks k (in_call spot g us cs t h o k)
judge_call ks spot g us cs t h o Comma = tt
judge_call ks spot g us cs t h o Close = tt
judge_call ks spot g us cs t h o k = tt

judge_behind : (top : ℕ) (ks : List Token) (spot : Spot) (cs : List Call) (r : Read) (h : Group) (o : List Group) (k : Token) → Built top (state (HasTerm spot cs r) h o) ks → Judges ks k (behind_term spot cs (read_term r) h o k)
judge_behind top ks (Argument p ts) [] r h o k b = judge_end ks p (ts ++ read_term r ∷ []) h o k
judge_behind top ks Left [] r h o k b = judge_left ks (read_term r) h o k
judge_behind top ks (Right a q) [] r h o k b = judge_part top ks (wrapped h.prefixes (related a q (read_term r))) (group_of h.room [] h.begun) o k (ends_in_part top (wrapped h.prefixes (related a q (read_term r))) (group_of h.room [] h.begun) o ks (at_right top a q r h o ks b))
judge_behind top ks spot (c ∷ cs) r h o k b = judge_call ks spot c.symbol c.arguments cs (read_term r) h o k

judge_term : (top : ℕ) (ks : List Token) (spot : Spot) (cs : List Call) (r : Read) (h : Group) (o : List Group) (k : Token) → Built top (state (HasTerm spot cs r) h o) ks → Judges ks k (after_term spot cs r h o k)
judge_term top ks spot cs (Symbol g) h o Open b = judge_room ks Open (nat_lt (length h.prefixes + length cs) h.room) (state (WantsTerm spot (call_of g [] ∷ cs)) h o)
judge_term top ks spot cs (Symbol g) h o k b = judge_behind top ks spot cs (Symbol g) h o k b
judge_term top ks spot cs (Variable x) h o k b = judge_behind top ks spot cs (Variable x) h o k b
judge_term top ks spot cs (Function t) h o k b = judge_behind top ks spot cs (Function t) h o k b

judge_in : (top : ℕ) (m : Mode) (h : Group) (o : List Group) (ks : List Token) (k : Token) → Built top (state m h o) ks → Judges ks k (step_in m h o k)
judge_in top WantsPart h o ks k b = judge_begin ks h o k
judge_in top (WantsVariable q) h o ks k b = judge_variable ks q h o k
judge_in top (HasPredicate p) h o ks k b = judge_predicate top ks p h o k (ends_in_part top (wrapped h.prefixes (Atom p [])) (group_of h.room [] h.begun) o ks (at_part top (wrapped h.prefixes (Atom p [])) (group_of h.room [] h.begun) o ks (letter_built top p h o ks b)))
judge_in top (WantsTerm spot cs) h o ks k b = judge_take ks spot cs h o k
judge_in top (HasTerm spot cs r) h o ks k b = judge_term top ks spot cs r h o k b
judge_in top (HasPart s) h o ks k b = judge_part top ks s h o k (ends_in_part top s h o ks (at_part top s h o ks b))

pub ambiguous_joins : (top : ℕ) (ks : List Token) (k : Token) (st : State) → Built top st ks → step st k ≡ Err Ambiguous → JoinsPart ks k
ambiguous_joins top ks k st b e = subst (λ (r : Result State Refusal). Judges ks k r) e (judge_in top st.mode st.here st.outer ks k b)
