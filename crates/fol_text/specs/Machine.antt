-- The reader as a machine: what it does at each token. This is how the code reads, and no definition of what a sentence
-- is; that is the grammar, and the laws in proofs/ join the two.
use Rattle.std.specs.Prelude.{◌≡◌, ◌⊎◌, ℕ, ◌+◌, ◌-◌, nat_lt, List, [], ◌∷◌, ◌++◌, length, Option, Some, None, Result, Ok, Err, if◌then◌else◌}
use Rattle.fol_core.specs.Word.{Word, is_predicate, is_variable, is_name}
use Rattle.fol_core.specs.declared.sent.Term.{Term}
use Rattle.fol_core.specs.declared.sent.Term.TheVariants.{Var, Name, App}
use Rattle.fol_core.specs.declared.sent.Sent.{Sent}
use Rattle.fol_core.specs.declared.sent.Sent.TheVariants.{Atom, Eq, Bottom, Not, And, Or, If, Iff, All, Ex}
use Rattle.fol_text.specs.declared.fault.ReadFault.{ReadFault}
use Rattle.fol_text.specs.declared.fault.ReadFault.TheVariants as read
use Rattle.fol_text.specs.declared.fault.Refusal.{Refusal}
use Rattle.fol_text.specs.declared.fault.Refusal.TheVariants.{Ambiguous, Unexpected, TooDeep, Memory}
use Rattle.fol_text.specs.declared.token.Token.{Token}
use Rattle.fol_text.specs.declared.token.Token.TheVariants.{NotSign, AndSign, OrSign, IfSign, IffSign, AllSign, ExistsSign, FalsumSign, Equals, Unequal, Open, Close, Comma, Identifier}
use Rattle.fol_text.specs.declared.state.Quantifier.{Quantifier}
use Rattle.fol_text.specs.declared.state.Quantifier.TheVariants.{Universal, Existential}
use Rattle.fol_text.specs.declared.state.Prefix.{Prefix}
use Rattle.fol_text.specs.declared.state.Prefix.TheVariants.{Negation, Quantified}
use Rattle.fol_text.specs.declared.state.Relation.{Relation}
use Rattle.fol_text.specs.declared.state.Relation.TheVariants.{Same, Different}
use Rattle.fol_text.specs.declared.state.Begun.{Begun}
use Rattle.fol_text.specs.declared.state.Read.{Read}
use Rattle.fol_text.specs.declared.state.Read.TheVariants.{Variable, Symbol, Function}
use Rattle.fol_text.specs.declared.state.Spot.{Spot}
use Rattle.fol_text.specs.declared.state.Spot.TheVariants.{Argument, Left, Right}
use Rattle.fol_text.specs.declared.state.Call.{Call}
use Rattle.fol_text.specs.declared.state.Begun.TheVariants.{Nothing, Conjunction, Disjunction, Conditional, Biconditional}
use Rattle.fol_text.specs.declared.state.Mode.{Mode}
use Rattle.fol_text.specs.declared.state.Mode.TheVariants.{WantsPart, WantsVariable, HasPredicate, WantsTerm, HasTerm, HasPart}
use Rattle.fol_text.specs.declared.state.Group.{Group}
use Rattle.fol_text.specs.declared.state.State.{State}

-- A refusal is the machine's; want of memory says nothing of it.
abbrev pub Refuses : {Y : Type 0} → Refusal → Result Y Refusal → Type 0
Refuses Memory given = Unit {0}
Refuses refusal given = given ≡ Err refusal

-- What a function of the reader answered is what the machine gives, unless memory was refused.
abbrev pub Gives : {Y : Type 0} → Result Y Refusal → Result Y Refusal → Type 0
Gives (Ok y) given = given ≡ Ok y
Gives (Err refusal) given = Refuses refusal given

-- The value that a function of the reader left is what the machine gives, unless memory was refused.
abbrev pub Leaves : {Y : Type 0} → Y → Result Unit Refusal → Result Y Refusal → Type 0
Leaves y (Ok done) given = given ≡ Ok y
Leaves y (Err refusal) given = Refuses refusal given

-- The fault that a refusal at this place is.
abbrev pub at_place : Refusal → ℕ → ReadFault
at_place Ambiguous n = read.Ambiguous n
at_place Unexpected n = read.Unexpected n
at_place TooDeep n = read.TooDeep n
at_place Memory n = read.Memory

-- What a function of the reader answered at this place is what the machine gives, unless memory was refused.
abbrev pub GivesAt : {Y : Type 0} → ℕ → Result Y ReadFault → Result Y Refusal → Type 0
GivesAt n (Ok y) given = given ≡ Ok y
GivesAt n (Err fault) given = (fault ≡ read.Memory) ⊎ ((refusal : Refusal) × ((given ≡ Err refusal) × (fault ≡ at_place refusal n)))

-- The value that a function of the reader left at this place is what the machine gives, unless memory was refused.
abbrev pub LeavesAt : {Y : Type 0} → ℕ → Y → Result Unit ReadFault → Result Y Refusal → Type 0
LeavesAt n y (Ok done) given = given ≡ Ok y
LeavesAt n y (Err fault) given = (fault ≡ read.Memory) ⊎ ((refusal : Refusal) × ((given ≡ Err refusal) × (fault ≡ at_place refusal n)))

-- The group with this room, these prefixes and what is begun in it.
abbrev pub group_of : ℕ → List Prefix → Begun → Group
group_of n ps b = record { room = n; prefixes = ps; begun = b }

-- The state with this mode, in this group, with these groups around it, the innermost first.
abbrev pub state : Mode → Group → List Group → State
state m h o = record { mode = m; here = h; outer = o }

-- The part behind the prefixes, the innermost of which comes first.
abbrev pub wrapped : List Prefix → Sent → Sent
wrapped [] s = s
wrapped (Negation ∷ ps) s = wrapped ps (Not s)
wrapped (Quantified Universal x ∷ ps) s = wrapped ps (All x s)
wrapped (Quantified Existential x ∷ ps) s = wrapped ps (Ex x s)

-- A part is complete, and with it all its prefixes.
abbrev pub finished : Sent → Group → List Group → State
finished s h o = state (HasPart (wrapped h.prefixes s)) (group_of h.room [] h.begun) o

-- The conjunction of the parts and a last one; of the last one alone it is that one.
unfoldable pub conjoined : List Sent → Sent → Sent
conjoined [] s = s
conjoined (p ∷ ps) s = And (p ∷ ps ++ s ∷ [])

-- The same with the disjunction.
unfoldable pub disjoined : List Sent → Sent → Sent
disjoined [] s = s
disjoined (p ∷ ps) s = Or (p ∷ ps ++ s ∷ [])

-- The sentence of a group, from what is begun in it and its last part.
abbrev pub whole : Begun → Sent → Sent
whole Nothing s = s
whole (Conjunction ps) s = conjoined ps s
whole (Disjunction ps) s = disjoined ps s
whole (Conditional p) s = If p s
whole (Biconditional p) s = Iff p s

-- What takes one of the room needs that there is some.
abbrev pub with_room : Group → State → Result State Refusal
with_room h st = if nat_lt (length h.prefixes) h.room then Ok st else Err TooDeep

-- A `~` stands before the part that has to come.
abbrev pub negated : Group → List Group → State
negated h o = state WantsPart (group_of h.room (Negation ∷ h.prefixes) h.begun) o

-- An opening parenthesis begins a group in the room that is left.
abbrev pub open_group : Group → List Group → State
open_group h o = state WantsPart (group_of (h.room - length h.prefixes - 1) [] Nothing) (h ∷ o)

-- A closing parenthesis makes the group's sentence a part of the group around it.
abbrev pub close_group : Sent → Group → List Group → Result State Refusal
close_group s h [] = Err Unexpected
close_group s h (g ∷ o) = Ok (finished (whole h.begun s) g o)

-- An `&` behind a part begins a conjunction or goes on with one.
abbrev pub conjoin : Sent → Begun → Result Begun Refusal
conjoin s Nothing = Ok (Conjunction (s ∷ []))
conjoin s (Conjunction ps) = Ok (Conjunction (ps ++ s ∷ []))
conjoin s _ = Err Ambiguous

-- A `|` behind a part begins a disjunction or goes on with one.
abbrev pub disjoin : Sent → Begun → Result Begun Refusal
disjoin s Nothing = Ok (Disjunction (s ∷ []))
disjoin s (Disjunction ps) = Ok (Disjunction (ps ++ s ∷ []))
disjoin s _ = Err Ambiguous

-- A `$` behind a part begins a conditional.
abbrev pub imply : Sent → Begun → Result Begun Refusal
imply s Nothing = Ok (Conditional s)
imply s _ = Err Ambiguous

-- A `%` behind a part begins a biconditional.
abbrev pub equate : Sent → Begun → Result Begun Refusal
equate s Nothing = Ok (Biconditional s)
equate s _ = Err Ambiguous

-- What is begun once a connective stands behind a part.
abbrev pub begun_by : Sent → Begun → Token → Result Begun Refusal
begun_by s b AndSign = conjoin s b
begun_by s b OrSign = disjoin s b
begun_by s b IfSign = imply s b
begun_by s b IffSign = equate s b
begun_by s b _ = Err Unexpected

-- Behind a connective a part has to come.
abbrev pub joined : Group → List Group → Result Begun Refusal → Result State Refusal
joined h o (Ok b) = Ok (state WantsPart (group_of h.room h.prefixes b) o)
joined h o (Err refusal) = Err refusal

-- Behind a part stands a connective or the end of its group.
abbrev pub after_part : Sent → Group → List Group → Token → Result State Refusal
after_part s h o Close = close_group s h o
after_part s h o k = joined h o (begun_by s h.begun k)

-- What is read of a term by an identifier, where it is one: a variable, or a name that may yet be a function's symbol.
abbrev pub word_of : Word → Option Read
word_of w = if is_variable w then Some (Variable w) else (if is_name w then Some (Symbol w) else None)

-- The term that is read, where nothing more belongs to it.
abbrev pub read_term : Read → Term
read_term (Variable x) = Var x
read_term (Symbol n) = Name n
read_term (Function t) = t

-- The function with this symbol and these arguments, whose parenthesis is open.
abbrev pub call_of : Word → List Term → Call
call_of g ts = record { symbol = g; arguments = ts }

-- The mode behind a word of a term, where there is one.
abbrev pub with_word : Option Read → (Read → State) → Result State Refusal
with_word None next = Err Unexpected
with_word (Some r) next = Ok (next r)

-- A part that an identifier begins is an atomic sentence or an equation.
abbrev pub begin_word : Word → Group → List Group → Result State Refusal
begin_word w h o = if is_predicate w then Ok (state (HasPredicate w) h o) else with_word (word_of w) (λ r. state (HasTerm Left [] r) h o)

-- A part begins with an identifier, falsum, a prefix or an opening parenthesis.
abbrev pub begin_part : Group → List Group → Token → Result State Refusal
begin_part h o (Identifier w) = begin_word w h o
begin_part h o FalsumSign = Ok (finished Bottom h o)
begin_part h o NotSign = with_room h (negated h o)
begin_part h o AllSign = with_room h (state (WantsVariable Universal) h o)
begin_part h o ExistsSign = with_room h (state (WantsVariable Existential) h o)
begin_part h o Open = with_room h (open_group h o)
begin_part h o _ = Err Unexpected

-- Behind a quantifier's sign stands its variable.
abbrev pub take_variable : Quantifier → Group → List Group → Token → Result State Refusal
take_variable q h o (Identifier x) = if is_variable x then Ok (state WantsPart (group_of h.room (Quantified q x ∷ h.prefixes) h.begun) o) else Err Unexpected
take_variable q h o _ = Err Unexpected

-- Behind a predicate stands its first argument's parenthesis; else it is a sentence letter, and a part.
abbrev pub after_predicate : Word → Group → List Group → Token → Result State Refusal
after_predicate p h o Open = Ok (state (WantsTerm (Argument p []) []) h o)
after_predicate p h o k = after_part (wrapped h.prefixes (Atom p [])) (group_of h.room [] h.begun) o k

-- The equation of two terms, or its negation.
abbrev pub related : Term → Relation → Term → Sent
related a Same b = Eq a b
related a Different b = Not (Eq a b)

-- A term begins with an identifier.
abbrev pub take_term : Spot → List Call → Group → List Group → Token → Result State Refusal
take_term spot cs h o (Identifier w) = with_word (word_of w) (λ r. state (HasTerm spot cs r) h o)
take_term spot cs h o _ = Err Unexpected

-- A function's opening parenthesis needs some room.
abbrev pub open_call : Word → Spot → List Call → Group → List Group → Result State Refusal
open_call g spot cs h o = if nat_lt (length h.prefixes + length cs) h.room then Ok (state (WantsTerm spot (call_of g [] ∷ cs)) h o) else Err TooDeep

-- Behind an argument of a function stands a comma or the closing parenthesis.
abbrev pub in_call : Spot → Word → List Term → List Call → Term → Group → List Group → Token → Result State Refusal
in_call spot g us cs t h o Comma = Ok (state (WantsTerm spot (call_of g (us ++ t ∷ []) ∷ cs)) h o)
in_call spot g us cs t h o Close = Ok (state (HasTerm spot cs (Function (App g (us ++ t ∷ [])))) h o)
in_call spot g us cs t h o _ = Err Unexpected

-- Behind an argument of a predicate stands a comma or the closing parenthesis.
abbrev pub after_argument : Word → List Term → Group → List Group → Token → Result State Refusal
after_argument p ts h o Comma = Ok (state (WantsTerm (Argument p ts) []) h o)
after_argument p ts h o Close = Ok (finished (Atom p ts) h o)
after_argument p ts h o _ = Err Unexpected

-- Behind the left term of an equation stands `=` or `#`.
abbrev pub after_left : Term → Group → List Group → Token → Result State Refusal
after_left a h o Equals = Ok (state (WantsTerm (Right a Same) []) h o)
after_left a h o Unequal = Ok (state (WantsTerm (Right a Different) []) h o)
after_left a h o _ = Err Unexpected

-- Behind the right term the equation is a part.
abbrev pub after_right : Sent → Group → List Group → Token → Result State Refusal
after_right s h o k = after_part (wrapped h.prefixes s) (group_of h.room [] h.begun) o k

-- Behind a term that stands in no function.
abbrev pub at_spot : Spot → Term → Group → List Group → Token → Result State Refusal
at_spot (Argument p ts) t h o k = after_argument p (ts ++ t ∷ []) h o k
at_spot Left t h o k = after_left t h o k
at_spot (Right a r) t h o k = after_right (related a r t) h o k

-- Behind a complete term.
abbrev pub behind_term : Spot → List Call → Term → Group → List Group → Token → Result State Refusal
behind_term spot [] t h o k = at_spot spot t h o k
behind_term spot (c ∷ cs) t h o k = in_call spot c.symbol c.arguments cs t h o k

-- Behind a term, which is a function's symbol where a parenthesis opens behind a name.
abbrev pub after_term : Spot → List Call → Read → Group → List Group → Token → Result State Refusal
after_term spot cs (Symbol g) h o Open = open_call g spot cs h o
after_term spot cs r h o k = behind_term spot cs (read_term r) h o k

-- One token, by the mode.
abbrev pub step_in : Mode → Group → List Group → Token → Result State Refusal
step_in WantsPart h o k = begin_part h o k
step_in (WantsVariable q) h o k = take_variable q h o k
step_in (HasPredicate p) h o k = after_predicate p h o k
step_in (WantsTerm spot cs) h o k = take_term spot cs h o k
step_in (HasTerm spot cs r) h o k = after_term spot cs r h o k
step_in (HasPart s) h o k = after_part s h o k

-- The state after one more token, where some sentence goes on so.
abbrev pub step : State → Token → Result State Refusal
step st k = step_in st.mode st.here st.outer k

-- The text ends behind a term: it is complete where the term is the right one of an equation.
abbrev pub ended_term : Spot → List Call → Term → Group → Result Sent Refusal
ended_term (Right a r) [] t h = Ok (whole h.begun (wrapped h.prefixes (related a r t)))
ended_term _ _ t h = Err Unexpected

-- Outside all groups a part ends the sentence.
abbrev pub ended_in : Mode → Group → List Group → Result Sent Refusal
ended_in (HasPart s) h [] = Ok (whole h.begun s)
ended_in (HasPredicate p) h [] = Ok (whole h.begun (wrapped h.prefixes (Atom p [])))
ended_in (HasTerm spot cs r) h [] = ended_term spot cs (read_term r) h
ended_in _ h _ = Err Unexpected

-- The sentence, where the text ends here.
abbrev pub ended : State → Result Sent Refusal
ended st = ended_in st.mode st.here st.outer

-- Before the first token, with this room.
abbrev pub begin : ℕ → State
begin room = state WantsPart (group_of room [] Nothing) []

-- The state that some more tokens lead to.
abbrev pub reach : State → List Token → Result State Refusal
reach st [] = Ok st
reach st (k ∷ ks) = elim (step st k) [ Ok next ↦ reach next ks | Err refusal ↦ Err refusal ]

-- The sentence that the tokens spell from here on.
abbrev pub go : State → List Token → Result Sent Refusal
go st [] = ended st
go st (k ∷ ks) = elim (step st k) [ Ok next ↦ go next ks | Err refusal ↦ Err refusal ]
