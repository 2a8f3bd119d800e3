-- More room changes nothing but that less is too deep.
use Rattle.std.proofs.Common.{◌≡◌, ℕ, zero, suc, ◌+◌, ◌-◌, ◌<◌, ltb-true, lt-ltb, nat_lt, Bool, true, false, arith, List, [], ◌∷◌, ◌++◌, length, map, Option, Some, None, Result, Ok, Err, if◌then◌else◌, refl, ap, sym, ◌∙◌, subst}
use Rattle.fol_core.specs.Word.{Word, is_predicate, is_variable}
use Rattle.fol_core.specs.declared.sent.Term.{Term}
use Rattle.fol_core.specs.declared.sent.Sent.{Sent}
use Rattle.fol_core.specs.declared.sent.Sent.TheVariants.{Atom}
use Rattle.fol_text.specs.declared.fault.Refusal.{Refusal}
use Rattle.fol_text.specs.declared.fault.Refusal.TheVariants.{Ambiguous, Unexpected, TooDeep, Memory}
use Rattle.fol_text.specs.declared.token.Token.{Token}
use Rattle.fol_text.specs.declared.token.Token.TheVariants.{NotSign, AndSign, OrSign, IfSign, IffSign, AllSign, ExistsSign, FalsumSign, Equals, Unequal, Open, Close, Comma, Identifier}
use Rattle.fol_text.specs.declared.state.Quantifier.{Quantifier}
use Rattle.fol_text.specs.declared.state.Quantifier.TheVariants.{Universal, Existential}
use Rattle.fol_text.specs.declared.state.Prefix.TheVariants.{Quantified}
use Rattle.fol_text.specs.declared.state.Relation.{Relation}
use Rattle.fol_text.specs.declared.state.Begun.{Begun}
use Rattle.fol_text.specs.declared.state.Begun.TheVariants.{Nothing, Conjunction, Disjunction}
use Rattle.fol_text.specs.declared.state.Mode.{Mode}
use Rattle.fol_text.specs.declared.state.Mode.TheVariants.{WantsPart, WantsVariable, HasPredicate, WantsTerm, HasTerm, HasPart}
use Rattle.fol_text.specs.declared.state.Read.{Read}
use Rattle.fol_text.specs.declared.state.Read.TheVariants.{Variable, Symbol, Function}
use Rattle.fol_text.specs.declared.state.Spot.{Spot}
use Rattle.fol_text.specs.declared.state.Spot.TheVariants.{Argument, Left, Right}
use Rattle.fol_text.specs.declared.state.Call.{Call}
use Rattle.fol_text.specs.declared.state.Group.{Group}
use Rattle.fol_text.specs.declared.state.State.{State}
use Rattle.fol_text.specs.Grammar.{Spells, SpellsPart}
use Rattle.fol_text.specs.Machine.{state, group_of, wrapped, finished, related, word_of, with_word, read_term, open_call, call_of, in_call, at_spot, behind_term, after_term, after_right, with_room, negated, open_group, close_group, begun_by, joined, after_part, begin_part, take_variable, after_predicate, take_term, after_argument, after_left, step_in, step, reach}
use Rattle.fol_text.proofs.Spelling.{wider, part_wider}
use Rattle.fol_text.proofs.Finishing.{reach_by}

-- the group with so much more room
abbrev wide_group : ℕ → Group → Group
wide_group d g = group_of (g.room + d) g.prefixes g.begun

-- the state with so much more room in each group
abbrev pub wide : ℕ → State → State
wide d st = state st.mode (wide_group d st.here) (map (wide_group d) st.outer)

-- what a step gives with more room: the same, but a token that was too deep is taken where the prefixes are fewer
abbrev Lifts : ℕ → ℕ → Result State Refusal → Result State Refusal → Type 0
Lifts d l (Ok next) r = r ≡ Ok (wide d next)
Lifts d l (Err TooDeep) r = l < d → (next : State) × (r ≡ Ok next)
Lifts d l (Err Ambiguous) r = r ≡ Err Ambiguous
Lifts d l (Err Unexpected) r = r ≡ Err Unexpected
Lifts d l (Err Memory) r = r ≡ Err Memory

lifts_if : (d l : ℕ) (b : Bool) (st : State) → Lifts d l (if b then Ok st else Err Unexpected) (if b then Ok (wide d st) else Err Unexpected)
lifts_if d l true st = refl
lifts_if d l false st = refl

lifts_word : (d l : ℕ) (f : Option Read) (next next' : Read → State) → ((t : Read) → next' t ≡ wide d (next t)) → Lifts d l (with_word f next) (with_word f next')
lifts_word d l None next next' e = refl
lifts_word d l (Some t) next next' e = ap (λ (st : State). Ok st) (e t)

still_room : (d l n : ℕ) → nat_lt l n ≡ true → nat_lt l (n + d) ≡ true
still_room d l n e = let h : l < n = ltb-true l n e in lt-ltb l (n + d) (omega arith)

then_room : (d l n : ℕ) → l < d → nat_lt l (n + d) ≡ true
then_room d l n e = lt-ltb l (n + d) (omega arith)

room_by : (b : Bool) (st : State) → b ≡ true → (if b then Ok st else Err TooDeep) ≡ Ok st
room_by true st e = refl
room_by false st e = cc

lifts_room_by : (d l n : ℕ) (st st' : State) (b : Bool) → nat_lt l n ≡ b → (nat_lt l n ≡ true → st' ≡ wide d st) → Lifts d l (if b then Ok st else Err TooDeep) (if nat_lt l (n + d) then Ok st' else Err TooDeep)
lifts_room_by d l n st st' true e same = room_by (nat_lt l (n + d)) st' (still_room d l n e) ∙ ap (λ (x : State). Ok x) (same e)
lifts_room_by d l n st st' false e same = λ h. (st', room_by (nat_lt l (n + d)) st' (then_room d l n h))

inner_room : (d l n : ℕ) → nat_lt l n ≡ true → (n + d) - l - 1 ≡ (n - l - 1) + d
inner_room d l n e = let h : l < n = ltb-true l n e in omega arith

lifts_room : (d : ℕ) (h : Group) (st st' : State) → (nat_lt (length h.prefixes) h.room ≡ true → st' ≡ wide d st) → Lifts d (length h.prefixes) (with_room h st) (with_room (wide_group d h) st')
lifts_room d h st st' same = lifts_room_by d (length h.prefixes) h.room st st' (nat_lt (length h.prefixes) h.room) refl same

word_lifts : (d : ℕ) (w : Word) (h : Group) (o : List Group) (p : Bool) → Lifts d (length h.prefixes)
    (if p then Ok (state (HasPredicate w) h o) else with_word (word_of w) (λ r. state (HasTerm Left [] r) h o))
    (if p then Ok (state (HasPredicate w) (wide_group d h) (map (wide_group d) o)) else with_word (word_of w) (λ r. state (HasTerm Left [] r) (wide_group d h) (map (wide_group d) o)))
word_lifts d w h o true = refl
word_lifts d w h o false = lifts_word d (length h.prefixes) (word_of w) (λ r. state (HasTerm Left [] r) h o) (λ r. state (HasTerm Left [] r) (wide_group d h) (map (wide_group d) o)) (λ r. refl)

begin_lifts : (d : ℕ) (h : Group) (o : List Group) (k : Token) → Lifts d (length h.prefixes) (begin_part h o k) (begin_part (wide_group d h) (map (wide_group d) o) k)
begin_lifts d h o (Identifier w) = word_lifts d w h o (is_predicate w)
begin_lifts d h o FalsumSign = refl
begin_lifts d h o NotSign = lifts_room d h (negated h o) (negated (wide_group d h) (map (wide_group d) o)) (λ e. refl)
begin_lifts d h o AllSign = lifts_room d h (state (WantsVariable Universal) h o) (state (WantsVariable Universal) (wide_group d h) (map (wide_group d) o)) (λ e. refl)
begin_lifts d h o ExistsSign = lifts_room d h (state (WantsVariable Existential) h o) (state (WantsVariable Existential) (wide_group d h) (map (wide_group d) o)) (λ e. refl)
begin_lifts d h o Open = lifts_room d h (open_group h o) (open_group (wide_group d h) (map (wide_group d) o))
    (λ e. ap (λ (n : ℕ). state WantsPart (group_of n [] Nothing) (wide_group d h ∷ map (wide_group d) o)) (inner_room d (length h.prefixes) h.room e))
begin_lifts d h o k = refl

variable_lifts : (d : ℕ) (q : Quantifier) (h : Group) (o : List Group) (k : Token) → Lifts d (length h.prefixes) (take_variable q h o k) (take_variable q (wide_group d h) (map (wide_group d) o) k)
variable_lifts d q h o (Identifier x) = lifts_if d (length h.prefixes) (is_variable x) (state WantsPart (group_of h.room (Quantified q x ∷ h.prefixes) h.begun) o)
variable_lifts d q h o k = refl

close_lifts : (d l : ℕ) (s : Sent) (h : Group) (o : List Group) → Lifts d l (close_group s h o) (close_group s (wide_group d h) (map (wide_group d) o))
close_lifts d l s h [] = refl
close_lifts d l s h (g ∷ o) = refl

-- what is begun is never too deep
abbrev Shallow : Result Begun Refusal → Type 0
Shallow (Err TooDeep) = ⊥
Shallow r = Unit {0}

shallow : (s : Sent) (b : Begun) (k : Token) → Shallow (begun_by s b k)
shallow s Nothing AndSign = tt
shallow s Nothing OrSign = tt
shallow s Nothing IfSign = tt
shallow s Nothing IffSign = tt
shallow s (Conjunction ps) AndSign = tt
shallow s (Disjunction ps) OrSign = tt
shallow s b AndSign = tt
shallow s b OrSign = tt
shallow s b IfSign = tt
shallow s b IffSign = tt
shallow s b k = tt

joined_lifts : (d l : ℕ) (h : Group) (o : List Group) (r : Result Begun Refusal) → Shallow r → Lifts d l (joined h o r) (joined (wide_group d h) (map (wide_group d) o) r)
joined_lifts d l h o (Ok b) f = refl
joined_lifts d l h o (Err TooDeep) f = absurd f
joined_lifts d l h o (Err Ambiguous) f = refl
joined_lifts d l h o (Err Unexpected) f = refl
joined_lifts d l h o (Err Memory) f = refl

part_lifts : (d l : ℕ) (s : Sent) (h : Group) (o : List Group) (k : Token) → Lifts d l (after_part s h o k) (after_part s (wide_group d h) (map (wide_group d) o) k)
part_lifts d l s h o Close = close_lifts d l s h o
part_lifts d l s h o k = joined_lifts d l h o (begun_by s h.begun k) (shallow s h.begun k)

predicate_lifts : (d : ℕ) (p : Word) (h : Group) (o : List Group) (k : Token) → Lifts d (length h.prefixes) (after_predicate p h o k) (after_predicate p (wide_group d h) (map (wide_group d) o) k)
predicate_lifts d p h o Open = refl
predicate_lifts d p h o k = part_lifts d (length h.prefixes) (wrapped h.prefixes (Atom p [])) (group_of h.room [] h.begun) o k

take_lifts : (d l : ℕ) (spot : Spot) (cs : List Call) (h : Group) (o : List Group) (k : Token) → Lifts d l (take_term spot cs h o k) (take_term spot cs (wide_group d h) (map (wide_group d) o) k)
take_lifts d l spot cs h o (Identifier w) = lifts_word d l (word_of w) (λ r. state (HasTerm spot cs r) h o) (λ r. state (HasTerm spot cs r) (wide_group d h) (map (wide_group d) o)) (λ r. refl)
take_lifts d l spot cs h o k = refl

end_lifts : (d l : ℕ) (p : Word) (ts : List Term) (h : Group) (o : List Group) (k : Token) → Lifts d l (after_argument p ts h o k) (after_argument p ts (wide_group d h) (map (wide_group d) o) k)
end_lifts d l p ts h o Comma = refl
end_lifts d l p ts h o Close = refl
end_lifts d l p ts h o k = refl

left_lifts : (d l : ℕ) (a : Term) (h : Group) (o : List Group) (k : Token) → Lifts d l (after_left a h o k) (after_left a (wide_group d h) (map (wide_group d) o) k)
left_lifts d l a h o Equals = refl
left_lifts d l a h o Unequal = refl
left_lifts d l a h o k = refl

call_lifts : (d l : ℕ) (spot : Spot) (g : Word) (us : List Term) (cs : List Call) (t : Term) (h : Group) (o : List Group) (k : Token) → Lifts d l (in_call spot g us cs t h o k) (in_call spot g us cs t (wide_group d h) (map (wide_group d) o) k)
call_lifts d l spot g us cs t h o Comma = refl
call_lifts d l spot g us cs t h o Close = refl
call_lifts d l spot g us cs t h o k = refl

behind_lifts : (d l : ℕ) (spot : Spot) (cs : List Call) (t : Term) (h : Group) (o : List Group) (k : Token) → Lifts d l (behind_term spot cs t h o k) (behind_term spot cs t (wide_group d h) (map (wide_group d) o) k)
behind_lifts d l (Argument p ts) [] t h o k = end_lifts d l p (ts ++ t ∷ []) h o k
behind_lifts d l Left [] t h o k = left_lifts d l t h o k
behind_lifts d l (Right a r) [] t h o k = part_lifts d l (wrapped h.prefixes (related a r t)) (group_of h.room [] h.begun) o k
behind_lifts d l spot (c ∷ cs) t h o k = call_lifts d l spot c.symbol c.arguments cs t h o k

term_lifts : (d : ℕ) (spot : Spot) (cs : List Call) (r : Read) (h : Group) (o : List Group) (k : Token) → Lifts d (length h.prefixes + length cs) (after_term spot cs r h o k) (after_term spot cs r (wide_group d h) (map (wide_group d) o) k)
term_lifts d spot cs (Symbol g) h o Open =
    lifts_room_by d (length h.prefixes + length cs) h.room (state (WantsTerm spot (call_of g [] ∷ cs)) h o) (state (WantsTerm spot (call_of g [] ∷ cs)) (wide_group d h) (map (wide_group d) o)) (nat_lt (length h.prefixes + length cs) h.room) refl (λ e. refl)
term_lifts d spot cs (Symbol g) h o k = behind_lifts d (length h.prefixes + length cs) spot cs (read_term (Symbol g)) h o k
term_lifts d spot cs (Variable x) h o k = behind_lifts d (length h.prefixes + length cs) spot cs (read_term (Variable x)) h o k
term_lifts d spot cs (Function t) h o k = behind_lifts d (length h.prefixes + length cs) spot cs t h o k

-- how many functions a mode is in
abbrev calls_of : Mode → ℕ
calls_of (HasTerm spot cs r) = length cs
calls_of m = 0

-- how many are pending in the innermost group
abbrev pub pending : State → ℕ
pending st = length st.here.prefixes + calls_of st.mode

less : (l m d : ℕ) → l + m < d → l < d
less l m d e = omega (arith, e)

-- what is taken where fewer are pending
lifts_more : (d l m : ℕ) (a b : Result State Refusal) → Lifts d l a b → Lifts d (l + m) a b
lifts_more d l m (Ok next) b f = f
lifts_more d l m (Err TooDeep) b f = λ e. f (less l m d e)
lifts_more d l m (Err Ambiguous) b f = f
lifts_more d l m (Err Unexpected) b f = f
lifts_more d l m (Err Memory) b f = f

step_lifts_in : (d : ℕ) (m : Mode) (h : Group) (o : List Group) (k : Token) → Lifts d (length h.prefixes + calls_of m) (step_in m h o k) (step_in m (wide_group d h) (map (wide_group d) o) k)
step_lifts_in d WantsPart h o k = lifts_more d (length h.prefixes) 0 _ _ (begin_lifts d h o k)
step_lifts_in d (WantsVariable q) h o k = lifts_more d (length h.prefixes) 0 _ _ (variable_lifts d q h o k)
step_lifts_in d (HasPredicate p) h o k = lifts_more d (length h.prefixes) 0 _ _ (predicate_lifts d p h o k)
step_lifts_in d (WantsTerm spot cs) h o k = take_lifts d (length h.prefixes + 0) spot cs h o k
step_lifts_in d (HasTerm spot cs r) h o k = term_lifts d spot cs r h o k
step_lifts_in d (HasPart s) h o k = part_lifts d (length h.prefixes + 0) s h o k

step_lifts : (d : ℕ) (st : State) (k : Token) (r : Result State Refusal) → step st k ≡ r → Lifts d (pending st) r (step (wide d st) k)
step_lifts d st k r e = subst (λ (x : Result State Refusal). Lifts d (pending st) x (step (wide d st) k)) e (step_lifts_in d st.mode st.here st.outer k)

pub unexpected_lifts : (d : ℕ) (st : State) (k : Token) → step st k ≡ Err Unexpected → step (wide d st) k ≡ Err Unexpected
unexpected_lifts d st k e = step_lifts d st k (Err Unexpected) e

pub ambiguous_lifts : (d : ℕ) (st : State) (k : Token) → step st k ≡ Err Ambiguous → step (wide d st) k ≡ Err Ambiguous
ambiguous_lifts d st k e = step_lifts d st k (Err Ambiguous) e

below_next : (n : ℕ) → n < suc n
below_next n = omega arith

pub deep_lifts : (st : State) (k : Token) → step st k ≡ Err TooDeep → (next : State) × (step (wide (suc (pending st)) st) k ≡ Ok next)
deep_lifts st k e = let lift = step_lifts (suc (pending st)) st k (Err TooDeep) e in lift (below_next (pending st))

no_err : (refusal : Refusal) (st : State) → Err refusal ≡ Ok st → ⊥
no_err refusal st e = cc

reach_lifts_by : (d : ℕ) (k : Token) (ks : List Token) (st st' : State) (r : Result State Refusal) → ((next : State) → reach next ks ≡ Ok st' → reach (wide d next) ks ≡ Ok (wide d st')) → step st k ≡ r → reach st (k ∷ ks) ≡ Ok st' → reach (wide d st) (k ∷ ks) ≡ Ok (wide d st')
reach_lifts_by d k ks st st' (Err refusal) ih f e = absurd (no_err refusal st' (sym (reach_by st k ks (Err refusal) f) ∙ e))
reach_lifts_by d k ks st st' (Ok next) ih f e =
    reach_by (wide d st) k ks (Ok (wide d next)) (step_lifts d st k (Ok next) f) ∙ ih next (sym (reach_by st k ks (Ok next) f) ∙ e)

pub reach_lifts : (d : ℕ) (ks : List Token) (st st' : State) → reach st ks ≡ Ok st' → reach (wide d st) ks ≡ Ok (wide d st')
reach_lifts d [] st st' e = let same : st ≡ st' = cc in ap (λ (x : State). Ok (wide d x)) same
reach_lifts d (k ∷ ks) st st' e = reach_lifts_by d k ks st st' (step st k) (λ next f. reach_lifts d ks next st' f) refl e

one_more : (n d : ℕ) → suc (d + n) ≡ suc d + n
one_more n d = omega arith

nothing_more : (n : ℕ) → n ≡ 0 + n
nothing_more n = omega arith

-- what is spelled is spelled in so much more room
pub much_wider : (d n : ℕ) (ks : List Token) (s : Sent) → Spells n ks s → Spells (d + n) ks s
much_wider zero n ks s q = subst (λ (m : ℕ). Spells m ks s) (nothing_more n) q
much_wider (suc d) n ks s q = subst (λ (m : ℕ). Spells m ks s) (one_more n d) (wider (much_wider d n ks s q))

-- So is a part.
pub part_much_wider : (d n : ℕ) (ks : List Token) (s : Sent) → SpellsPart n ks s → SpellsPart (d + n) ks s
part_much_wider zero n ks s q = subst (λ (m : ℕ). SpellsPart m ks s) (nothing_more n) q
part_much_wider (suc d) n ks s q = subst (λ (m : ℕ). SpellsPart m ks s) (one_more n d) (part_wider (part_much_wider d n ks s q))
