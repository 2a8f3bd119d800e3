-- Each text is readable or has a first refusal.
use Rattle.std.proofs.Common.{◌≡◌, ℕ, zero, suc, ◌+◌, ◌≤◌, arith, nat_lt, ltb-true, ltb-false, Bool, true, false, List, [], ◌∷◌, ◌++◌, ◌⊎◌, inl, inr, length, Option, Some, None, Result, Ok, Err, if◌then◌else◌, refl, ap, sym, ◌∙◌, subst, append_assoc, length-append}
use Rattle.std.proofs.lemmas.List.{append-nil}
use Rattle.texts.specs.Blanks.{is_blank}
use Rattle.fol_core.specs.Size.{within_limits, depth, nodes}
use Rattle.fol_core.specs.Blocks.{has_places}
use Rattle.fol_core.specs.Word.{Word, is_predicate, is_variable}
use Rattle.fol_core.specs.declared.sent.Term.{Term}
use Rattle.fol_core.specs.declared.sent.Sent.{Sent}
use Rattle.fol_core.specs.declared.sent.Sent.TheVariants.{Atom}
use Rattle.fol_core.specs.declared.sent.SentFault.{SentFault}
use Rattle.fol_core.specs.declared.sent.SentFault.TheVariants as limit
use Rattle.fol_text.specs.declared.fault.ReadFault.{ReadFault}
use Rattle.fol_text.specs.declared.fault.ReadFault.TheVariants.{BlockArity, FreeVariable}
use Rattle.fol_text.specs.declared.fault.ReadFault.TheVariants as read
use Rattle.fol_text.specs.declared.fault.Refusal.{Refusal}
use Rattle.fol_text.specs.declared.fault.Refusal.TheVariants.{Ambiguous, Unexpected, TooDeep, Memory}
use Rattle.fol_text.specs.declared.token.Token.{Token}
use Rattle.fol_text.specs.declared.token.Token.TheVariants.{NotSign, AndSign, OrSign, IfSign, IffSign, AllSign, ExistsSign, FalsumSign, Equals, Unequal, Open, Close, Comma, Identifier}
use Rattle.fol_text.specs.declared.token.Placed.{Placed}
use Rattle.fol_text.specs.declared.state.Quantifier.{Quantifier}
use Rattle.fol_text.specs.declared.state.Quantifier.TheVariants.{Universal, Existential}
use Rattle.fol_text.specs.declared.state.Prefix.TheVariants.{Quantified}
use Rattle.fol_text.specs.declared.state.Relation.{Relation}
use Rattle.fol_text.specs.declared.state.Begun.{Begun}
use Rattle.fol_text.specs.declared.state.Begun.TheVariants.{Nothing, Conjunction, Disjunction}
use Rattle.fol_text.specs.declared.state.Mode.{Mode}
use Rattle.fol_text.specs.declared.state.Mode.TheVariants.{WantsPart, WantsVariable, HasPredicate, WantsTerm, HasTerm, HasPart}
use Rattle.fol_text.specs.declared.state.Read.{Read}
use Rattle.fol_text.specs.declared.state.Read.TheVariants.{Variable, Symbol, Function}
use Rattle.fol_text.specs.declared.state.Spot.{Spot}
use Rattle.fol_text.specs.declared.state.Spot.TheVariants.{Argument, Left, Right}
use Rattle.fol_text.specs.declared.state.Call.{Call}
use Rattle.fol_text.specs.declared.state.Group.{Group}
use Rattle.fol_text.specs.declared.state.State.{State}
use Rattle.fol_text.specs.Tokens.{placed, tokens_of, SpellsToken, AreTokens, at_end, blank, token, IsBadAt, starts_none, past_blank, past_token}
use Rattle.fol_text.specs.Lexer.{first_token}
use Rattle.fol_text.specs.Grammar.{Spells}
use Rattle.fol_text.specs.Occurrences.{first_false, predicate_places, term_places, fitting, boundness}
use Rattle.fol_text.specs.Readable.{IsReadable, IsFit}
use Rattle.fol_text.specs.Refusals.{IsStopped, IsUnfit, depth_over, nodes_over, wrong_places, free, IsRefused, too_long, bad_byte, stopped, unfit}
use Rattle.fol_text.specs.Machine.{state, group_of, wrapped, finished, related, word_of, with_word, read_term, call_of, in_call, behind_term, after_term, negated, open_group, close_group, conjoin, disjoin, imply, equate, joined, after_part, begin_part, take_variable, after_predicate, take_term, after_argument, after_left, step_in, step, ended, begin, at_place}
use Rattle.fol_text.proofs.Lexing.{token_starts, token_sound, no_token}
use Rattle.fol_text.proofs.Stopping.{Leads, leads_none, leads_on}
use Rattle.fol_text.proofs.Reading.{stopped_by, end_refusal, stopped_early, spells_at_end}
use Rattle.fol_text.proofs.Refused.{tokens_append}
use Rattle.fol_text.proofs.Counting.{places_right, variables_bound}

-- The machine refuses no token for want of memory.
abbrev Has : Result State Refusal → Type 0
Has (Err Memory) = ⊥
Has r = Unit {0}

has_if : (b : Bool) (st : State) → Has (if b then Ok st else Err Unexpected)
has_if true st = tt
has_if false st = tt

has_room : (b : Bool) (st : State) → Has (if b then Ok st else Err TooDeep)
has_room true st = tt
has_room false st = tt

has_read : (f : Option Read) (next : Read → State) → Has (with_word f next)
has_read None next = tt
has_read (Some t) next = tt

has_word : (w : Word) (h : Group) (o : List Group) (p : Bool) → Has (if p then Ok (state (HasPredicate w) h o) else with_word (word_of w) (λ r. state (HasTerm Left [] r) h o))
has_word w h o true = tt
has_word w h o false = has_read (word_of w) (λ r. state (HasTerm Left [] r) h o)

has_begin : (h : Group) (o : List Group) (k : Token) → Has (begin_part h o k)
has_begin h o (Identifier w) = has_word w h o (is_predicate w)
has_begin h o NotSign = has_room (nat_lt (length h.prefixes) h.room) (negated h o)
has_begin h o AllSign = has_room (nat_lt (length h.prefixes) h.room) (state (WantsVariable Universal) h o)
has_begin h o ExistsSign = has_room (nat_lt (length h.prefixes) h.room) (state (WantsVariable Existential) h o)
has_begin h o Open = has_room (nat_lt (length h.prefixes) h.room) (open_group h o)
has_begin h o FalsumSign = tt
has_begin h o k = tt

has_close : (s : Sent) (h : Group) (o : List Group) → Has (close_group s h o)
has_close s h [] = tt
has_close s h (g ∷ o) = tt

has_conjoin : (s : Sent) (b : Begun) (h : Group) (o : List Group) → Has (joined h o (conjoin s b))
has_conjoin s Nothing h o = tt
has_conjoin s (Conjunction ps) h o = tt
has_conjoin s b h o = tt

has_disjoin : (s : Sent) (b : Begun) (h : Group) (o : List Group) → Has (joined h o (disjoin s b))
has_disjoin s Nothing h o = tt
has_disjoin s (Disjunction ps) h o = tt
has_disjoin s b h o = tt

has_imply : (s : Sent) (b : Begun) (h : Group) (o : List Group) → Has (joined h o (imply s b))
has_imply s Nothing h o = tt
has_imply s b h o = tt

has_equate : (s : Sent) (b : Begun) (h : Group) (o : List Group) → Has (joined h o (equate s b))
has_equate s Nothing h o = tt
has_equate s b h o = tt

has_after : (s : Sent) (h : Group) (o : List Group) (k : Token) → Has (after_part s h o k)
has_after s h o Close = has_close s h o
has_after s h o AndSign = has_conjoin s h.begun h o
has_after s h o OrSign = has_disjoin s h.begun h o
has_after s h o IfSign = has_imply s h.begun h o
has_after s h o IffSign = has_equate s h.begun h o
has_after s h o k = tt

has_predicate : (p : Word) (h : Group) (o : List Group) (k : Token) → Has (after_predicate p h o k)
has_predicate p h o Open = tt
has_predicate p h o k = has_after (wrapped h.prefixes (Atom p [])) (group_of h.room [] h.begun) o k

has_variable : (q : Quantifier) (h : Group) (o : List Group) (k : Token) → Has (take_variable q h o k)
has_variable q h o (Identifier x) = has_if (is_variable x) (state WantsPart (group_of h.room (Quantified q x ∷ h.prefixes) h.begun) o)
has_variable q h o k = tt

has_take : (spot : Spot) (cs : List Call) (h : Group) (o : List Group) (k : Token) → Has (take_term spot cs h o k)
has_take spot cs h o (Identifier w) = has_read (word_of w) (λ r. state (HasTerm spot cs r) h o)
has_take spot cs h o k = tt

has_end : (p : Word) (ts : List Term) (h : Group) (o : List Group) (k : Token) → Has (after_argument p ts h o k)
has_end p ts h o Comma = tt
has_end p ts h o Close = tt
has_end p ts h o k = tt

has_left : (a : Term) (h : Group) (o : List Group) (k : Token) → Has (after_left a h o k)
has_left a h o Equals = tt
has_left a h o Unequal = tt
has_left a h o k = tt

has_call : (spot : Spot) (g : Word) (us : List Term) (cs : List Call) (t : Term) (h : Group) (o : List Group) (k : Token) → Has (in_call spot g us cs t h o k)
has_call spot g us cs t h o Comma = tt
has_call spot g us cs t h o Close = tt
has_call spot g us cs t h o k = tt

has_behind : (spot : Spot) (cs : List Call) (t : Term) (h : Group) (o : List Group) (k : Token) → Has (behind_term spot cs t h o k)
has_behind (Argument p ts) [] t h o k = has_end p (ts ++ t ∷ []) h o k
has_behind Left [] t h o k = has_left t h o k
has_behind (Right a r) [] t h o k = has_after (wrapped h.prefixes (related a r t)) (group_of h.room [] h.begun) o k
has_behind spot (c ∷ cs) t h o k = has_call spot c.symbol c.arguments cs t h o k

has_term : (spot : Spot) (cs : List Call) (r : Read) (h : Group) (o : List Group) (k : Token) → Has (after_term spot cs r h o k)
has_term spot cs (Symbol g) h o Open = has_room (nat_lt (length h.prefixes + length cs) h.room) (state (WantsTerm spot (call_of g [] ∷ cs)) h o)
has_term spot cs (Symbol g) h o k = has_behind spot cs (read_term (Symbol g)) h o k
has_term spot cs (Variable x) h o k = has_behind spot cs (read_term (Variable x)) h o k
has_term spot cs (Function t) h o k = has_behind spot cs t h o k

has_step : (m : Mode) (h : Group) (o : List Group) (k : Token) → Has (step_in m h o k)
has_step WantsPart h o k = has_begin h o k
has_step (WantsVariable q) h o k = has_variable q h o k
has_step (HasPredicate p) h o k = has_predicate p h o k
has_step (WantsTerm spot cs) h o k = has_take spot cs h o k
has_step (HasTerm spot cs r) h o k = has_term spot cs r h o k
has_step (HasPart s) h o k = has_after s h o k

never_memory : (st : State) (k : Token) → step st k ≡ Err Memory → ⊥
never_memory st k e = subst Has e (has_step st.mode st.here st.outer k)

-- The tokens of a text, or its first bad byte.

abbrev Lexes : ℕ → List ℕ → Type 0
Lexes n bs = ((ks : List Placed) × AreTokens n bs ks) ⊎ ((p : ℕ) × IsBadAt n bs p)

behind_blank : (n b : ℕ) (bs : List ℕ) → is_blank b ≡ true → Lexes (n + 1) bs → Lexes n (b ∷ bs)
behind_blank n b bs e (inl (ks, t)) = inl (ks, blank n b bs ks e t)
behind_blank n b bs e (inr (p, d)) = inr (p, past_blank n b bs p e d)

behind_token : (n : ℕ) (w : List ℕ) (k : Token) (bs : List ℕ) → SpellsToken w k bs → Lexes (n + length w) bs → Lexes n (w ++ bs)
behind_token n w k bs s (inl (ks, t)) = inl (placed n k ∷ ks, token n w k bs ks s t)
behind_token n w k bs s (inr (p, d)) = inr (p, past_token n w k bs p s d)

rest_shorter : (fuel b : ℕ) (bs w rest : List ℕ) (k : Token) → length (b ∷ bs) ≤ suc fuel → b ∷ bs ≡ w ++ rest → SpellsToken w k rest → length rest ≤ fuel
rest_shorter fuel b bs w rest k h e i =
    let s = token_starts i in
    omega (arith, ap length e, length-append w rest, ap length s.is)

lexes_by : (fuel n b : ℕ) (bs : List ℕ) → length (b ∷ bs) ≤ suc fuel → ((m : ℕ) (cs : List ℕ) → length cs ≤ fuel → Lexes m cs) → (t : Bool) → is_blank b ≡ t → (f : Option (Token × List ℕ)) → first_token (b ∷ bs) ≡ f → Lexes n (b ∷ bs)
lexes_by fuel n b bs h ih true e f g = behind_blank n b bs e (ih (n + 1) bs (omega arith))
lexes_by fuel n b bs h ih false e None g = inr (n, starts_none n b bs e (no_token (b ∷ bs) g))
lexes_by fuel n b bs h ih false e (Some (k, rest)) g =
    let s = token_sound (b ∷ bs) k rest g in
    subst (λ (cs : List ℕ). Lexes n cs) (sym s.splits) (behind_token n s.spelling k rest s.spells (ih (n + length s.spelling) rest (rest_shorter fuel b bs s.spelling rest k h s.splits s.spells)))

no_fuel : (b : ℕ) (bs : List ℕ) → length (b ∷ bs) ≤ 0 → ⊥
no_fuel b bs h = omega arith

lexes : (fuel n : ℕ) (bs : List ℕ) → length bs ≤ fuel → Lexes n bs
lexes fuel n [] h = inl ([], at_end n)
lexes zero n (b ∷ bs) h = absurd (no_fuel b bs h)
lexes (suc fuel) n (b ∷ bs) h = lexes_by fuel n b bs h (λ m cs g. lexes fuel m cs g) (is_blank b) refl (first_token (b ∷ bs)) refl

-- The state that the tokens lead to, or the first of them that is refused.

abbrev Runs : ℕ → List Placed → Type 0
Runs end ks = ((st : State) × Leads (tokens_of ks) st) ⊎ ((f : ReadFault) × IsStopped end ks f)

not_memory : (refusal : Refusal) (n : ℕ) → (refusal ≡ Memory → ⊥) → at_place refusal n ≡ read.Memory → ⊥
not_memory Ambiguous n h e = cc
not_memory Unexpected n h e = cc
not_memory TooDeep n h e = cc
not_memory Memory n h e = h refl

stop_of : (end : ℕ) (ks : List Placed) (refusal : Refusal) (n : ℕ) → (refusal ≡ Memory → ⊥) → (at_place refusal n ≡ read.Memory) ⊎ IsStopped end ks (at_place refusal n) → Runs end ks
stop_of end ks refusal n h (inl e) = absurd (not_memory refusal n h e)
stop_of end ks refusal n h (inr d) = inr (at_place refusal n, d)

refused_for : (st : State) (k : Token) (refusal : Refusal) → step st k ≡ Err refusal → refusal ≡ Memory → ⊥
refused_for st k refusal e f = never_memory st k (e ∙ ap (λ (x : Refusal). Err x) f)

runs_by : (end : ℕ) (before : List Placed) (k : Placed) (ks : List Placed) (st : State) → Leads (tokens_of before) st → ((next : State) → Leads (tokens_of (before ++ k ∷ [])) next → Runs end ((before ++ k ∷ []) ++ ks))
    → (r : Result State Refusal) → step st k.token ≡ r → Runs end (before ++ k ∷ ks)
runs_by end before k ks st l ih (Ok next) e =
    subst (λ (js : List Placed). Runs end js) (append_assoc before (k ∷ []) ks)
    (ih next (subst (λ (js : List Token). Leads js next) (sym (tokens_append before (k ∷ []))) (leads_on (tokens_of before) k.token st next l e)))
runs_by end before k ks st l ih (Err refusal) e = stop_of end (before ++ k ∷ ks) refusal k.place (refused_for st k.token refusal e) (stopped_by end before k ks st refusal l e)

runs : (end : ℕ) (before ks : List Placed) (st : State) → Leads (tokens_of before) st → Runs end (before ++ ks)
runs end before [] st l = inl (st, subst (λ (js : List Placed). Leads (tokens_of js) st) (sym (append-nil before)) l)
runs end before (k ∷ ks) st l = runs_by end before k ks st l (λ next m. runs end (before ++ k ∷ []) ks next m) (step st k.token) refl

-- The sentence that the tokens spell, or their first refusal.

abbrev SpellsOrStops : ℕ → List Placed → Type 0
SpellsOrStops end ks = ((s : Sent) × Spells 120 (tokens_of ks) s) ⊎ ((f : ReadFault) × IsStopped end ks f)

early : (end : ℕ) (ks : List Placed) → (read.Unexpected end ≡ read.Memory) ⊎ IsStopped end ks (read.Unexpected end) → SpellsOrStops end ks
early end ks (inl e) = cc
early end ks (inr d) = inr (read.Unexpected end, d)

ends : (end : ℕ) (ks : List Placed) (st : State) → Leads (tokens_of ks) st → (r : Result Sent Refusal) → ended st ≡ r → SpellsOrStops end ks
ends end ks st l (Ok s) e = inl (s, spells_at_end ks st s l e)
ends end ks st l (Err refusal) e =
    early end ks (stopped_early end ks st Unexpected (read.Unexpected end) l (e ∙ ap (λ (x : Refusal). Err x) (end_refusal st.mode st.here st.outer refusal e)) refl)

run_ends : (end : ℕ) (ks : List Placed) → Runs end ks → SpellsOrStops end ks
run_ends end ks (inl (st, l)) = ends end ks st l (ended st) refl
run_ends end ks (inr d) = inr d

-- Whether a sentence that is spelled is fit.

abbrev FitOrNot : List Placed → Sent → Type 0
FitOrNot ks s = IsFit s ⊎ ((f : ReadFault) × IsUnfit ks s f)

variables_by : (ks : List Placed) (s : Sent) → Spells 120 (tokens_of ks) s → within_limits s ≡ Ok tt → has_places s ≡ true → (o : Option ℕ) → first_false (boundness s []) (term_places false ks) ≡ o → FitOrNot ks s
variables_by ks s q w h (Some p) e = inr (FreeVariable p, free ks s p w h e)
variables_by ks s q w h None e = inl (record { within = w; places = h; closed = variables_bound 120 ks s q e })

places_by : (ks : List Placed) (s : Sent) → Spells 120 (tokens_of ks) s → within_limits s ≡ Ok tt → (o : Option ℕ) → first_false (fitting s) (predicate_places ks) ≡ o → FitOrNot ks s
places_by ks s q w (Some p) e = inr (BlockArity p, wrong_places ks s p w e)
places_by ks s q w None e = variables_by ks s q w (places_right 120 ks s q e) (first_false (boundness s []) (term_places false ks)) refl

limit_by : (a b : Bool) (r : Result Unit SentFault) → (if a then Err limit.TooDeep else (if b then Err limit.TooMany else Ok tt)) ≡ r → r ≡ Err limit.Memory → ⊥
limit_by true b r e d = cc
limit_by false true r e d = cc
limit_by false false r e d = cc

judged_by : (ks : List Placed) (s : Sent) → Spells 120 (tokens_of ks) s → (r : Result Unit SentFault) → within_limits s ≡ r → FitOrNot ks s
judged_by ks s q (Ok done) w = places_by ks s q w (first_false (fitting s) (predicate_places ks)) refl
judged_by ks s q (Err limit.TooDeep) w = inr (read.TooDeep 0, depth_over ks s w)
judged_by ks s q (Err limit.TooMany) w = inr (read.TooMany 0, nodes_over ks s w)
judged_by ks s q (Err limit.Memory) w = absurd (limit_by (nat_lt 60 (depth s)) (nat_lt 400 (nodes s)) (within_limits s) refl w)

-- The answer to a text.

abbrev pub HasAnswer : List ℕ → Type 0
HasAnswer text = ((s : Sent) × IsReadable text s) ⊎ ((f : ReadFault) × IsRefused text f)

by_fitness : (text : List ℕ) (ks : List Placed) (s : Sent) → length text ≤ 4000 → AreTokens 0 text ks → Spells 120 (tokens_of ks) s → FitOrNot ks s → HasAnswer text
by_fitness text ks s h t q (inl f) = inl (s, record { short = h; tokens = ks; are_tokens = t; spells = q; fit = f })
by_fitness text ks s h t q (inr (f, d)) = inr (f, unfit text ks s f h t q d)

by_spelling : (text : List ℕ) (ks : List Placed) → length text ≤ 4000 → AreTokens 0 text ks → SpellsOrStops (length text) ks → HasAnswer text
by_spelling text ks h t (inl (s, q)) = by_fitness text ks s h t q (judged_by ks s q (within_limits s) refl)
by_spelling text ks h t (inr (f, d)) = inr (f, stopped text ks f h t d)

by_tokens : (text : List ℕ) → length text ≤ 4000 → Lexes 0 text → HasAnswer text
by_tokens text h (inl (ks, t)) = by_spelling text ks h t (run_ends (length text) ks (runs (length text) [] ks (begin 120) leads_none))
by_tokens text h (inr (p, b)) = inr (read.BadByte p, bad_byte text p h b)

by_length : (text : List ℕ) (t : Bool) → nat_lt 4000 (length text) ≡ t → HasAnswer text
by_length text true e = inr (read.TooLong (length text), too_long text (ltb-true 4000 (length text) e))
by_length text false e = let h : length text ≤ 4000 = ltb-false 4000 (length text) e in by_tokens text h (lexes (length text) 0 text (omega arith))

-- Each text is readable or refused.
pub has_answer : (text : List ℕ) → HasAnswer text
has_answer text = by_length text (nat_lt 4000 (length text)) refl
