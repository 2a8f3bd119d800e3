-- What the reader's answers say of the text: the laws that its contracts rest on.
use Rattle.std.proofs.Common.{◌≡◌, ℕ, ◌+◌, ◌<◌, ◌≤◌, List, [], ◌∷◌, ◌++◌, ◌⊎◌, inl, inr, length, arith, take, drop, get_or, Result, Ok, Err, refl, ap, sym, ◌∙◌, subst, append_assoc}
use Rattle.std.proofs.lemmas.List.{take-append-drop, take_all, take_more}
use Rattle.std.specs.Prelude.{IfOk, IfErr}
use Rattle.fol_core.proofs.Parts.{map_more}
use Rattle.fol_core.specs.declared.sent.Sent.{Sent}
use Rattle.fol_text.specs.declared.fault.ReadFault.{ReadFault}
use Rattle.fol_text.specs.declared.fault.ReadFault.TheVariants as read
use Rattle.fol_text.specs.declared.fault.Refusal.{Refusal}
use Rattle.fol_text.specs.declared.fault.Refusal.TheVariants.{Ambiguous, Unexpected, TooDeep, Memory}
use Rattle.fol_text.specs.declared.token.Token.{Token}
use Rattle.fol_text.specs.declared.token.Placed.{Placed}
use Rattle.fol_text.specs.declared.state.Mode.{Mode}
use Rattle.fol_text.specs.declared.state.Mode.TheVariants.{WantsPart, WantsVariable, HasPredicate, WantsTerm, HasTerm, HasPart}
use Rattle.fol_text.specs.declared.state.Read.{Read}
use Rattle.fol_text.specs.declared.state.Read.TheVariants.{Variable, Symbol, Function}
use Rattle.fol_text.specs.declared.state.Spot.{Spot}
use Rattle.fol_text.specs.declared.state.Spot.TheVariants.{Argument, Left, Right}
use Rattle.fol_text.specs.declared.state.Call.{Call}
use Rattle.fol_text.specs.declared.state.Group.{Group}
use Rattle.fol_text.specs.declared.state.State.{State}
use Rattle.fol_text.specs.Tokens.{tokens_of, AreTokens}
use Rattle.fol_text.specs.Grammar.{Spells}
use Rattle.fol_text.specs.Readable.{SpellsText, IsReadable}
use Rattle.fol_text.specs.Refusals.{IsStopped, ambiguous, unexpected, too_deep, ends_early}
use Rattle.fol_text.specs.Machine.{GivesAt, step, ended, ended_in, begin, go, at_place}
use Rattle.fol_text.proofs.Complete.{spelled_is_read}
use Rattle.fol_text.proofs.Sound.{ended_spells}
use Rattle.fol_text.proofs.Finishing.{reached}
use Rattle.fol_text.proofs.Stopping.{Leads, leads_on, leads_begins, unexpected_begins_none, ambiguous_begins_none, unexpected_joins, ambiguous_is, deep_begins, deep_begins_none, early_spells_none}
use Rattle.fol_text.proofs.Raising.{much_wider}
use Rattle.fol_text.proofs.TokensOnce.{tokens_once}

-- the tokens up to one of them

more_tokens : (ks : List Placed) (i : ℕ) (k : Placed) → i < length ks → k ≡ get_or ks i k → tokens_of (take (i + 1) ks) ≡ tokens_of (take i ks) ++ k.token ∷ []
more_tokens ks i k h e = map_more (λ (x : Placed). x.token) ks i k h e

split_at : (ks : List Placed) (i : ℕ) (k : Placed) → i < length ks → k ≡ get_or ks i k → ks ≡ take i ks ++ k ∷ drop (i + 1) ks
split_at ks i k h e =
    sym (take-append-drop (i + 1) ks)
    ∙ ap (λ (js : List Placed). js ++ drop (i + 1) ks) (take_more ks i k h ∙ ap (λ (x : Placed). take i ks ++ x ∷ []) (sym e))
    ∙ append_assoc (take i ks) (k ∷ []) (drop (i + 1) ks)

-- Each token that is taken leads on.
pub leads_past : (ks : List Placed) (i : ℕ) (k : Placed) (st next : State) → i < length ks → k ≡ get_or ks i k → Leads (tokens_of (take i ks)) st → step st k.token ≡ Ok next → Leads (tokens_of (take (i + 1) ks)) next
leads_past ks i k st next h e l d = subst (λ (js : List Token). Leads js next) (sym (more_tokens ks i k h e)) (leads_on (tokens_of (take i ks)) k.token st next l d)

-- A refusal of a token is the first one of the tokens.

pub stopped_by : (end : ℕ) (before : List Placed) (k : Placed) (after : List Placed) (st : State) (refusal : Refusal) → Leads (tokens_of before) st → step st k.token ≡ Err refusal
    → (at_place refusal k.place ≡ read.Memory) ⊎ IsStopped end (before ++ k ∷ after) (at_place refusal k.place)
stopped_by end before k after st Ambiguous l d = inr (ambiguous end before k after (leads_begins (tokens_of before) st l) (ambiguous_begins_none (tokens_of before) k.token st l d) (ambiguous_is (tokens_of before) k.token st l d))
stopped_by end before k after st Unexpected l d = inr (unexpected end before k after (leads_begins (tokens_of before) st l) (unexpected_begins_none (tokens_of before) k.token st l d) (unexpected_joins (tokens_of before) k.token st l d))
stopped_by end before k after st TooDeep l d = inr (too_deep end before k after (leads_begins (tokens_of before) st l) (deep_begins (tokens_of before) k.token st l d) (deep_begins_none (tokens_of before) k.token st l d))
stopped_by end before k after st Memory l d = inl refl

abbrev pub StopsAt : ℕ → List Placed → ReadFault → Type 0
StopsAt end ks fault = (fault ≡ read.Memory) ⊎ IsStopped end ks fault

pub stopped_at : (end : ℕ) (ks : List Placed) (i : ℕ) (k : Placed) (st : State) (refusal : Refusal) (fault : ReadFault) → i < length ks → k ≡ get_or ks i k → Leads (tokens_of (take i ks)) st
    → step st k.token ≡ Err refusal → fault ≡ at_place refusal k.place → StopsAt end ks fault
stopped_at end ks i k st refusal fault h e l d f =
    subst (λ (g : ReadFault). StopsAt end ks g) (sym f)
    (subst (λ (js : List Placed). StopsAt end js (at_place refusal k.place)) (sym (split_at ks i k h e)) (stopped_by end (take i ks) k (drop (i + 1) ks) st refusal l d))

-- The end

pub end_refusal : (m : Mode) (h : Group) (o : List Group) (refusal : Refusal) → ended_in m h o ≡ Err refusal → refusal ≡ Unexpected
end_refusal (HasPart s) h [] refusal e = cc
end_refusal (HasPredicate p) h [] refusal e = cc
end_refusal (HasPart s) h (g ∷ o) refusal e = cc
end_refusal (HasPredicate p) h (g ∷ o) refusal e = cc
end_refusal WantsPart h o refusal e = cc
end_refusal (WantsVariable q) h o refusal e = cc
end_refusal (WantsTerm spot cs) h o refusal e = cc
end_refusal (HasTerm (Right a r) [] q) h [] refusal e = cc
end_refusal (HasTerm (Right a r) (c ∷ cs) q) h [] refusal e = cc
end_refusal (HasTerm (Argument p ts) cs q) h [] refusal e = cc
end_refusal (HasTerm Left cs q) h [] refusal e = cc
end_refusal (HasTerm spot cs q) h (g ∷ o) refusal e = cc

pub stopped_early : (end : ℕ) (ks : List Placed) (st : State) (refusal : Refusal) (fault : ReadFault) → Leads (tokens_of ks) st → ended st ≡ Err refusal → fault ≡ at_place refusal end → StopsAt end ks fault
stopped_early end ks st refusal fault l d f =
    let is = end_refusal st.mode st.here st.outer refusal d in
    subst (λ (g : ReadFault). StopsAt end ks g) (sym (f ∙ ap (λ (r : Refusal). at_place r end) is))
    (inr (ends_early end ks (leads_begins (tokens_of ks) st l) (early_spells_none (tokens_of ks) st refusal l d)))

pub spells_at_end : (ks : List Placed) (st : State) (s : Sent) → Leads (tokens_of ks) st → ended st ≡ Ok s → Spells 120 (tokens_of ks) s
spells_at_end ks st s l d = ended_spells 120 st s (tokens_of ks) (reached 120 (tokens_of ks) st l) d

-- What the calls for a token and for the end answer

pub turn_stops : (end : ℕ) (ks : List Placed) (i : ℕ) (k : Placed) (st : State) (fault : ReadFault) → i < length ks → k ≡ get_or ks i k → Leads (tokens_of (take i ks)) st
    → GivesAt {Y = State} k.place (Err fault) (step st k.token) → StopsAt end ks fault
turn_stops end ks i k st fault h e l (inl m) = inl m
turn_stops end ks i k st fault h e l (inr (refusal, (d, f))) = stopped_at end ks i k st refusal fault h e l d f

all_read : (ks : List Placed) (i : ℕ) (st : State) → length ks ≤ i → Leads (tokens_of (take i ks)) st → Leads (tokens_of ks) st
all_read ks i st h l = subst (λ (js : List Placed). Leads (tokens_of js) st) (take_all i ks h) l

pub end_reads : (end : ℕ) (ks : List Placed) (i : ℕ) (st : State) (r : Result Sent ReadFault) → length ks ≤ i → Leads (tokens_of (take i ks)) st → GivesAt end r (ended st) → IfOk r (λ s. Spells 120 (tokens_of ks) s)
end_reads end ks i st (Ok s) h l g = spells_at_end ks st s (all_read ks i st h l) g
end_reads end ks i st (Err fault) h l g = tt

pub end_stops : (end : ℕ) (ks : List Placed) (i : ℕ) (st : State) (r : Result Sent ReadFault) → length ks ≤ i → Leads (tokens_of (take i ks)) st → GivesAt end r (ended st) → IfErr r (λ fault. StopsAt end ks fault)
end_stops end ks i st (Ok s) h l g = tt
end_stops end ks i st (Err fault) h l (inl m) = inl m
end_stops end ks i st (Err fault) h l (inr (refusal, (d, f))) = stopped_early end ks st refusal fault (all_read ks i st h l) d f

-- A text spells one sentence at most.

ok_same : (s t : Sent) → (r : Result Sent Refusal) → r ≡ Ok s → r ≡ Ok t → s ≡ t
ok_same s t r e f = cc

pub same_tokens : (n : ℕ) (ks js : List Placed) (s t : Sent) → ks ≡ js → Spells n (tokens_of ks) s → Spells n (tokens_of js) t → s ≡ t
same_tokens n ks js s t e p q =
    ok_same s t (go (begin n) (tokens_of ks)) (spelled_is_read n (tokens_of ks) s p)
    (ap (λ (ls : List Placed). go (begin n) (tokens_of ls)) e ∙ spelled_is_read n (tokens_of js) t q)

either_way : (m n : ℕ) → m + n ≡ n + m
either_way m n = omega arith

pub spells_once : (text : List ℕ) (s t : Sent) → SpellsText text s → SpellsText text t → s ≡ t
spells_once text s t a b =
    same_tokens (b.room + a.room) a.tokens b.tokens s t (tokens_once a.are_tokens b.tokens b.are_tokens)
    (much_wider b.room a.room (tokens_of a.tokens) s a.spells)
    (subst (λ (n : ℕ). Spells n (tokens_of b.tokens) t) (either_way a.room b.room) (much_wider a.room b.room (tokens_of b.tokens) t b.spells))

pub readable_once : (text : List ℕ) (s : Sent) (ks : List Placed) (t : Sent) → IsReadable text s → AreTokens 0 text ks → Spells 120 (tokens_of ks) t → t ≡ s
readable_once text s ks t r a p = same_tokens 120 ks r.tokens t s (tokens_once a r.tokens r.are_tokens) p r.spells
