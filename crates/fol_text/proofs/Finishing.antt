-- Each state can be finished: some more tokens complete a sentence.
use Rattle.std.proofs.Common.{◌≡◌, ℕ, true, List, [], ◌∷◌, ◌++◌, Some, Result, Ok, Err, refl, ap, sym, ◌∙◌, subst, append_assoc}
use Rattle.std.proofs.lemmas.List.{append-nil}
use Rattle.fol_core.specs.Word.{Word, is_variable, is_name}
use Rattle.fol_core.specs.declared.sent.Term.{Term}
use Rattle.fol_core.specs.declared.sent.Term.TheVariants.{Name, App}
use Rattle.fol_core.specs.declared.sent.Sent.{Sent}
use Rattle.fol_core.specs.declared.sent.Sent.TheVariants.{Atom, Eq, Bottom}
use Rattle.fol_text.specs.declared.fault.Refusal.{Refusal}
use Rattle.fol_text.specs.declared.token.Token.{Token}
use Rattle.fol_text.specs.declared.token.Token.TheVariants.{FalsumSign, Equals, Close, Identifier}
use Rattle.fol_text.specs.declared.state.Quantifier.{Quantifier}
use Rattle.fol_text.specs.declared.state.Prefix.TheVariants.{Quantified}
use Rattle.fol_text.specs.declared.state.Relation.{Relation}
use Rattle.fol_text.specs.declared.state.Relation.TheVariants.{Same}
use Rattle.fol_text.specs.declared.state.Mode.{Mode}
use Rattle.fol_text.specs.declared.state.Mode.TheVariants.{WantsPart, WantsVariable, HasPredicate, WantsTerm, HasTerm, HasPart}
use Rattle.fol_text.specs.declared.state.Read.{Read}
use Rattle.fol_text.specs.declared.state.Read.TheVariants.{Variable, Symbol, Function}
use Rattle.fol_text.specs.declared.state.Spot.{Spot}
use Rattle.fol_text.specs.declared.state.Spot.TheVariants.{Argument, Left, Right}
use Rattle.fol_text.specs.declared.state.Call.{Call}
use Rattle.fol_text.specs.declared.state.Group.{Group}
use Rattle.fol_text.specs.declared.state.State.{State}
use Rattle.fol_text.specs.Grammar.{Spells}
use Rattle.fol_text.specs.Refusals.{BeginsWithin}
use Rattle.fol_text.specs.Machine.{state, group_of, wrapped, finished, whole, related, word_of, read_term, step, begin, reach, go}
use Rattle.fol_text.proofs.Complete.{NoOpen, as_function, spelled_is_read}
use Rattle.fol_text.proofs.Built.{Built, begin_built}
use Rattle.fol_text.proofs.Sound.{step_built, ended_spells}

-- reading on

pub go_by : (st : State) (k : Token) (ks : List Token) (r : Result State Refusal) → step st k ≡ r → go st (k ∷ ks) ≡ elim r as (λ x. Result Sent Refusal) [ Ok next ↦ go next ks | Err refusal ↦ Err refusal ]
go_by st k ks r e = ap (λ (o : Result State Refusal). elim o as (λ x. Result Sent Refusal) [ Ok next ↦ go next ks | Err refusal ↦ Err refusal ]) e

pub reach_by : (st : State) (k : Token) (ks : List Token) (r : Result State Refusal) → step st k ≡ r → reach st (k ∷ ks) ≡ elim r as (λ x. Result State Refusal) [ Ok next ↦ reach next ks | Err refusal ↦ Err refusal ]
reach_by st k ks r e = ap (λ (o : Result State Refusal). elim o as (λ x. Result State Refusal) [ Ok next ↦ reach next ks | Err refusal ↦ Err refusal ]) e

no_err : (refusal : Refusal) (st : State) → Err refusal ≡ Ok st → ⊥
no_err refusal st e = cc

no_err_sent : (refusal : Refusal) (s : Sent) → Err refusal ≡ Ok s → ⊥
no_err_sent refusal s e = cc

reach_then_by : (k : Token) (ks js : List Token) (st st' : State) (r : Result State Refusal) → ((next : State) → reach next ks ≡ Ok st' → go next (ks ++ js) ≡ go st' js) → step st k ≡ r → reach st (k ∷ ks) ≡ Ok st' → go st (k ∷ (ks ++ js)) ≡ go st' js
reach_then_by k ks js st st' (Err refusal) ih e d = absurd (no_err refusal st' (sym (reach_by st k ks (Err refusal) e) ∙ d))
reach_then_by k ks js st st' (Ok next) ih e d = go_by st k (ks ++ js) (Ok next) e ∙ ih next (sym (reach_by st k ks (Ok next) e) ∙ d)

pub reach_then : (ks js : List Token) (st st' : State) → reach st ks ≡ Ok st' → go st (ks ++ js) ≡ go st' js
reach_then [] js st st' e = let same : st ≡ st' = cc in ap (λ (x : State). go x js) same
reach_then (k ∷ ks) js st st' e = reach_then_by k ks js st st' (step st k) (λ next d. reach_then ks js next st' d) refl e

-- one token more

reach_snoc_by : (j : Token) (ks : List Token) (k : Token) (st st' next : State) (r : Result State Refusal) → ((mid : State) → reach mid ks ≡ Ok st' → reach mid (ks ++ k ∷ []) ≡ Ok next) → step st j ≡ r → reach st (j ∷ ks) ≡ Ok st' → reach st (j ∷ (ks ++ k ∷ [])) ≡ Ok next
reach_snoc_by j ks k st st' next (Err refusal) ih f e = absurd (no_err refusal st' (sym (reach_by st j ks (Err refusal) f) ∙ e))
reach_snoc_by j ks k st st' next (Ok mid) ih f e = reach_by st j (ks ++ k ∷ []) (Ok mid) f ∙ ih mid (sym (reach_by st j ks (Ok mid) f) ∙ e)

pub reach_snoc : (ks : List Token) (k : Token) (st st' next : State) → reach st ks ≡ Ok st' → step st' k ≡ Ok next → reach st (ks ++ k ∷ []) ≡ Ok next
reach_snoc [] k st st' next e d = let same : st' ≡ st = cc in reach_by st k [] (Ok next) (subst (λ (x : State). step x k ≡ Ok next) same d)
reach_snoc (j ∷ ks) k st st' next e d = reach_snoc_by j ks k st st' next (step st j) (λ mid f. reach_snoc ks k mid st' next f d) refl e

reach_built_by : (top : ℕ) (k : Token) (ks js : List Token) (st st' : State) (r : Result State Refusal) → ((next : State) → Built top next (js ++ k ∷ []) → reach next ks ≡ Ok st' → Built top st' ((js ++ k ∷ []) ++ ks)) → step st k ≡ r → Built top st js → reach st (k ∷ ks) ≡ Ok st' → Built top st' (js ++ k ∷ ks)
reach_built_by top k ks js st st' (Err refusal) ih f b e = absurd (no_err refusal st' (sym (reach_by st k ks (Err refusal) f) ∙ e))
reach_built_by top k ks js st st' (Ok next) ih f b e =
    subst (λ (xs : List Token). Built top st' xs) (append_assoc js (k ∷ []) ks)
    (ih next (step_built top st next js k b f) (sym (reach_by st k ks (Ok next) f) ∙ e))

pub reach_built : (top : ℕ) (ks js : List Token) (st st' : State) → Built top st js → reach st ks ≡ Ok st' → Built top st' (js ++ ks)
reach_built top [] js st st' b e = let same : st ≡ st' = cc in subst (λ (xs : List Token). Built top st' xs) (sym (append-nil js)) (subst (λ (x : State). Built top x js) same b)
reach_built top (k ∷ ks) js st st' b e = reach_built_by top k ks js st st' (step st k) (λ next c d. reach_built top ks (js ++ k ∷ []) next st' c d) refl b e

go_sound_by : (top : ℕ) (k : Token) (ks js : List Token) (st : State) (s : Sent) (r : Result State Refusal) → ((next : State) → Built top next (js ++ k ∷ []) → go next ks ≡ Ok s → Spells top ((js ++ k ∷ []) ++ ks) s) → step st k ≡ r → Built top st js → go st (k ∷ ks) ≡ Ok s → Spells top (js ++ k ∷ ks) s
go_sound_by top k ks js st s (Err refusal) ih f b e = absurd (no_err_sent refusal s (sym (go_by st k ks (Err refusal) f) ∙ e))
go_sound_by top k ks js st s (Ok next) ih f b e =
    subst (λ (xs : List Token). Spells top xs s) (append_assoc js (k ∷ []) ks)
    (ih next (step_built top st next js k b f) (sym (go_by st k ks (Ok next) f) ∙ e))

go_sound : (top : ℕ) (ks js : List Token) (st : State) (s : Sent) → Built top st js → go st ks ≡ Ok s → Spells top (js ++ ks) s
go_sound top [] js st s b e = subst (λ (xs : List Token). Spells top xs s) (sym (append-nil js)) (ended_spells top st s js b e)
go_sound top (k ∷ ks) js st s b e = go_sound_by top k ks js st s (step st k) (λ next c d. go_sound top ks (js ++ k ∷ []) next s c d) refl b e

-- finishing

pub record Finish (st : State) : Type 0 where
  pub tokens : List Token
  pub sentence : Sent
  pub goes : go st tokens ≡ Ok sentence

part_finishes : (o : List Group) (s : Sent) (h : Group) → Finish (state (HasPart s) h o)
part_finishes [] s h = record { tokens = []; sentence = whole h.begun s; goes = refl }
part_finishes (g ∷ o) s h =
    let f = part_finishes o (wrapped g.prefixes (whole h.begun s)) (group_of g.room [] g.begun) in
    record { tokens = Close ∷ f.tokens; sentence = f.sentence; goes = f.goes }

the_variable : Word
the_variable = 120 ∷ []

the_name : Word
the_name = 97 ∷ []

variable_is : is_variable the_variable ≡ true
unfolding is_variable the_variable
variable_is = refl

name_is : word_of the_name ≡ Some (Symbol the_name)
unfolding is_variable is_name the_name
name_is = refl

wants_goes : (spot : Spot) (cs : List Call) (h : Group) (o : List Group) (ks : List Token) → go (state (WantsTerm spot cs) h o) (Identifier the_name ∷ ks) ≡ go (state (HasTerm spot cs (Symbol the_name)) h o) ks
wants_goes spot cs h o ks = rw (name_is, go) refl

variable_goes : (q : Quantifier) (h : Group) (o : List Group) (ks : List Token) → go (state (WantsVariable q) h o) (Identifier the_variable ∷ FalsumSign ∷ ks) ≡ go (finished Bottom (group_of h.room (Quantified q the_variable ∷ h.prefixes) h.begun) o) ks
variable_goes q h o ks = rw (variable_is, go) refl

done : (s : Sent) (h : Group) (o : List Group) → Finish (finished s h o)
done s h o = part_finishes o (wrapped h.prefixes s) (group_of h.room [] h.begun)

predicate_finishes : (p : Word) (h : Group) (o : List Group) → Finish (state (HasPredicate p) h o)
predicate_finishes p h [] = record { tokens = []; sentence = whole h.begun (wrapped h.prefixes (Atom p [])); goes = refl }
predicate_finishes p h (g ∷ o) =
    let f = part_finishes o (wrapped g.prefixes (whole h.begun (wrapped h.prefixes (Atom p [])))) (group_of g.room [] g.begun) in
    record { tokens = Close ∷ f.tokens; sentence = f.sentence; goes = f.goes }

-- behind a term its functions are closed, and its spot is completed
record TermFinish (spot : Spot) (cs : List Call) (t : Term) (h : Group) (o : List Group) : Type 0 where
  tokens : List Token
  sentence : Sent
  no_open : NoOpen tokens
  goes : go (state (HasTerm spot cs (Function t)) h o) tokens ≡ Ok sentence

as_read : (spot : Spot) (cs : List Call) (r : Read) (h : Group) (o : List Group) → TermFinish spot cs (read_term r) h o → Finish (state (HasTerm spot cs r) h o)
as_read spot cs r h o f = record { tokens = f.tokens; sentence = f.sentence; goes = as_function spot cs r (read_term r) h o f.tokens refl f.no_open ∙ f.goes }

right_finishes : (a : Term) (q : Relation) (t : Term) (h : Group) (o : List Group) → TermFinish (Right a q) [] t h o
right_finishes a q t h [] = record { tokens = []; sentence = whole h.begun (wrapped h.prefixes (related a q t)); no_open = tt; goes = refl }
right_finishes a q t h (g ∷ o) =
    let f = part_finishes o (wrapped g.prefixes (whole h.begun (wrapped h.prefixes (related a q t)))) (group_of g.room [] g.begun) in
    record { tokens = Close ∷ f.tokens; sentence = f.sentence; no_open = tt; goes = f.goes }

term_finishes : (cs : List Call) (spot : Spot) (t : Term) (h : Group) (o : List Group) → TermFinish spot cs t h o
term_finishes [] (Argument p ts) t h o = let f = done (Atom p (ts ++ t ∷ [])) h o in record { tokens = Close ∷ f.tokens; sentence = f.sentence; no_open = tt; goes = f.goes }
term_finishes [] Left t h o =
    let f = as_read (Right t Same) [] (Symbol the_name) h o (right_finishes t Same (Name the_name) h o) in
    record { tokens = Equals ∷ Identifier the_name ∷ f.tokens; sentence = f.sentence; no_open = tt; goes = wants_goes (Right t Same) [] h o f.tokens ∙ f.goes }
term_finishes [] (Right a q) t h o = right_finishes a q t h o
term_finishes (c ∷ cs) spot t h o =
    let f = term_finishes cs spot (App c.symbol (c.arguments ++ t ∷ [])) h o in
    record { tokens = Close ∷ f.tokens; sentence = f.sentence; no_open = tt; goes = f.goes }

pub finishes : (m : Mode) (h : Group) (o : List Group) → Finish (state m h o)
finishes WantsPart h o = let f = done Bottom h o in record { tokens = FalsumSign ∷ f.tokens; sentence = f.sentence; goes = f.goes }
finishes (WantsVariable q) h o =
    let f = done Bottom (group_of h.room (Quantified q the_variable ∷ h.prefixes) h.begun) o in
    record { tokens = Identifier the_variable ∷ FalsumSign ∷ f.tokens; sentence = f.sentence; goes = variable_goes q h o f.tokens ∙ f.goes }
finishes (HasPredicate p) h o = predicate_finishes p h o
finishes (WantsTerm spot cs) h o =
    let f = as_read spot cs (Symbol the_name) h o (term_finishes cs spot (Name the_name) h o) in
    record { tokens = Identifier the_name ∷ f.tokens; sentence = f.sentence; goes = wants_goes spot cs h o f.tokens ∙ f.goes }
finishes (HasTerm spot cs r) h o = as_read spot cs r h o (term_finishes cs spot (read_term r) h o)
finishes (HasPart s) h o = part_finishes o s h

-- tokens that are read begin a sentence
pub built_begins : (top : ℕ) (st : State) (ks : List Token) → Built top st ks → BeginsWithin top ks
built_begins top st ks b = let f = finishes st.mode st.here st.outer in (f.tokens, (f.sentence, go_sound top f.tokens ks st f.sentence b f.goes))

pub reached : (top : ℕ) (ks : List Token) (st : State) → reach (begin top) ks ≡ Ok st → Built top st ks
reached top ks st e = reach_built top ks [] (begin top) st (begin_built top) e

-- where the tokens with one more begin a sentence, the machine takes this one
pub taken : (top : ℕ) (ks : List Token) (k : Token) (st : State) (refusal : Refusal) → reach (begin top) ks ≡ Ok st → step st k ≡ Err refusal → BeginsWithin top (ks ++ k ∷ []) → ⊥
taken top ks k st refusal e f (js, (s, q)) =
    no_err_sent refusal s
    (sym (reach_then ks (k ∷ js) (begin top) st e ∙ go_by st k js (Err refusal) f)
    ∙ ap (λ (xs : List Token). go (begin top) xs) (sym (append_assoc ks (k ∷ []) js)) ∙ spelled_is_read top ((ks ++ k ∷ []) ++ js) s q)
