-- Where the machine stops, the grammar says so: the laws of each refusal of a token, and of the end.
use Rattle.std.proofs.Common.{◌≡◌, ℕ, suc, ◌+◌, List, [], ◌∷◌, ◌++◌, Ok, Err, refl, ap, sym, ◌∙◌}
use Rattle.fol_core.specs.declared.sent.Sent.{Sent}
use Rattle.fol_text.specs.declared.fault.Refusal.{Refusal}
use Rattle.fol_text.specs.declared.fault.Refusal.TheVariants.{Ambiguous, Unexpected, TooDeep}
use Rattle.fol_text.specs.declared.token.Token.{Token}
use Rattle.fol_text.specs.declared.state.State.{State}
use Rattle.fol_text.specs.Grammar.{Spells}
use Rattle.fol_text.specs.Refusals.{BeginsWithin, Begins, JoinsPart}
use Rattle.fol_text.specs.Machine.{step, ended, begin, reach, go}
use Rattle.fol_text.proofs.Complete.{spelled_is_read}
use Rattle.fol_text.proofs.Finishing.{built_begins, reached, reach_then, reach_snoc, taken}
use Rattle.fol_text.proofs.Raising.{wide, pending, unexpected_lifts, ambiguous_lifts, deep_lifts, reach_lifts, much_wider}
use Rattle.fol_text.proofs.Endings.{unexpected_joins_none, ambiguous_joins}
use Rattle.std.proofs.lemmas.List.{append-nil}

-- The tokens lead the machine to this state.
abbrev pub Leads : List Token → State → Type 0
Leads ks st = reach (begin 120) ks ≡ Ok st

pub leads_none : Leads [] (begin 120)
leads_none = refl

pub leads_on : (ks : List Token) (k : Token) (st next : State) → Leads ks st → step st k ≡ Ok next → Leads (ks ++ k ∷ []) next
leads_on ks k st next e d = reach_snoc ks k (begin 120) st next e d

pub leads_begins : (ks : List Token) (st : State) → Leads ks st → BeginsWithin 120 ks
leads_begins ks st e = built_begins 120 st ks (reached 120 ks st e)

widely : (d : ℕ) (ks : List Token) → BeginsWithin d ks → BeginsWithin (120 + d) ks
widely d ks (js, (s, q)) = (js, (s, much_wider 120 d (ks ++ js) s q))

-- a token that is refused at any room begins nothing
refused_begins_none : (ks : List Token) (k : Token) (st : State) (refusal : Refusal) → Leads ks st → ((d : ℕ) → step (wide d st) k ≡ Err refusal) → Begins (ks ++ k ∷ []) → ⊥
refused_begins_none ks k st refusal e f (d, b) = taken (120 + d) ks k (wide d st) refusal (reach_lifts d ks (begin 120) st e) (f d) (widely d (ks ++ k ∷ []) b)

pub unexpected_begins_none : (ks : List Token) (k : Token) (st : State) → Leads ks st → step st k ≡ Err Unexpected → Begins (ks ++ k ∷ []) → ⊥
unexpected_begins_none ks k st e f = refused_begins_none ks k st Unexpected e (λ d. unexpected_lifts d st k f)

pub ambiguous_begins_none : (ks : List Token) (k : Token) (st : State) → Leads ks st → step st k ≡ Err Ambiguous → Begins (ks ++ k ∷ []) → ⊥
ambiguous_begins_none ks k st e f = refused_begins_none ks k st Ambiguous e (λ d. ambiguous_lifts d st k f)

pub unexpected_joins : (ks : List Token) (k : Token) (st : State) → Leads ks st → step st k ≡ Err Unexpected → JoinsPart ks k → ⊥
unexpected_joins ks k st e f = unexpected_joins_none 120 ks k st e f

pub ambiguous_is : (ks : List Token) (k : Token) (st : State) → Leads ks st → step st k ≡ Err Ambiguous → JoinsPart ks k
ambiguous_is ks k st e f = ambiguous_joins 120 ks k st (reached 120 ks st e) f

pub deep_begins : (ks : List Token) (k : Token) (st : State) → Leads ks st → step st k ≡ Err TooDeep → Begins (ks ++ k ∷ [])
deep_begins ks k st e f =
    let d = suc (pending st) in
    let (next, g) = deep_lifts st k f in
    let h = reach_snoc ks k (begin (120 + d)) (wide d st) next (reach_lifts d ks (begin 120) st e) g in
    (120 + d, built_begins (120 + d) next (ks ++ k ∷ []) (reached (120 + d) (ks ++ k ∷ []) next h))

pub deep_begins_none : (ks : List Token) (k : Token) (st : State) → Leads ks st → step st k ≡ Err TooDeep → BeginsWithin 120 (ks ++ k ∷ []) → ⊥
deep_begins_none ks k st e f = taken 120 ks k st TooDeep e f

-- the end

end_read : (ks : List Token) (st : State) (s : Sent) → Leads ks st → Spells 120 ks s → ended st ≡ Ok s
end_read ks st s e q = sym (reach_then ks [] (begin 120) st e) ∙ ap (λ (js : List Token). go (begin 120) js) (append-nil ks) ∙ spelled_is_read 120 ks s q

no_err_sent : (refusal : Refusal) (s : Sent) → Err refusal ≡ Ok s → ⊥
no_err_sent refusal s e = cc

pub early_spells_none : (ks : List Token) (st : State) (refusal : Refusal) → Leads ks st → ended st ≡ Err refusal → (s : Sent) → Spells 120 ks s → ⊥
early_spells_none ks st refusal e f s q = no_err_sent refusal s (sym f ∙ end_read ks st s e q)
