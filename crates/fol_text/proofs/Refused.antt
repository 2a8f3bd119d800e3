-- A readable text isn't refused, so what is spelled is read.
use Rattle.std.proofs.Common.{◌≡◌, ℕ, ◌<◌, ◌≤◌, arith, Bool, true, false, List, [], ◌∷◌, ◌++◌, ◌⊎◌, inl, inr, length, Some, Result, Ok, Err, refl, ap, sym, ◌∙◌, subst, append_assoc}
use Rattle.std.specs.Prelude.{IfOk, IfErr}
use Rattle.std.specs.List.{list_all}
use Rattle.fol_core.specs.Subst.{itself}
use Rattle.fol_core.specs.Size.{within_limits}
use Rattle.fol_core.specs.declared.sent.Sent.{Sent}
use Rattle.fol_core.specs.declared.sent.SentFault.{SentFault}
use Rattle.fol_text.specs.declared.fault.ReadFault.{ReadFault}
use Rattle.fol_text.specs.declared.fault.ReadFault.TheVariants.{Memory}
use Rattle.fol_text.specs.declared.token.Token.{Token}
use Rattle.fol_text.specs.declared.token.Placed.{Placed}
use Rattle.fol_text.specs.Tokens.{tokens_of}
use Rattle.fol_text.specs.Grammar.{Spells}
use Rattle.fol_text.specs.Occurrences.{first_false, fitting, boundness}
use Rattle.fol_text.specs.Readable.{IsReadable, IsFit}
use Rattle.fol_text.specs.Refusals.{BeginsWithin, IsStopped, ambiguous, unexpected, too_deep, ends_early, IsUnfit, depth_over, nodes_over, wrong_places, free, IsRefused, too_long, bad_byte, stopped, unfit}
use Rattle.fol_text.proofs.TokensOnce.{tokens_once, bad_has_none}
use Rattle.fol_text.proofs.MarkLaws.{places_marked, closed_marked}
use Rattle.fol_text.proofs.Reading.{readable_once}

pub tokens_append : (ks js : List Placed) → tokens_of (ks ++ js) ≡ tokens_of ks ++ tokens_of js
tokens_append [] js = refl
tokens_append (k ∷ ks) js = ap (λ (ls : List Token). k.token ∷ ls) (tokens_append ks js)

-- the tokens up to one of those that spell a sentence begin one
begins_on : (room : ℕ) (before : List Placed) (here : Placed) (after : List Placed) (s : Sent) → Spells room (tokens_of (before ++ here ∷ after)) s → BeginsWithin room (tokens_of before ++ here.token ∷ [])
begins_on room before here after s q =
    (tokens_of after, (s, subst (λ (ks : List Token). Spells room ks s) (tokens_append before (here ∷ after) ∙ sym (append_assoc (tokens_of before) (here.token ∷ []) (tokens_of after))) q))

pub stopped_spells_none : {end : ℕ} {ks : List Placed} {fault : ReadFault} → IsStopped end ks fault → (s : Sent) → Spells 120 (tokens_of ks) s → ⊥
stopped_spells_none (ambiguous end before here after b none j) s q = none (120, begins_on 120 before here after s q)
stopped_spells_none (unexpected end before here after b none j) s q = none (120, begins_on 120 before here after s q)
stopped_spells_none (too_deep end before here after b some none) s q = none (begins_on 120 before here after s q)
stopped_spells_none (ends_early end ks b none) s q = none s q

pub no_false : (marks : List Bool) (places : List ℕ) (p : ℕ) → list_all itself marks ≡ true → first_false marks places ≡ Some p → ⊥
no_false [] places p e f = cc
no_false (b ∷ marks) [] p e f = cc
no_false (true ∷ marks) (n ∷ places) p e f = no_false marks places p e f
no_false (false ∷ marks) (n ∷ places) p e f = cc

two_limits : (r : Result Unit SentFault) (fault : SentFault) → r ≡ Ok tt → r ≡ Err fault → ⊥
two_limits r fault e f = cc

unfit_is_not_fit : {ks : List Placed} {s : Sent} {fault : ReadFault} → IsUnfit ks s fault → IsFit s → ⊥
unfit_is_not_fit (depth_over ks s e) f = two_limits (within_limits s) _ f.within e
unfit_is_not_fit (nodes_over ks s e) f = two_limits (within_limits s) _ f.within e
unfit_is_not_fit (wrong_places ks s p w e) f = no_false (fitting s) _ p (sym (places_marked s) ∙ f.places) e
unfit_is_not_fit (free ks s p w h e) f = no_false (boundness s []) _ p (sym (closed_marked s []) ∙ f.closed) e

pub long_and_short : (n : ℕ) → 4000 < n → n ≤ 4000 → ⊥
long_and_short n e f = omega arith

-- A readable text isn't refused.
pub readable_not_refused : {text : List ℕ} {fault : ReadFault} → IsRefused text fault → (s : Sent) → IsReadable text s → ⊥
readable_not_refused (too_long text e) s r = long_and_short (length text) e r.short
readable_not_refused (bad_byte text p h b) s r = bad_has_none b r.tokens r.are_tokens
readable_not_refused (stopped text ks fault h t d) s r =
    stopped_spells_none d s (subst (λ (js : List Placed). Spells 120 (tokens_of js) s) (tokens_once r.are_tokens ks t) r.spells)
readable_not_refused (unfit text ks u fault h t q d) s r =
    unfit_is_not_fit d (subst (λ (x : Sent). IsFit x) (sym (readable_once text s ks u r t q)) r.fit)

-- What is readable is read, where each answer is readable or refused.
pub exactly : (text : List ℕ) (r : Result Sent ReadFault) → IfOk r (λ s. IsReadable text s) → IfErr r (λ fault. (fault ≡ Memory) ⊎ IsRefused text fault) → (s : Sent) → IsReadable text s → (r ≡ Ok s) ⊎ (r ≡ Err Memory)
exactly text (Ok t) read refused s q = inl (ap (λ (x : Sent). Ok x) (readable_once text s read.tokens t q read.are_tokens read.spells))
exactly text (Err fault) read (inl e) s q = inr (ap (λ (x : ReadFault). Err x) e)
exactly text (Err fault) read (inr d) s q = absurd (readable_not_refused d s q)
