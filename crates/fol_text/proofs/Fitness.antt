-- What is wrong with a sentence that is spelled, where a test of it fails; and that it is fit where none fails.
use Rattle.std.proofs.Common.{◌≡◌, ℕ, false, List, [], ◌⊎◌, inl, inr, Some, None, Result, Ok, Err, refl, sym, subst}
use Rattle.fol_core.specs.Size.{within_limits}
use Rattle.fol_core.specs.declared.sent.Sent.{Sent}
use Rattle.fol_core.specs.declared.sent.SentFault.{SentFault}
use Rattle.fol_core.specs.declared.sent.SentFault.TheVariants as limit
use Rattle.fol_text.specs.declared.fault.ReadFault.{ReadFault}
use Rattle.fol_text.specs.declared.fault.ReadFault.TheVariants.{TooDeep, TooMany, BlockArity, FreeVariable, Memory}
use Rattle.fol_text.specs.declared.token.Placed.{Placed}
use Rattle.fol_text.specs.Tokens.{tokens_of}
use Rattle.fol_text.specs.Grammar.{Spells}
use Rattle.fol_text.specs.Occurrences.{first_false, predicate_places, term_places, fitting, boundness}
use Rattle.fol_text.specs.Readable.{IsFit}
use Rattle.fol_text.specs.Refusals.{IsUnfit, depth_over, nodes_over, wrong_places, free, limit_fault}
use Rattle.fol_text.proofs.Counting.{places_right, variables_bound}

-- What the tests of a sentence say of a fault.
abbrev pub SaysUnfit : List Placed → Sent → ReadFault → Type 0
SaysUnfit ks s fault = (fault ≡ Memory) ⊎ IsUnfit ks s fault

err_same : (f g : ReadFault) (r : Result Unit ReadFault) → r ≡ Err f → r ≡ Err g → f ≡ g
err_same f g r d e = cc

within_by : (r : Result Unit SentFault) (done : Unit {0}) → Ok done ≡ limit_fault r → r ≡ Ok tt
within_by (Ok done) d e = refl
within_by (Err limit.TooDeep) d e = cc
within_by (Err limit.TooMany) d e = cc
within_by (Err limit.Memory) d e = cc

limit_said : (ks : List Placed) (s : Sent) (fault : ReadFault) (r : Result Unit SentFault) → within_limits s ≡ r → Err fault ≡ limit_fault r → SaysUnfit ks s fault
limit_said ks s fault (Ok done) w e = cc
limit_said ks s fault (Err limit.TooDeep) w e = subst (λ (f : ReadFault). SaysUnfit ks s f) (sym (err_same fault (TooDeep 0) (Err fault) refl e)) (inr (depth_over ks s w))
limit_said ks s fault (Err limit.TooMany) w e = subst (λ (f : ReadFault). SaysUnfit ks s f) (sym (err_same fault (TooMany 0) (Err fault) refl e)) (inr (nodes_over ks s w))
limit_said ks s fault (Err limit.Memory) w e = inl (err_same fault Memory (Err fault) refl e)

pub limit_unfit : (ks : List Placed) (s : Sent) (fault : ReadFault) → Err fault ≡ limit_fault (within_limits s) → SaysUnfit ks s fault
limit_unfit ks s fault e = limit_said ks s fault (within_limits s) refl e

pub places_unfit : (ks : List Placed) (s : Sent) (p : ℕ) (done : Unit {0}) → Ok done ≡ limit_fault (within_limits s) → Some p ≡ first_false (fitting s) (predicate_places ks) → SaysUnfit ks s (BlockArity p)
places_unfit ks s p done w e = inr (wrong_places ks s p (within_by (within_limits s) done w) (sym e))

pub variable_unfit : (ks : List Placed) (s : Sent) (p : ℕ) (done : Unit {0}) → Spells 120 (tokens_of ks) s → Ok done ≡ limit_fault (within_limits s) → None ≡ first_false (fitting s) (predicate_places ks)
    → Some p ≡ first_false (boundness s []) (term_places false ks) → SaysUnfit ks s (FreeVariable p)
variable_unfit ks s p done q w n e = inr (free ks s p (within_by (within_limits s) done w) (places_right 120 ks s q (sym n)) (sym e))

pub all_fit : (ks : List Placed) (s : Sent) (done : Unit {0}) → Spells 120 (tokens_of ks) s → Ok done ≡ limit_fault (within_limits s) → None ≡ first_false (fitting s) (predicate_places ks)
    → None ≡ first_false (boundness s []) (term_places false ks) → IsFit s
all_fit ks s done q w n m = record { within = within_by (within_limits s) done w; places = places_right 120 ks s q (sym n); closed = variables_bound 120 ks s q (sym m) }
