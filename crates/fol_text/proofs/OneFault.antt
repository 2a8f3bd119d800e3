-- A text has at most one first refusal, and none where it is readable.
use Rattle.std.proofs.Common.{◌≡◌, ℕ, false, List, [], ◌∷◌, ◌++◌, ◌⊎◌, inl, inr, length, Option, Some, Result, Ok, Err, refl, ap, sym, ◌∙◌, subst, append_assoc}
use Rattle.fol_core.specs.Size.{within_limits}
use Rattle.fol_core.specs.declared.sent.Sent.{Sent}
use Rattle.fol_core.specs.declared.sent.SentFault.{SentFault}
use Rattle.fol_core.specs.declared.sent.SentFault.TheVariants as limit
use Rattle.fol_text.specs.declared.fault.ReadFault.{ReadFault}
use Rattle.fol_text.specs.declared.fault.ReadFault.TheVariants.{BadByte, Unexpected, Ambiguous, FreeVariable, BlockArity, TooDeep}
use Rattle.fol_text.specs.declared.token.Token.{Token}
use Rattle.fol_text.specs.declared.token.Placed.{Placed}
use Rattle.fol_text.specs.Tokens.{tokens_of}
use Rattle.fol_text.specs.Grammar.{Spells}
use Rattle.fol_text.specs.Occurrences.{first_false, predicate_places, term_places, fitting, boundness}
use Rattle.fol_text.specs.Refusals.{BeginsWithin, Begins, JoinsPart, IsStopped, ambiguous, unexpected, too_deep, ends_early, IsUnfit, depth_over, nodes_over, wrong_places, free, IsRefused, too_long, bad_byte, stopped, unfit}
use Rattle.fol_text.proofs.TokensOnce.{tokens_once, bad_has_none}
use Rattle.fol_text.proofs.BadOnce.{bad_once}
use Rattle.fol_text.proofs.MarkLaws.{places_marked}
use Rattle.fol_text.proofs.Refused.{tokens_append, stopped_spells_none, no_false, long_and_short}
use Rattle.fol_text.proofs.Reading.{same_tokens}

-- Of two places in a list, one is before the other, or they are one.

data Meets : Placed → List Placed → Placed → List Placed → Type 0 where
  here : (x : Placed) (b : List Placed) → Meets x b x b
  before : (x : Placed) (b : List Placed) (y : Placed) (r : List Placed) → Meets x b y (b ++ x ∷ r)
  behind : (y : Placed) (c : List Placed) (x : Placed) (r : List Placed) → Meets x (c ++ y ∷ r) y c

head_same : (x y : Placed) (a c : List Placed) → x ∷ a ≡ y ∷ c → x ≡ y
head_same x y a c e = cc

tail_same : (x y : Placed) (a c : List Placed) → x ∷ a ≡ y ∷ c → a ≡ c
tail_same x y a c e = cc

meets_more : (z : Placed) {x : Placed} {b : List Placed} {y : Placed} {c : List Placed} → Meets x b y c → Meets x (z ∷ b) y (z ∷ c)
meets_more z (here x b) = here x (z ∷ b)
meets_more z (before x b y r) = before x (z ∷ b) y r
meets_more z (behind y c x r) = behind y (z ∷ c) x r

meets : (b : List Placed) (x : Placed) (a c : List Placed) (y : Placed) (d : List Placed) → b ++ x ∷ a ≡ c ++ y ∷ d → Meets x b y c
meets [] x a [] y d e = subst (λ (z : Placed). Meets x [] z []) (head_same x y a d e) (here x [])
meets [] x a (z ∷ c) y d e = subst (λ (u : Placed). Meets x [] y (u ∷ c)) (head_same x z a (c ++ y ∷ d) e) (before x [] y c)
meets (z ∷ b) x a [] y d e = subst (λ (u : Placed). Meets x (u ∷ b) y []) (sym (head_same z y (b ++ x ∷ a) d e)) (behind y [] x b)
meets (z ∷ b) x a (u ∷ c) y d e =
    subst (λ (v : Placed). Meets x (z ∷ b) y (v ∷ c)) (head_same z u (b ++ x ∷ a) (c ++ y ∷ d) e)
    (meets_more z (meets b x a c y d (tail_same z u (b ++ x ∷ a) (c ++ y ∷ d) e)))

-- What begins a sentence begins one up to each of its tokens.
begins_up_to : (room : ℕ) (b : List Placed) (x : Placed) (r : List Placed) → BeginsWithin room (tokens_of (b ++ x ∷ r)) → BeginsWithin room (tokens_of b ++ x.token ∷ [])
begins_up_to room b x r (js, (s, q)) =
    let e : tokens_of (b ++ x ∷ r) ++ js ≡ (tokens_of b ++ x.token ∷ []) ++ (tokens_of r ++ js) =
    ap (λ (ks : List Token). ks ++ js) (tokens_append b (x ∷ r)) ∙ append_assoc (tokens_of b) (x.token ∷ tokens_of r) js ∙ sym (append_assoc (tokens_of b) (x.token ∷ []) (tokens_of r ++ js)) in
    (tokens_of r ++ js, (s, subst (λ (ks : List Token). Spells room ks s) e q))

-- Why a token is refused behind those before it.
abbrev Why : List Token → Placed → ReadFault → Type 0
Why ks x fault =
    ((fault ≡ Ambiguous x.place) × ((Begins (ks ++ x.token ∷ []) → ⊥) × JoinsPart ks x.token))
    ⊎ (((fault ≡ Unexpected x.place) × ((Begins (ks ++ x.token ∷ []) → ⊥) × (JoinsPart ks x.token → ⊥)))
    ⊎ ((fault ≡ TooDeep x.place) × Begins (ks ++ x.token ∷ [])))

same_why : (ks : List Token) (x : Placed) (f g : ReadFault) → Why ks x f → Why ks x g → f ≡ g
same_why ks x f g (inl a) (inl b) = a.0 ∙ sym b.0
same_why ks x f g (inl a) (inr (inl b)) = absurd (b.1.1 a.1.1)
same_why ks x f g (inl a) (inr (inr b)) = absurd (a.1.0 b.1)
same_why ks x f g (inr (inl a)) (inl b) = absurd (a.1.1 b.1.1)
same_why ks x f g (inr (inl a)) (inr (inl b)) = a.0 ∙ sym b.0
same_why ks x f g (inr (inl a)) (inr (inr b)) = absurd (a.1.0 b.1)
same_why ks x f g (inr (inr a)) (inl b) = absurd (b.1.0 a.1)
same_why ks x f g (inr (inr a)) (inr (inl b)) = absurd (b.1.0 a.1)
same_why ks x f g (inr (inr a)) (inr (inr b)) = a.0 ∙ sym b.0

-- A refused token and its place in the list.
record RefusedToken (ks : List Placed) (fault : ReadFault) : Type 0 where
  before : List Placed
  token : Placed
  after : List Placed
  is_all : ks ≡ before ++ token ∷ after
  begins : BeginsWithin 120 (tokens_of before)
  begins_no_more : BeginsWithin 120 (tokens_of before ++ token.token ∷ []) → ⊥
  why : Why (tokens_of before) token fault

abbrev StopsBy : ℕ → List Placed → ReadFault → Type 0
StopsBy end ks fault = RefusedToken ks fault ⊎ ((fault ≡ Unexpected end) × BeginsWithin 120 (tokens_of ks))

stops_by : {end : ℕ} {ks : List Placed} {fault : ReadFault} → IsStopped end ks fault → StopsBy end ks fault
stops_by (ambiguous end b x a begins none joins) = inl (record {
  before = b;
  token = x;
  after = a;
  is_all = refl;
  begins = begins;
  begins_no_more = λ h. none (120, h);
  why = inl (refl, (none, joins));
})
stops_by (unexpected end b x a begins none joins) = inl (record {
  before = b;
  token = x;
  after = a;
  is_all = refl;
  begins = begins;
  begins_no_more = λ h. none (120, h);
  why = inr (inl (refl, (none, joins)));
})
stops_by (too_deep end b x a begins some none) = inl (record {
  before = b;
  token = x;
  after = a;
  is_all = refl;
  begins = begins;
  begins_no_more = none;
  why = inr (inr (refl, some));
})
stops_by (ends_early end ks begins none) = inr (refl, begins)

two_tokens : {x : Placed} {b : List Placed} {y : Placed} {c : List Placed} → Meets x b y c → (f g : ReadFault)
    → BeginsWithin 120 (tokens_of b) → (BeginsWithin 120 (tokens_of b ++ x.token ∷ []) → ⊥) → Why (tokens_of b) x f
    → BeginsWithin 120 (tokens_of c) → (BeginsWithin 120 (tokens_of c ++ y.token ∷ []) → ⊥) → Why (tokens_of c) y g → f ≡ g
two_tokens (here x b) f g p n v q m w = same_why (tokens_of b) x f g v w
two_tokens (before x b y r) f g p n v q m w = absurd (n (begins_up_to 120 b x r q))
two_tokens (behind y c x r) f g p n v q m w = absurd (m (begins_up_to 120 c y r p))

past_end : (ks : List Placed) (f : ReadFault) → RefusedToken ks f → BeginsWithin 120 (tokens_of ks) → ⊥
past_end ks f r b = r.begins_no_more (begins_up_to 120 r.before r.token r.after (subst (λ (js : List Placed). BeginsWithin 120 (tokens_of js)) r.is_all b))

stops_once_by : (end : ℕ) (ks : List Placed) (f g : ReadFault) → StopsBy end ks f → StopsBy end ks g → f ≡ g
stops_once_by end ks f g (inl a) (inl b) =
    two_tokens (meets a.before a.token a.after b.before b.token b.after (sym a.is_all ∙ b.is_all)) f g a.begins a.begins_no_more a.why b.begins b.begins_no_more b.why
stops_once_by end ks f g (inl a) (inr b) = absurd (past_end ks f a b.1)
stops_once_by end ks f g (inr a) (inl b) = absurd (past_end ks g b a.1)
stops_once_by end ks f g (inr a) (inr b) = a.0 ∙ sym b.0

stops_once : (end : ℕ) (ks : List Placed) (f g : ReadFault) → IsStopped end ks f → IsStopped end ks g → f ≡ g
stops_once end ks f g a b = stops_once_by end ks f g (stops_by a) (stops_by b)

-- A sentence has one fault at most.

err_same : (r : Result Unit SentFault) (f g : SentFault) → r ≡ Err f → r ≡ Err g → f ≡ g
err_same r f g a b = cc

limits_differ : limit.TooDeep ≡ limit.TooMany → ⊥
limits_differ e = cc

some_place : (o : Option ℕ) (p q : ℕ) → o ≡ Some p → o ≡ Some q → p ≡ q
some_place o p q a b = cc

two_limits : (r : Result Unit SentFault) (f : SentFault) → r ≡ Ok tt → r ≡ Err f → ⊥
two_limits r f a b = cc

unfit_once : {ks : List Placed} {s : Sent} {f : ReadFault} → IsUnfit ks s f → (g : ReadFault) → IsUnfit ks s g → f ≡ g
unfit_once (depth_over ks s e) g (depth_over _ _ d) = refl
unfit_once (depth_over ks s e) g (nodes_over _ _ d) = absurd (limits_differ (err_same (within_limits s) limit.TooDeep limit.TooMany e d))
unfit_once (depth_over ks s e) g (wrong_places _ _ p w d) = absurd (two_limits (within_limits s) limit.TooDeep w e)
unfit_once (depth_over ks s e) g (free _ _ p w h d) = absurd (two_limits (within_limits s) limit.TooDeep w e)
unfit_once (nodes_over ks s e) g (depth_over _ _ d) = absurd (limits_differ (err_same (within_limits s) limit.TooDeep limit.TooMany d e))
unfit_once (nodes_over ks s e) g (nodes_over _ _ d) = refl
unfit_once (nodes_over ks s e) g (wrong_places _ _ p w d) = absurd (two_limits (within_limits s) limit.TooMany w e)
unfit_once (nodes_over ks s e) g (free _ _ p w h d) = absurd (two_limits (within_limits s) limit.TooMany w e)
unfit_once (wrong_places ks s p w e) g (depth_over _ _ d) = absurd (two_limits (within_limits s) limit.TooDeep w d)
unfit_once (wrong_places ks s p w e) g (nodes_over _ _ d) = absurd (two_limits (within_limits s) limit.TooMany w d)
unfit_once (wrong_places ks s p w e) g (wrong_places _ _ q v d) = ap BlockArity (some_place (first_false (fitting s) (predicate_places ks)) p q e d)
unfit_once (wrong_places ks s p w e) g (free _ _ q v h d) = absurd (no_false (fitting s) (predicate_places ks) p (sym (places_marked s) ∙ h) e)
unfit_once (free ks s p w h e) g (depth_over _ _ d) = absurd (two_limits (within_limits s) limit.TooDeep w d)
unfit_once (free ks s p w h e) g (nodes_over _ _ d) = absurd (two_limits (within_limits s) limit.TooMany w d)
unfit_once (free ks s p w h e) g (wrong_places _ _ q v d) = absurd (no_false (fitting s) (predicate_places ks) q (sym (places_marked s) ∙ h) d)
unfit_once (free ks s p w h e) g (free _ _ q v i d) = ap FreeVariable (some_place (first_false (boundness s []) (term_places false ks)) p q e d)

-- A text has one first refusal at most.

same_stop : (end : ℕ) (ks js : List Placed) (f g : ReadFault) → ks ≡ js → IsStopped end ks f → IsStopped end js g → f ≡ g
same_stop end ks js f g e a b = stops_once end js f g (subst (λ (ls : List Placed). IsStopped end ls f) e a) b

spelled_not_stopped : (end : ℕ) (ks js : List Placed) (f : ReadFault) (s : Sent) → ks ≡ js → IsStopped end ks f → Spells 120 (tokens_of js) s → ⊥
spelled_not_stopped end ks js f s e a q = stopped_spells_none a s (subst (λ (ls : List Placed). Spells 120 (tokens_of ls) s) (sym e) q)

same_unfit : (ks js : List Placed) (s t : Sent) (f g : ReadFault) → ks ≡ js → s ≡ t → IsUnfit ks s f → IsUnfit js t g → f ≡ g
same_unfit ks js s t f g e d a b =
    unfit_once (subst (λ (u : Sent). IsUnfit js u f) d (subst (λ (ls : List Placed). IsUnfit ls s f) e a)) g b

pub refused_once : {text : List ℕ} {f : ReadFault} → IsRefused text f → (g : ReadFault) → IsRefused text g → f ≡ g
refused_once (too_long text e) g (too_long _ d) = refl
refused_once (too_long text e) g (bad_byte _ p h b) = absurd (long_and_short (length text) e h)
refused_once (too_long text e) g (stopped _ ks f h t d) = absurd (long_and_short (length text) e h)
refused_once (too_long text e) g (unfit _ ks s f h t q d) = absurd (long_and_short (length text) e h)
refused_once (bad_byte text p h b) g (too_long _ e) = absurd (long_and_short (length text) e h)
refused_once (bad_byte text p h b) g (bad_byte _ q i c) = ap BadByte (bad_once b q c)
refused_once (bad_byte text p h b) g (stopped _ ks f i t d) = absurd (bad_has_none b ks t)
refused_once (bad_byte text p h b) g (unfit _ ks s f i t q d) = absurd (bad_has_none b ks t)
refused_once (stopped text ks f h t d) g (too_long _ e) = absurd (long_and_short (length text) e h)
refused_once (stopped text ks f h t d) g (bad_byte _ p i b) = absurd (bad_has_none b ks t)
refused_once (stopped text ks f h t d) _ (stopped _ js g i u c) = same_stop (length text) ks js f g (tokens_once t js u) d c
refused_once (stopped text ks f h t d) _ (unfit _ js s g i u q c) = absurd (spelled_not_stopped (length text) ks js f s (tokens_once t js u) d q)
refused_once (unfit text ks s f h t q d) g (too_long _ e) = absurd (long_and_short (length text) e h)
refused_once (unfit text ks s f h t q d) g (bad_byte _ p i b) = absurd (bad_has_none b ks t)
refused_once (unfit text ks s f h t q d) _ (stopped _ js g i u c) = absurd (spelled_not_stopped (length text) js ks g s (tokens_once u ks t) c q)
refused_once (unfit text ks s f h t q d) _ (unfit _ js r g i u p c) =
    same_unfit ks js s r f g (tokens_once t js u) (same_tokens 120 ks js s r (tokens_once t js u) q p) d c
