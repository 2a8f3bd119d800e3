-- Among sentences that are linked by their digests, one is found by going back over those that have its digest.
use Rattle.std.proofs.Common.{◌≡◌, ℕ, zero, suc, ◌-◌, ◌<◌, ◌≤◌, Bool, true, false, ◌⊎◌, inl, inr, List, [], ◌∷◌, ◌++◌, length, length-append, get_or, take, refl, sym, ap, ◌∙◌, subst, arith, cond, Some, None}
use Rattle.std.specs.Prelude.{slice_get, nat_lt, ◌||◌, ◌==◌}
use Rattle.std.specs.List.{list_any}
use Rattle.std.proofs.Common.{Less, Equal, Greater}
use Rattle.std.specs.Ordering.{nat_cmp, is_eq}
use Rattle.std.specs.BTreeMap.{BTreeMap, get, is_at, Updates}
use Rattle.std.proofs.lemmas.Bool.{eqb-true, ltb-true}
use Rattle.std.proofs.lemmas.Option.{slice_get-get_or}
use Rattle.std.proofs.lemmas.List.{get_or_append_left}
use Rattle.std.proofs.Math.Seq.{get_or-append_seam}
use Rattle.fol_core.specs.declared.sent.Sent.{Sent}
use Rattle.fol_core.proofs.Equality.{alike_refl, alike_same}
use Rattle.deriv_laws.specs.Discharge.{alike}
use Rattle.taut_con.specs.Gathered.{is_among}
use Rattle.taut_con.specs.inside.Digests.{digest}
use Rattle.taut_con.specs.inside.Indexed.{has_digest, last_with, or_zero, IsLinked, IsIndexed}

-- The sentence is one of the first so many.
abbrev pub among_first : List Sent → Sent → ℕ → Bool
among_first ss q n = list_any (λ p. alike p q) (take n ss)

pub not_after : (d : ℕ) (ss : List Sent) (k : ℕ) → last_with d ss k ≤ k
not_after d ss zero = omega arith
not_after d ss (suc k) = go (has_digest d (slice_get ss k)) (not_after d ss k)
  where
    go : (b : Bool) → last_with d ss k ≤ k → cond b (suc k) (last_with d ss k) ≤ suc k
    go true h = omega arith
    go false h = omega (arith, h)

-- the number that is found is that of a sentence with the digest
settles : (d : ℕ) (ss : List Sent) (k : ℕ) → last_with d ss (last_with d ss k) ≡ last_with d ss k
settles d ss zero = refl
settles d ss (suc k) = go (has_digest d (slice_get ss k)) refl (settles d ss k)
  where
    go : (b : Bool) → has_digest d (slice_get ss k) ≡ b → last_with d ss (last_with d ss k) ≡ last_with d ss k → last_with d ss (cond b (suc k) (last_with d ss k)) ≡ cond b (suc k) (last_with d ss k)
    go true e i = ap (λ b. cond b (suc k) (last_with d ss k)) e
    go false e i = i

has_it : (d : ℕ) (ss : List Sent) (k : ℕ) (s : Sent) → slice_get ss k ≡ Some s → last_with d ss (suc k) ≡ suc k → digest s ≡ d
has_it d ss k s e h = eqb-true (digest s) d (go (digest s == d) (sym (ap (λ o. cond (has_digest d o) (suc k) (last_with d ss k)) e) ∙ h))
  where
    go : (b : Bool) → cond b (suc k) (last_with d ss k) ≡ suc k → b ≡ true
    go true f = refl
    go false f = absurd (omega (arith, f, not_after d ss k))

-- a sentence with another digest is another sentence
apart : (s q : Sent) → (digest s == digest q) ≡ false → alike s q ≡ false
apart s q e = go (alike s q) refl
  where
    same : (n : ℕ) → (n == n) ≡ true
    same n = grind arith

    go : (b : Bool) → alike s q ≡ b → b ≡ false
    go false f = refl
    go true f = let i : s ≡ q = alike_same s q f in let g : (digest q == digest q) ≡ false = subst (λ x. (digest x == digest q) ≡ false) i e in sym (same (digest q)) ∙ g

one_more : (ss : List Sent) (q : Sent) (k : ℕ) (s : Sent) → slice_get ss k ≡ Some s → among_first ss q (suc k) ≡ (among_first ss q k || alike s q)
one_more [] q k s e = cc
one_more (x ∷ xs) q zero s e = let i : x ≡ s = cc in ap (λ y. alike y q || false) i ∙ or_false (alike s q)
  where
    or_false : (b : Bool) → (b || false) ≡ b
    or_false true = refl
    or_false false = refl
one_more (x ∷ xs) q (suc k) s e = go (alike x q) (one_more xs q k s e)
  where
    go : (b : Bool) → among_first xs q (suc k) ≡ (among_first xs q k || alike s q) → (b || among_first xs q (suc k)) ≡ ((b || among_first xs q k) || alike s q)
    go true h = refl
    go false h = h

there : (ss : List Sent) (k : ℕ) → suc k ≤ length ss → (s : Sent) × (slice_get ss k ≡ Some s)
there [] k h = absurd (omega (arith, h))
there (x ∷ xs) zero h = (x, refl)
there (x ∷ xs) (suc k) h = there xs k (omega (arith, h))

or_false : (b : Bool) → (b || false) ≡ b
or_false true = refl
or_false false = refl

or_true : (b : Bool) → (b || true) ≡ true
or_true true = refl
or_true false = refl

-- those after the last one with the digest are passed over
passed : (ss : List Sent) (q : Sent) (k : ℕ) → k ≤ length ss → among_first ss q k ≡ among_first ss q (last_with (digest q) ss k)
passed ss q zero h = refl
passed ss q (suc k) h = go (there ss k h) (passed ss q k (omega (arith, h)))
  where
    turn : (s : Sent) (b : Bool) → slice_get ss k ≡ Some s → (digest s == digest q) ≡ b → among_first ss q k ≡ among_first ss q (last_with (digest q) ss k) → among_first ss q (suc k) ≡ among_first ss q (cond b (suc k) (last_with (digest q) ss k))
    turn s true e f i = refl
    turn s false e f i = one_more ss q k s e ∙ ap (λ b. among_first ss q k || b) (apart s q f) ∙ or_false (among_first ss q k) ∙ i

    go : ((s : Sent) × (slice_get ss k ≡ Some s)) → among_first ss q k ≡ among_first ss q (last_with (digest q) ss k) → among_first ss q (suc k) ≡ among_first ss q (last_with (digest q) ss (suc k))
    go (s, e) i = turn s (digest s == digest q) e refl i ∙ sym (ap (λ o. among_first ss q (cond (has_digest (digest q) o) (suc k) (last_with (digest q) ss k))) e)

take_all : (ss : List Sent) → take (length ss) ss ≡ ss
take_all [] = refl
take_all (x ∷ xs) = ap (λ ys. x ∷ ys) (take_all xs)

-- The search so far: the sentence is among these exactly where it is one of the first n, and the n-th has its digest.
pub record Searched (ss : List Sent) (q : Sent) (n : ℕ) : Type 0 where
  pub within : n ≤ length ss
  pub same : is_among ss q ≡ among_first ss q n
  pub settled : last_with (digest q) ss n ≡ n

pub begun : (ss : List Sent) (q : Sent) (n : ℕ) → n ≡ last_with (digest q) ss (length ss) → Searched ss q n
begun ss q n e = subst (Searched ss q) (sym e) (record {
  within = not_after (digest q) ss (length ss);
  same = ap (λ xs. list_any (λ p. alike p q) xs) (sym (take_all ss)) ∙ passed ss q (length ss) (omega arith);
  settled = settles (digest q) ss (length ss);
})

-- the n-th sentence
at_number : (ss : List Sent) (n : ℕ) (s : Sent) → 0 < n → n ≤ length ss → s ≡ get_or ss (n - 1) s → (k : ℕ) × (n ≡ suc k) × (slice_get ss k ≡ Some s)
at_number ss zero s h w e = absurd (omega (arith, h))
at_number ss (suc k) s h w e =
    (k, refl, slice_get-get_or ss k s (omega (arith, w)) ∙ ap Some (sym (e ∙ ap (λ i. get_or ss i s) (let q : suc k - 1 ≡ k = omega arith in q))))

-- it is the sentence
pub found : (ss : List Sent) (q : Sent) (n : ℕ) (s : Sent) → Searched ss q n → 0 < n → s ≡ get_or ss (n - 1) s → s ≡ q → is_among ss q ≡ true
found ss q n s w h e i = go (at_number ss n s h w.within e)
  where
    go : ((k : ℕ) × (n ≡ suc k) × (slice_get ss k ≡ Some s)) → is_among ss q ≡ true
    go (k, m, g) = w.same ∙ ap (among_first ss q) m ∙ one_more ss q k s g ∙ ap (λ b. among_first ss q k || b) (subst (λ x. alike s x ≡ true) i (alike_refl s)) ∙ or_true (among_first ss q k)

-- it isn't, and the search goes on
pub goes_on : (ss : List Sent) (q : Sent) (earlier : List ℕ) (n : ℕ) (s : Sent) → IsLinked ss earlier → Searched ss q n → 0 < n → s ≡ get_or ss (n - 1) s → (s ≡ q → ⊥) →
    Searched ss q (get_or earlier (n - 1) 0) × (get_or earlier (n - 1) 0 < n)
goes_on ss q earlier n s l w h e i = go (at_number ss n s h w.within e)
  where
    not_it : (b : Bool) → alike s q ≡ b → alike s q ≡ false
    not_it true f = absurd (i (alike_same s q f))
    not_it false f = f

    go : ((k : ℕ) × (n ≡ suc k) × (slice_get ss k ≡ Some s)) → Searched ss q (get_or earlier (n - 1) 0) × (get_or earlier (n - 1) 0 < n)
    go (k, m, g) =
        let own : digest s ≡ digest q = has_it (digest q) ss k s g (subst (λ x. last_with (digest q) ss x ≡ x) m w.settled) in
        let back : get_or earlier (n - 1) 0 ≡ last_with (digest q) ss k = ap (λ x. get_or earlier x 0) (let r : n - 1 ≡ k = omega (arith, m) in r) ∙ l.links k s g ∙ ap (λ d. last_with d ss k) own in (
          subst (Searched ss q) (sym back) (record {
            within = omega (arith, not_after (digest q) ss k, m, w.within);
            same = w.same ∙ ap (among_first ss q) m ∙ one_more ss q k s g ∙ ap (λ b. among_first ss q k || b) (not_it (alike s q) refl) ∙ or_false (among_first ss q k) ∙ passed ss q k (omega (arith, m, w.within));
            settled = settles (digest q) ss k;
          }),
          omega (arith, back, not_after (digest q) ss k, m),
        )

pub not_found : (ss : List Sent) (q : Sent) (n : ℕ) → Searched ss q n → n ≤ 0 → is_among ss q ≡ false
not_found ss q n w h = w.same ∙ ap (among_first ss q) (let e : n ≡ 0 = omega (arith, h) in e)

-- only the first k sentences matter
of_front : (d : ℕ) (ss more : List Sent) (k : ℕ) → k ≤ length ss → last_with d (ss ++ more) k ≡ last_with d ss k
of_front d ss more zero h = refl
of_front d ss more (suc k) h = ap (λ o. cond (has_digest d o) (suc k) (last_with d (ss ++ more) k)) (get_front ss more k h) ∙ ap (λ n. cond (has_digest d (slice_get ss k)) (suc k) n) (of_front d ss more k (omega (arith, h)))
  where
    get_front : (ss more : List Sent) (k : ℕ) → suc k ≤ length ss → slice_get (ss ++ more) k ≡ slice_get ss k
    get_front [] more k h = absurd (omega (arith, h))
    get_front (x ∷ xs) more zero h = refl
    get_front (x ∷ xs) more (suc k) h = get_front xs more k (omega (arith, h))

at_end : (ss : List Sent) (s : Sent) → slice_get (ss ++ s ∷ []) (length ss) ≡ Some s
at_end [] s = refl
at_end (x ∷ xs) s = at_end xs s

linked_more : (ss : List Sent) (earlier : List ℕ) (s : Sent) (b : ℕ) → IsLinked ss earlier → b ≡ last_with (digest s) ss (length ss) → IsLinked (ss ++ s ∷ []) (earlier ++ b ∷ [])
linked_more ss earlier s b w e = record {
  same_length = omega (arith, length-append ss (s ∷ []), length-append earlier (b ∷ []), w.same_length);
  links = λ k y g. near k y (split ss s k y g);
}
  where
    split : (ss : List Sent) (s : Sent) (k : ℕ) (y : Sent) → slice_get (ss ++ s ∷ []) k ≡ Some y → ((k < length ss) × (slice_get ss k ≡ Some y)) ⊎ ((k ≡ length ss) × (s ≡ y))
    split [] s zero y g = inr (refl, cc)
    split [] s (suc k) y g = absurd (cc)
    split (x ∷ xs) s zero y g = inl (omega arith, g)
    split (x ∷ xs) s (suc k) y g = later (split xs s k y g)
      where
        later : (((k < length xs) × (slice_get xs k ≡ Some y)) ⊎ ((k ≡ length xs) × (s ≡ y))) → ((suc k < suc (length xs)) × (slice_get xs k ≡ Some y)) ⊎ ((suc k ≡ suc (length xs)) × (s ≡ y))
        later (inl p) = inl (omega (arith, p.0), p.1)
        later (inr p) = inr (ap suc p.0, p.1)

    near : (k : ℕ) (y : Sent) → (((k < length ss) × (slice_get ss k ≡ Some y)) ⊎ ((k ≡ length ss) × (s ≡ y))) → get_or (earlier ++ b ∷ []) k 0 ≡ last_with (digest y) (ss ++ s ∷ []) k
    near k y (inl p) = get_or_append_left earlier (b ∷ []) 0 k (omega (arith, p.0, w.same_length)) ∙ w.links k y p.1 ∙ sym (of_front (digest y) ss (s ∷ []) k (omega (arith, p.0)))
    near k y (inr p) =
        ap (λ i. get_or (earlier ++ b ∷ []) i 0) (p.0 ∙ sym w.same_length) ∙ get_or-append_seam earlier b [] 0 ∙ e ∙ ap (λ v. last_with (digest v) ss (length ss)) p.1
        ∙ sym (of_front (digest y) ss (s ∷ []) (length ss) (omega arith)) ∙ ap (last_with (digest y) (ss ++ s ∷ [])) (sym p.0)

-- a key is found where it is the number
at_key : (m n : ℕ) → is_at (nat_cmp m) n ≡ (m == n)
at_key m n = go (nat_lt m n) (m == n) refl refl
  where
    go : (a b : Bool) → nat_lt m n ≡ a → (m == n) ≡ b → is_eq (cond a Less (cond b Equal Greater)) ≡ b
    go false true e f = refl
    go false false e f = refl
    go true false e f = refl
    go true true e f = absurd (omega (arith, ltb-true m n e, eqb-true m n f))

-- nothing is found where there is nothing
pub indexed_none : (latest : BTreeMap ℕ ℕ) → ((d : ℕ) → get nat_cmp latest d ≡ None) → IsIndexed [] [] latest
indexed_none latest h = record { linked = record { same_length = refl; links = λ k s e. cc }; heads = λ d. ap or_zero (h d) }

-- one sentence more, with its own number at its digest
pub indexed_more : (ss : List Sent) (earlier : List ℕ) (before after : BTreeMap ℕ ℕ) (s : Sent) (b own : ℕ) → IsIndexed ss earlier before → own ≡ digest s → b ≡ last_with own ss (length ss) →
    Updates nat_cmp before after own (Some (length (ss ++ s ∷ []))) → IsIndexed (ss ++ s ∷ []) (earlier ++ b ∷ []) after
indexed_more ss earlier before after s b own w o e u = record {
  linked = linked_more ss earlier s b w.linked (e ∙ ap (λ d. last_with d ss (length ss)) o);
  heads = λ d. ap or_zero (u.0 d) ∙ head d;
}
  where
    last : (d : ℕ) → last_with d (ss ++ s ∷ []) (length (ss ++ s ∷ [])) ≡ cond (digest s == d) (suc (length ss)) (last_with d ss (length ss))
    last d =
        ap (last_with d (ss ++ s ∷ [])) (let q : length (ss ++ s ∷ []) ≡ suc (length ss) = omega (arith, length-append ss (s ∷ [])) in q)
        ∙ ap (λ x. cond (has_digest d x) (suc (length ss)) (last_with d (ss ++ s ∷ []) (length ss))) (at_end ss s)
        ∙ ap (λ n. cond (digest s == d) (suc (length ss)) n) (of_front d ss (s ∷ []) (length ss) (omega arith))

    here : (d : ℕ) (x : Bool) → (digest s == d) ≡ x → or_zero (cond x (Some (length (ss ++ s ∷ []))) (get nat_cmp before d)) ≡ cond x (suc (length ss)) (last_with d ss (length ss))
    here d true q = omega (arith, length-append ss (s ∷ []))
    here d false q = w.heads d

    head : (d : ℕ) → or_zero (cond (is_at (nat_cmp own) d) (Some (length (ss ++ s ∷ []))) (get nat_cmp before d)) ≡ last_with d (ss ++ s ∷ []) (length (ss ++ s ∷ []))
    head d =
        ap (λ x. or_zero (cond x (Some (length (ss ++ s ∷ []))) (get nat_cmp before d))) (at_key own d ∙ ap (λ n. n == d) o)
        ∙ here d (digest s == d) refl ∙ sym (last d)
