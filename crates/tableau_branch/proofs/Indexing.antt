-- The buckets of a trail that grows and is cut back.
use Rattle.std.proofs.Common.{IsTrue, ◌≤◌, ◌≡◌, ◌≢◌, ℕ, ◌<◌, ◌+◌, ◌-◌, ◌==◌, List, [], ◌∷◌, ◌++◌, length, take, refl, ap, ap₂, sym, ◌∙◌, subst, get_or, set, zero, suc, arith, Bool, true, false, ◌&&◌, ◌||◌, inl, inr, ◌⊎◌, get_or-set_same, get_or-set_other, true≢false}
use Rattle.std.specs.Prelude.{if◌then◌else◌}
use Rattle.std.specs.List.{list_any}
use Rattle.std.proofs.lemmas.Bool.{and_parts}
use Rattle.std.proofs.lemmas.Bool.Decides.{eqb_tells}
use Rattle.std.proofs.lemmas.List.{append_assoc, length-append, length-set, take-append-le, take-take, length-take-le, get_or_default}
use Rattle.std.proofs.Math.Seq.{take-length}
use Rattle.fol_core.specs.declared.sent.Sent.{Sent}
use Rattle.fol_core.proofs.Equality.{alike_same, alike_refl}
use Rattle.tableau_laws.specs.declared.literal.Literal.{Literal as Signed}
use Rattle.deriv_laws.specs.Discharge.{alike}
use Rattle.tableau_laws.specs.Branch.{same_sign, same_signed, stands}
use Rattle.tableau_branch.specs.inside.Index.{bucket_of, places, IsIndexed, is_at}

abbrev last_of : ℕ → Signed → ℕ → List ℕ
last_of k l n = if bucket_of l == k then n ∷ [] else []

snoc_more : (b : Bool) (i : ℕ) (xs ys : List ℕ) → xs ≡ ys → (if b then i ∷ xs else xs) ≡ (if b then i ∷ ys else ys)
snoc_more b i xs ys e = ap (λ zs. if b then i ∷ zs else zs) e

pull : (b : Bool) (i : ℕ) (xs ys : List ℕ) → (if b then i ∷ (xs ++ ys) else xs ++ ys) ≡ (if b then i ∷ xs else xs) ++ ys
pull true i xs ys = refl
pull false i xs ys = refl

snoc_none : (b : Bool) (i j : ℕ) → i ≡ j → (if b then i ∷ [] else []) ≡ (if b then j ∷ [] else [])
snoc_none b i j e = ap (λ n. if b then n ∷ [] else []) e

pub places_snoc : (k i : ℕ) (b : List Signed) (l : Signed) → places k i (b ++ l ∷ []) ≡ places k i b ++ last_of k l (i + length b)
places_snoc k i [] l = snoc_none (bucket_of l == k) i (i + 0) (omega arith)
places_snoc k i (x ∷ b) l =
    snoc_more (bucket_of x == k) i (places k (i + 1) (b ++ l ∷ [])) (places k (i + 1) b ++ last_of k l (i + length (x ∷ b))) (places_snoc k (i + 1) b l ∙ ap (λ n. places k (i + 1) b ++ last_of k l n) (omega arith))
    ∙ pull (bucket_of x == k) i (places k (i + 1) b) (last_of k l (i + length (x ∷ b)))

last_here : (k : ℕ) (l : Signed) (n : ℕ) → k ≡ bucket_of l → last_of k l n ≡ n ∷ []
last_here k l n e = elim (eqb_tells (bucket_of l) k) [ inl h ↦ ap (λ b. if b then n ∷ [] else []) h.0 | inr h ↦ absurd (h.1 (sym e)) ]

last_other : (k : ℕ) (l : Signed) (n : ℕ) → k ≢ bucket_of l → last_of k l n ≡ []
last_other k l n e = elim (eqb_tells (bucket_of l) k) [ inl h ↦ absurd (e (sym h.1)) | inr h ↦ ap (λ b. if b then n ∷ [] else []) h.0 ]

append_none : (xs : List ℕ) → xs ++ [] ≡ xs
append_none [] = refl
append_none (x ∷ xs) = ap (λ ys. x ∷ ys) (append_none xs)

at_push : (b : List Signed) (bs : List (List ℕ)) (l : Signed) (k j : ℕ) (new : List ℕ) → k ≡ bucket_of l → IsIndexed b bs → new ≡ get_or bs k [] ++ length b ∷ [] → k < 4096 → j < 4096 → (j ≡ k) ⊎ (j ≢ k) → get_or (set bs k new) j [] ≡ places j 0 (b ++ l ∷ [])
at_push b bs l k j new e h n m o (inl s) =
    let q : k < length bs = omega (arith, m, h.count) in
    ap (λ z. get_or (set bs k new) z []) s ∙ get_or-set_same bs k new [] q ∙ n ∙ ap (λ z. z ++ length b ∷ []) (h.each k m)
    ∙ ap (λ z. places k 0 b ++ z) (ap (λ z. z ∷ []) (omega arith) ∙ sym (last_here k l (0 + length b) e)) ∙ sym (places_snoc k 0 b l) ∙ ap (λ z. places z 0 (b ++ l ∷ [])) (sym s)
at_push b bs l k j new e h n m o (inr s) =
    get_or-set_other bs k j new [] s ∙ h.each j o ∙ sym (append_none (places j 0 b)) ∙ ap (λ z. places j 0 b ++ z) (sym (last_other j l (0 + length b) (λ q. s (q ∙ sym e)))) ∙ sym (places_snoc j 0 b l)

same_or_not : (j k : ℕ) → (j ≡ k) ⊎ (j ≢ k)
same_or_not j k = elim (eqb_tells j k) [ inl h ↦ inl h.1 | inr h ↦ inr h.1 ]

pub indexed_push : (b : List Signed) (bs : List (List ℕ)) (l : Signed) (k : ℕ) (new : List ℕ) → IsIndexed b bs → k ≡ bucket_of l → k < 4096 → new ≡ get_or bs k [] ++ length b ∷ [] → IsIndexed (b ++ l ∷ []) (set bs k new)
indexed_push b bs l k new h e m n = record { count = length-set bs k new ∙ h.count; each = λ j o. at_push b bs l k j new e h n m o (same_or_not j k) }

take_last : (xs : List ℕ) (n : ℕ) → take (length (xs ++ n ∷ []) - 1) (xs ++ n ∷ []) ≡ xs
take_last xs n =
    let e : length (xs ++ n ∷ []) - 1 ≡ length xs = omega (arith, length-append xs (n ∷ [])) in
    ap (λ k. take k (xs ++ n ∷ [])) e ∙ take-append-le (length xs) xs (n ∷ []) (omega arith) ∙ take-length xs

at_pop : (b : List Signed) (bs : List (List ℕ)) (l : Signed) (k j : ℕ) (new : List ℕ) → k ≡ bucket_of l → IsIndexed (b ++ l ∷ []) bs → new ≡ take (length (get_or bs k []) - 1) (get_or bs k []) → k < 4096 → j < 4096 → (j ≡ k) ⊎ (j ≢ k) → get_or (set bs k new) j [] ≡ places j 0 b
at_pop b bs l k j new e h n m o (inl s) =
    let q : k < length bs = omega (arith, m, h.count) in
    let r : get_or bs k [] ≡ places k 0 b ++ (0 + length b) ∷ [] = h.each k m ∙ places_snoc k 0 b l ∙ ap (λ z. places k 0 b ++ z) (last_here k l (0 + length b) e) in
    ap (λ z. get_or (set bs k new) z []) s ∙ get_or-set_same bs k new [] q ∙ n ∙ ap (λ z. take (length z - 1) z) r ∙ take_last (places k 0 b) (0 + length b) ∙ ap (λ z. places z 0 b) (sym s)
at_pop b bs l k j new e h n m o (inr s) =
    get_or-set_other bs k j new [] s ∙ h.each j o ∙ places_snoc j 0 b l ∙ ap (λ z. places j 0 b ++ z) (last_other j l (0 + length b) (λ q. s (q ∙ sym e))) ∙ append_none (places j 0 b)

pub indexed_pop : (b : List Signed) (bs : List (List ℕ)) (l : Signed) (k : ℕ) (new : List ℕ) → IsIndexed (b ++ l ∷ []) bs → k ≡ bucket_of l → k < 4096 → new ≡ take (length (get_or bs k []) - 1) (get_or bs k []) → IsIndexed b (set bs k new)
indexed_pop b bs l k new h e m n = record { count = length-set bs k new ∙ h.count; each = λ j o. at_pop b bs l k j new e h n m o (same_or_not j k) }

-- what was put into a bucket, and taken away again
pub indexed_back : (b : List Signed) (bs : List (List ℕ)) (k n : ℕ) (more back : List ℕ) → IsIndexed b bs → k < 4096 → more ≡ get_or bs k [] ++ n ∷ [] → back ≡ take (length more - 1) more → IsIndexed b (set (set bs k more) k back)
indexed_back b bs k n more back h m e f =
    let q : k < length bs = omega (arith, m, h.count) in
    let r : k < length (set bs k more) = omega (arith, m, h.count, length-set bs k more) in
    let s : back ≡ get_or bs k [] = f ∙ ap (λ z. take (length z - 1) z) e ∙ take_last (get_or bs k []) n in
    record {
      count = length-set (set bs k more) k back ∙ length-set bs k more ∙ h.count;
      each = λ j o. elim (same_or_not j k) [
        | inl t ↦ ap (λ z. get_or (set (set bs k more) k back) z []) t ∙ get_or-set_same (set bs k more) k back [] r ∙ s ∙ h.each k m ∙ ap (λ z. places z 0 b) (sym t)
        | inr t ↦ get_or-set_other (set bs k more) k j back [] t ∙ get_or-set_other bs k j more [] t ∙ h.each j o
      ];
    }

pub indexed_none : (bs : List (List ℕ)) → length bs ≡ 4096 → ((k : ℕ) → k < 4096 → get_or bs k [] ≡ []) → IsIndexed [] bs
indexed_none bs e f = record { count = e; each = f }

-- positions are within the branch

abbrev AllBelow : ℕ → List ℕ → Type 0
AllBelow n [] = Unit {0}
AllBelow n (x ∷ xs) = (x < n) × AllBelow n xs

below_more : (n m : ℕ) (xs : List ℕ) → n ≡ m → AllBelow n xs → AllBelow m xs
below_more n m xs e h = subst (λ k. AllBelow k xs) e h

below_or : (b : Bool) (n i : ℕ) (xs : List ℕ) → i < n → AllBelow n xs → AllBelow n (if b then i ∷ xs else xs)
below_or true n i xs l h = (l, h)
below_or false n i xs l h = h

places_below : (k i : ℕ) (b : List Signed) → AllBelow (i + length b) (places k i b)
places_below k i [] = tt
places_below k i (x ∷ b) = below_or (bucket_of x == k) (i + length (x ∷ b)) i (places k (i + 1) b) (omega arith) (below_more (i + 1 + length b) (i + length (x ∷ b)) (places k (i + 1) b) (omega arith) (places_below k (i + 1) b))

below_at : (n : ℕ) (xs : List ℕ) (m d : ℕ) → AllBelow n xs → m < length xs → get_or xs m d < n
below_at n [] m d h l = absurd (omega (arith, l))
below_at n (x ∷ xs) zero d h l = h.0
below_at n (x ∷ xs) (suc m) d h l = below_at n xs m d h.1 (omega (arith, l))

pub place_within : (b : List Signed) (bs : List (List ℕ)) (k m d : ℕ) → IsIndexed b bs → k < 4096 → m < length (get_or bs k []) → get_or (get_or bs k []) m d < length b
place_within b bs k m d h o l =
    subst (λ n. get_or (get_or bs k []) m d < n) (omega arith)
    (below_at (0 + length b) (get_or bs k []) m d (subst (λ z. AllBelow (0 + length b) z) (sym (h.each k o)) (places_below k 0 b)) l)

-- what is found in the bucket

pub past_end : (b : List Signed) (l : Signed) (i : ℕ) → length b ≤ i → is_at b l i ≡ false
past_end [] l i h = refl
past_end (x ∷ xs) l zero h = absurd (omega (arith, h))
past_end (x ∷ xs) l (suc i) h = past_end xs l i (omega (arith, h))

pub at_get : (b : List Signed) (l d : Signed) (i : ℕ) → i < length b → is_at b l i ≡ same_signed l (get_or b i d)
at_get [] l d i h = absurd (omega (arith, h))
at_get (x ∷ xs) l d zero h = refl
at_get (x ∷ xs) l d (suc i) h = at_get xs l d i (omega (arith, h))

sign_same : (a b : Bool) → same_sign a b ≡ true → a ≡ b
sign_same true true h = refl
sign_same false false h = refl
sign_same true false h = absurd (true≢false (sym h))
sign_same false true h = absurd (true≢false (sym h))

pub it_is : (l k : Signed) → same_signed l k ≡ true → k ≡ l
it_is l k h =
    let w = and_parts (same_sign k.holds l.holds) (alike k.sentence l.sentence) h in
    ap₂ (λ (z : Bool) (s : Sent). let r : Signed = record { holds = z; sentence = s } in r) (sign_same k.holds l.holds w.0) (alike_same k.sentence l.sentence w.1)

not_it : (l x : Signed) (b : Bool) → same_signed l x ≡ b → bucket_of x ≢ bucket_of l → same_signed l x ≡ false
not_it l x true e h = absurd (h (ap bucket_of (it_is l x e)))
not_it l x false e h = e

at_offset : (pre ls : List Signed) (l x : Signed) → is_at (pre ++ x ∷ ls) l (length pre) ≡ same_signed l x
at_offset [] ls l x = refl
at_offset (p ∷ pre) ls l x = at_offset pre ls l x

any_or : (f : ℕ → Bool) (b : Bool) (i : ℕ) (xs : List ℕ) (c : Bool) → (b ≡ true → f i ≡ c) → (b ≡ false → c ≡ false) → list_any f (if b then i ∷ xs else xs) ≡ (c || list_any f xs)
any_or f true i xs c g h = ap (λ z. z || list_any f xs) (g refl)
any_or f false i xs c g h = ap (λ z. z || list_any f xs) (sym (h refl))

in_bucket : (pre ls : List Signed) (l : Signed) (i : ℕ) → i ≡ length pre → list_any (is_at (pre ++ ls) l) (places (bucket_of l) i ls) ≡ stands ls l
in_bucket pre [] l i e = refl
in_bucket pre (x ∷ ls) l i e =
    any_or (is_at (pre ++ x ∷ ls) l) (bucket_of x == bucket_of l) i (places (bucket_of l) (i + 1) ls) (same_signed l x)
    (λ h. ap (is_at (pre ++ x ∷ ls) l) e ∙ at_offset pre ls l x)
    (λ h. not_it l x (same_signed l x) refl (λ s. absurd (eqb_no (bucket_of x) (bucket_of l) h s)))
    ∙ ap (λ z. same_signed l x || z)
    (ap (λ z. list_any (is_at z l) (places (bucket_of l) (i + 1) ls)) (sym (append_assoc pre (x ∷ []) ls))
    ∙ in_bucket (pre ++ x ∷ []) ls l (i + 1) (omega (arith, e, length-append pre (x ∷ []))))
  where
    eqb_no : (a b : ℕ) → (a == b) ≡ false → a ≢ b
    eqb_no a b h = elim (eqb_tells a b) [ inl w ↦ absurd (true≢false (sym w.0 ∙ h)) | inr w ↦ w.1 ]

pub bucket_stands : (b : List Signed) (l : Signed) → list_any (is_at b l) (places (bucket_of l) 0 b) ≡ stands b l
bucket_stands b l = in_bucket [] b l 0 refl

pub any_at : (f : ℕ → Bool) (xs : List ℕ) (k d : ℕ) → k < length xs → f (get_or xs k d) ≡ true → list_any f xs ≡ true
any_at f [] k d h e = absurd (omega (arith, h))
any_at f (x ∷ xs) zero d h e = ap (λ z. z || list_any f xs) e
any_at f (x ∷ xs) (suc k) d h e = by (f x) (any_at f xs k d (omega (arith, h)) e)
  where
    by : (b : Bool) → list_any f xs ≡ true → (b || list_any f xs) ≡ true
    by true r = refl
    by false r = r

pub any_none : (f : ℕ → Bool) (xs : List ℕ) (d : ℕ) → ((k : ℕ) → k < length xs → f (get_or xs k d) ≡ false) → list_any f xs ≡ false
any_none f [] d h = refl
any_none f (x ∷ xs) d h = ap (λ z. z || list_any f xs) (h 0 (omega arith)) ∙ any_none f xs d (λ k l. h (suc k) (omega (arith, l)))

sign_self : (a : Bool) → same_sign a a ≡ true
sign_self true = refl
sign_self false = refl

pub it_self : (l : Signed) → same_signed l l ≡ true
it_self l = ap₂ ◌&&◌ (sign_self l.holds) (alike_refl l.sentence)

pub by_iff : (a b : Bool) → (a ≡ true → b ≡ true) → (b ≡ true → a ≡ true) → a ≡ b
by_iff true b f g = sym (f refl)
by_iff false true f g = g refl
by_iff false false f g = refl

-- what two sentences' comparison shows
pub alike_is : (r : Bool) (s t : Sent) → (IsTrue r → s ≡ t) × (s ≡ t → IsTrue r) → r ≡ alike s t
alike_is r s t h = by_iff r (alike s t) (λ e. subst (λ z. alike s z ≡ true) (h.0 e) (alike_refl s)) (λ e. h.1 (alike_same s t e))

pub signed_alike : (h i r a : Bool) → r ≡ a → h ≡ i → r ≡ (same_sign i h && a)
signed_alike true i r a e s = subst (λ z. r ≡ (same_sign z true && a)) s e
signed_alike false i r a e s = subst (λ z. r ≡ (same_sign z false && a)) s e

pub split_last : (b : List Signed) (n : ℕ) (x : Signed) → x ≡ get_or b n x → n < length b → length b ≤ n + 1 → b ≡ take n b ++ x ∷ []
split_last [] n x e h l = absurd (omega (arith, h))
split_last (y ∷ []) zero x e h l = ap (λ z. z ∷ []) (sym e)
split_last (y ∷ z ∷ b) zero x e h l = absurd (omega (arith, l))
split_last (y ∷ b) (suc n) x e h l = ap (λ z. y ∷ z) (split_last b n x e (omega (arith, h)) (omega (arith, l)))

-- the same at the steps of the code

bucket_is : (bs : List (List ℕ)) (k : ℕ) (found d : List ℕ) → length bs ≡ 4096 → k < 4096 → found ≡ get_or bs k d → found ≡ get_or bs k []
bucket_is bs k found d e m h = h ∙ get_or_default bs k d [] (omega (arith, e, m))

pub in_index : (b xs : List Signed) (bs : List (List ℕ)) (l : Signed) (k : ℕ) (found d ps : List ℕ) → IsIndexed b bs → k ≡ bucket_of l → k < 4096 → xs ≡ b → ps ≡ found → found ≡ get_or bs k d →
    list_any (is_at xs l) ps ≡ stands b l
in_index b xs bs l k found d ps h e m x p f =
    ap₂ (λ (z : List Signed) (q : List ℕ). list_any (is_at z l) q) x (p ∙ bucket_is bs k found d h.count m f ∙ h.each k m ∙ ap (λ z. places z 0 b) e) ∙ bucket_stands b l

pub pushed : (b xs new : List Signed) (bs : List (List ℕ)) (l : Signed) (k place : ℕ) (old more d : List ℕ) → IsIndexed b bs → k ≡ bucket_of l → k < 4096 → xs ≡ b → place ≡ length xs → old ≡ get_or bs k d →
    more ≡ old ++ place ∷ [] → new ≡ b ++ l ∷ [] → IsIndexed new (set bs k more)
pushed b xs new bs l k place old more d h e m x p o n w =
    subst (λ z. IsIndexed z (set bs k more)) (sym w)
    (indexed_push b bs l k more h e m (n ∙ ap₂ (λ (q : List ℕ) (i : ℕ). q ++ i ∷ []) (bucket_is bs k old d h.count m o) (p ∙ ap length x)))

pub undone : (b xs new a : List Signed) (bs : List (List ℕ)) (m n k : ℕ) (old less d : List ℕ) (last : Signed) → IsIndexed b bs → take m b ≡ take m a → m ≤ n → length b ≡ n + 1 → xs ≡ b → last ≡ get_or xs n last →
    k ≡ bucket_of last → k < 4096 → old ≡ get_or bs k d → less ≡ take (length old - 1) old → new ≡ take n b → (take m new ≡ take m a) × (m ≤ length new) × IsIndexed new (set bs k less)
undone b xs new a bs m n k old less d last h t l c x i e q o f w =
    let s : b ≡ take n b ++ last ∷ [] = split_last b n last (i ∙ ap (λ z. get_or z n last) x) (omega (arith, c)) (omega (arith, c)) in
    let g : less ≡ take (length (get_or bs k []) - 1) (get_or bs k []) = f ∙ ap (λ z. take (length z - 1) z) (bucket_is bs k old d h.count q o) in (
      ap (take m) w ∙ take-take m n b l ∙ t,
      omega (arith, l, ap length w, length-take-le n b (omega (arith, c))),
      subst (λ z. IsIndexed z (set bs k less)) (sym w) (indexed_pop (take n b) bs last k less (subst (λ z. IsIndexed z bs) s h) e q g),
    )
