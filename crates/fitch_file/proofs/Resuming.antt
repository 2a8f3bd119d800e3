-- Reading a list item by item: what is left to read, after what was read so far.
use Rattle.std.proofs.Common.{◌≡◌, ◌<◌, ◌≤◌, List, [], ◌∷◌, ◌++◌, length, arith, refl, sym, ap, ap₂, subst, ◌∙◌, append_assoc, append-nil, length-append}
use Rattle.fitch_file.specs.Beside.{Beside}

-- What belongs beside the whole is what was read so far, and then what belongs beside the rest.
pub record Resumes {X Y : Type 0} (P : X → Y → Type 0) (whole left : List X) (done : List Y) : Type 0 where
  pub on : (ys : List Y) → Beside P left ys → Beside P whole (done ++ ys)
  pub back : (zs : List Y) → Beside P whole zs → (ys : List Y) × (zs ≡ done ++ ys) × Beside P left ys

pub resumes_start : {X Y : Type 0} (P : X → Y → Type 0) (whole : List X) → Resumes P whole whole []
resumes_start P whole = record { on = λ ys h. h; back = λ zs h. (zs, refl, h) }

back_step : {X Y : Type 0} (P : X → Y → Type 0) (left : List X) (done : List Y) (x : X) (y : Y) → ((z : Y) → P x z → z ≡ y) →
    (zs ys : List Y) → zs ≡ done ++ ys → Beside P (x ∷ left) ys → (us : List Y) × (zs ≡ (done ++ y ∷ []) ++ us) × Beside P left us
back_step P left done x y only zs [] e h = absurd h
back_step P left done x y only zs (u ∷ us) e h =
    (us, e ∙ ap (λ v. done ++ v ∷ us) (only u h.0) ∙ sym (append_assoc done (y ∷ []) us), h.1)

pub resumes_step : {X Y : Type 0} (P : X → Y → Type 0) (whole left : List X) (done : List Y) (x : X) (y : Y) →
    Resumes P whole (x ∷ left) done → P x y → ((z : Y) → P x z → z ≡ y) → Resumes P whole left (done ++ y ∷ [])
resumes_step P whole left done x y r h only = record {
  on = λ ys k. subst (λ zs. Beside P whole zs) (sym (append_assoc done (y ∷ []) ys)) (r.on (y ∷ ys) (h, k));
  back = λ zs k. let b : (ys : List _) × (zs ≡ done ++ ys) × Beside P (x ∷ left) ys = r.back zs k in back_step P left done x y only zs b.0 b.1 b.2;
}

-- at the end
pub resumes_end : {X Y : Type 0} (P : X → Y → Type 0) (whole : List X) (done : List Y) → Resumes P whole [] done → Beside P whole done
resumes_end P whole done r = subst (λ zs. Beside P whole zs) (append-nil done) (r.on [] tt)

-- where the next item has no companion
no_next : {X Y : Type 0} (P : X → Y → Type 0) (x : X) (left : List X) (ys : List Y) → ((z : Y) → P x z → ⊥) → Beside P (x ∷ left) ys → ⊥
no_next P x left [] none h = h
no_next P x left (y ∷ ys) none h = none y h.0

pub resumes_none : {X Y : Type 0} (P : X → Y → Type 0) (whole left : List X) (done : List Y) (x : X) →
    Resumes P whole (x ∷ left) done → ((z : Y) → P x z → ⊥) → (zs : List Y) → Beside P whole zs → ⊥
resumes_none P whole left done x r none zs h =
    let b : (ys : List _) × (zs ≡ done ++ ys) × Beside P (x ∷ left) ys = r.back zs h in
    no_next P x left b.0 none b.2

-- where there is a next item, more is to come
more_next : {X Y : Type 0} (P : X → Y → Type 0) (x : X) (left : List X) (ys : List Y) → Beside P (x ∷ left) ys → 1 ≤ length ys
more_next P x left [] h = absurd h
more_next P x left (y ∷ ys) h = omega arith

pub resumes_more : {X Y : Type 0} (P : X → Y → Type 0) (whole left : List X) (done : List Y) (x : X) →
    Resumes P whole (x ∷ left) done → (zs : List Y) → Beside P whole zs → length done < length zs
resumes_more P whole left done x r zs h =
    let b : (ys : List _) × (zs ≡ done ++ ys) × Beside P (x ∷ left) ys = r.back zs h in
    omega (arith, ap length b.1, length-append done b.0, more_next P x left b.0 b.2)

-- Where each item has one companion at most, a list has one at most.
pub beside_once : {X Y : Type 0} (P : X → Y → Type 0) → ((x : X) (y z : Y) → P x y → P x z → y ≡ z) →
    (xs : List X) (ys zs : List Y) → Beside P xs ys → Beside P xs zs → ys ≡ zs
beside_once P once [] [] [] h k = refl
beside_once P once [] [] (z ∷ zs) h k = absurd k
beside_once P once [] (y ∷ ys) zs h k = absurd h
beside_once P once (x ∷ xs) [] zs h k = absurd h
beside_once P once (x ∷ xs) (y ∷ ys) [] h k = absurd k
beside_once P once (x ∷ xs) (y ∷ ys) (z ∷ zs) h k = ap₂ ◌∷◌ (once x y z h.0 k.0) (beside_once P once xs ys zs h.1 k.1)
