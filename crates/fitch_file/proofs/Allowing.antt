-- The words that allow consequence rules, read one by one.
use Rattle.std.proofs.Common.{◌≡◌, ◌≢◌, ℕ, List, [], refl, sym, ap, subst, ◌∙◌, Some, Result, Ok, inl, inr}
use Rattle.std.specs.Prelude.{◌⊎◌, codes}
use Rattle.fitch_file.specs.declared.task.Allowed.{Allowed}
use Rattle.fitch_file.specs.declared.draft.Draft.{Draft}
use Rattle.fitch_file.specs.declared.fault.TaskFault.{TaskFault}
use Rattle.fitch_file.specs.Words.{first_word, behind_word}
use Rattle.fitch_file.specs.Declarations.{AllowsOne, Allow, no_word, word, AllowsText, AddsAllowed, none_allowed}
use Rattle.fitch_file.proofs.Declaring.{Gives}

-- one word
pub some_word : (a b : Allowed) (w : List ℕ) → AllowsOne a w b → w ≢ []
some_word a b w (inl h) e = let f : codes "Taut" ≡ [] = sym h.0 ∙ e in absurd (cc)
some_word a b w (inr (inl h)) e = let f : codes "FO" ≡ [] = sym h.0 ∙ e in absurd (cc)
some_word a b w (inr (inr h)) e = let f : codes "Ana" ≡ [] = sym h.0 ∙ e in absurd (cc)

pub one_once : (a b c : Allowed) (w : List ℕ) → AllowsOne a w b → AllowsOne a w c → b ≡ c
one_once a b c w (inl h) (inl k) = h.2 ∙ sym k.2
one_once a b c w (inl h) (inr (inl k)) = let f : codes "Taut" ≡ codes "FO" = sym h.0 ∙ k.0 in absurd (cc)
one_once a b c w (inl h) (inr (inr k)) = let f : codes "Taut" ≡ codes "Ana" = sym h.0 ∙ k.0 in absurd (cc)
one_once a b c w (inr (inl h)) (inl k) = let f : codes "FO" ≡ codes "Taut" = sym h.0 ∙ k.0 in absurd (cc)
one_once a b c w (inr (inl h)) (inr (inl k)) = h.2 ∙ sym k.2
one_once a b c w (inr (inl h)) (inr (inr k)) = let f : codes "FO" ≡ codes "Ana" = sym h.0 ∙ k.0 in absurd (cc)
one_once a b c w (inr (inr h)) (inl k) = let f : codes "Ana" ≡ codes "Taut" = sym h.0 ∙ k.0 in absurd (cc)
one_once a b c w (inr (inr h)) (inr (inl k)) = let f : codes "Ana" ≡ codes "FO" = sym h.0 ∙ k.0 in absurd (cc)
one_once a b c w (inr (inr h)) (inr (inr k)) = h.2 ∙ sym k.2

-- how the first word goes
pub record AllowsMore (a : Allowed) (text : List ℕ) (c : Allowed) : Type 0 where
  pub between : Allowed
  pub one : AllowsOne a (first_word text) between
  pub more : Allow between (behind_word text) c

pub first_allowed : (a : Allowed) (text : List ℕ) (c : Allowed) → Allow a text c → ((first_word text ≡ []) × (a ≡ c)) ⊎ AllowsMore a text c
first_allowed _ _ _ (no_word a text e) = inl (e, refl)
first_allowed _ _ _ (word a b c text o m) = inr (record { between = b; one = o; more = m })

-- what is left to read, after the words so far
pub record Allowing (whole : List ℕ) (a : Allowed) (left : List ℕ) : Type 0 where
  pub on : (c : Allowed) → Allow a left c → Allow none_allowed whole c
  pub back : (c : Allowed) → Allow none_allowed whole c → Allow a left c

pub allowing_start : (whole : List ℕ) → Allowing whole none_allowed whole
allowing_start whole = record { on = λ c h. h; back = λ c h. h }

after_word : (a b : Allowed) (left : List ℕ) → AllowsOne a (first_word left) b → (c : Allowed) → ((first_word left ≡ []) × (a ≡ c)) ⊎ AllowsMore a left c → Allow b (behind_word left) c
after_word a b left o c (inl h) = absurd (some_word a b (first_word left) o h.0)
after_word a b left o c (inr h) = subst (λ (x : Allowed). Allow x (behind_word left) c) (one_once a h.between b (first_word left) h.one o) h.more

pub allowing_more : (whole left : List ℕ) (a b : Allowed) → Allowing whole a left → AllowsOne a (first_word left) b → Allowing whole b (behind_word left)
allowing_more whole left a b g o = record {
  on = λ c h. g.on c (word a b c left o h);
  back = λ c h. after_word a b left o c (first_allowed a left c (g.back c h));
}

pub allowing_end : (whole left : List ℕ) (a : Allowed) → Allowing whole a left → first_word left ≡ [] → Allow none_allowed whole a
allowing_end whole left a g e = g.on a (no_word a left e)

refused_word : (a : Allowed) (left : List ℕ) → first_word left ≢ [] → ((b : Allowed) → AllowsOne a (first_word left) b → ⊥) → (c : Allowed) → ((first_word left ≡ []) × (a ≡ c)) ⊎ AllowsMore a left c → ⊥
refused_word a left some none c (inl h) = some h.0
refused_word a left some none c (inr h) = none h.between h.one

pub allowing_none : (whole left : List ℕ) (a : Allowed) → Allowing whole a left → first_word left ≢ [] → ((b : Allowed) → AllowsOne a (first_word left) b → ⊥) → (c : Allowed) → AllowsText whole c → ⊥
allowing_none whole left a g some none c h = refused_word a left some none c (first_allowed a left c (g.back c h.words))

-- a text allows one thing at most
pub allow_same : (a : Allowed) {text : List ℕ} {b : Allowed} → Allow a text b → (c : Allowed) → Allow a text c → b ≡ c
allow_same _ (no_word a text e) c h = elim (first_allowed a text c h) [ inl k ↦ k.1 | inr k ↦ absurd (some_word a k.between (first_word text) k.one e) ]
allow_same _ (word a b c text o m) d h =
    elim (first_allowed a text d h) [
      | inl k ↦ absurd (some_word a b (first_word text) o k.0)
      | inr k ↦ allow_same b m d (subst (λ (x : Allowed). Allow x (behind_word text) d) (one_once a k.between b (first_word text) k.one o) k.more)
    ]

pub allowed_found : (draft : Draft) (text : List ℕ) (a : Allowed) → AllowsText text a → (after : Draft) → AddsAllowed draft text after →
    Gives (Ok (record { premises = draft.premises; goal = draft.goal; allowed = Some a })) after
allowed_found draft text a k after h =
    let e : a ≡ h.allowed = allow_same none_allowed k.words h.allowed h.allows.words in
    inl (ap (λ (x : Draft). let y : Result Draft TaskFault = Ok x in y)
    (ap (λ (x : Allowed). let d : Draft = record { premises = draft.premises; goal = draft.goal; allowed = Some x } in d) e ∙ sym h.is))
