-- What the text behind a keyword declares is one thing at most, and it is read.
use Rattle.std.proofs.Common.{◌≡◌, ℕ, eqb, eq-eqb, true, false, List, [], ◌∷◌, ◌++◌, get_or, refl, sym, ap, subst, ◌∙◌, Some, Result, Ok, Err, inl, inr, IfErr, IfOk}
use Rattle.std.specs.Prelude.{◌⊎◌, IsErrAnd}
use Rattle.std.proofs.lemmas.List.{append_cancel_left}
use Rattle.texts.specs.Blanks.{trimmed}
use Rattle.fol_core.specs.declared.sent.Sent.{Sent}
use Rattle.fol_text.specs.Readable.{IsReadable}
use Rattle.fol_text.specs.declared.fault.ReadFault.{ReadFault}
use Rattle.fol_text.specs.declared.fault.ReadFault.TheVariants as read_fault
use Rattle.fitch_file.specs.declared.fault.TaskFault.{TaskFault}
use Rattle.fitch_file.specs.declared.fault.TaskFault.TheVariants.{Memory}
use Rattle.fitch_file.specs.declared.draft.Draft.{Draft}
use Rattle.fitch_file.specs.Words.{ends_word}
use Rattle.fitch_file.specs.Declarations.{IsBehind, AddsPremise, AddsGoal, AddsAllowed, Says, Declares, premise_word, goal_word, con_word}
use Rattle.fitch_file.specs.TaskFaults.{PremiseFails, GoalFails, AllowedFails, DeclarationFails}
use Rattle.fitch_file.specs.TaskReaders.{declared_fault}
use Rattle.fitch_file.proofs.Stating.{ReadsExactly}

-- The answer is this value, or want of memory.
abbrev pub Gives : {X : Type 0} → Result X TaskFault → X → Type 0
Gives r x = (r ≡ Ok x) ⊎ (r ≡ Err Memory)

-- A refusal that is handed on.
pub handed_on : {X Y : Type 0} (r : Result X TaskFault) (x : X) (e : TaskFault) (q : Result Y TaskFault) (y : Y) → r ≡ Err e → IsErrAnd q (λ f. f ≡ e) → Gives r x → Gives q y
handed_on r x e (Ok z) y was is g = absurd is
handed_on r x e (Err f) y was is (inl g) = absurd (cc)
handed_on {Y = Y} r x e (Err f) y was is (inr g) = let k : f ≡ Memory = cc in inr (ap (λ (z : TaskFault). let w : Result Y TaskFault = Err z in w) k)

pub declared_found : (text : List ℕ) (r : Result Sent ReadFault) (s : Sent) → r ≡ Ok s → ReadsExactly text r → (t : Sent) → IsReadable text t → Gives (Ok s) t
declared_found text r s e exact t h =
    elim (exact t h) [
      | inl f ↦ let g : s ≡ t = cc in inl (ap (λ (x : Sent). let y : Result Sent TaskFault = Ok x in y) g)
      | inr f ↦ absurd (cc)
    ]

pub declared_refused : (text : List ℕ) (r : Result Sent ReadFault) (why : ReadFault) (fault : TaskFault) → r ≡ Err why → fault ≡ declared_fault why → ReadsExactly text r → (t : Sent) → IsReadable text t → Gives (Err fault) t
declared_refused text r why fault e f exact t h =
    elim (exact t h) [
      | inl g ↦ absurd (cc)
      | inr g ↦ let w : why ≡ read_fault.Memory = cc in inr (ap (λ (x : TaskFault). let y : Result Sent TaskFault = Err x in y) (f ∙ ap declared_fault w))
    ]

same_draft : (d e : Draft) → d ≡ e → Gives (Ok d) e
same_draft d e h = inl (ap (λ (x : Draft). let y : Result Draft TaskFault = Ok x in y) h)

same_read : (r : Result Sent TaskFault) (s t : Sent) → r ≡ Ok s → Gives r t → s ≡ t
same_read r s t e (inl f) = cc
same_read r s t e (inr f) = absurd (cc)

pub premise_found : (draft : Draft) (text : List ℕ) (p : Sent) (ps : List Sent) (r : Result Sent TaskFault) → r ≡ Ok p → ((s : Sent) → IsReadable text s → Gives r s) → ps ≡ draft.premises ++ p ∷ [] →
    (after : Draft) → AddsPremise draft text after → Gives (Ok (record { premises = ps; goal = draft.goal; allowed = draft.allowed })) after
premise_found draft text p ps r e exact f after h =
    let s : p ≡ h.premise = same_read r p h.premise e (exact h.premise h.readable) in
    same_draft (record { premises = ps; goal = draft.goal; allowed = draft.allowed }) after
    (ap (λ (xs : List Sent). let d : Draft = record { premises = xs; goal = draft.goal; allowed = draft.allowed } in d) (f ∙ ap (λ x. draft.premises ++ x ∷ []) s) ∙ sym h.is)

pub goal_found : (draft : Draft) (text : List ℕ) (s : Sent) (r : Result Sent TaskFault) → r ≡ Ok s → ((t : Sent) → IsReadable text t → Gives r t) →
    (after : Draft) → AddsGoal draft text after → Gives (Ok (record { premises = draft.premises; goal = Some s; allowed = draft.allowed })) after
goal_found draft text s r e exact after h =
    let f : s ≡ h.goal = same_read r s h.goal e (exact h.goal h.readable) in
    same_draft (record { premises = draft.premises; goal = Some s; allowed = draft.allowed }) after
    (ap (λ (x : Sent). let d : Draft = record { premises = draft.premises; goal = Some x; allowed = draft.allowed } in d) f ∙ sym h.is)

-- the text behind a keyword
pub text_once : (keyword line text other : List ℕ) → IsBehind keyword line text → IsBehind keyword line other → text ≡ other
text_once keyword line text other h k = h.is ∙ ap trimmed (append_cancel_left keyword h.tail k.tail (sym h.begins ∙ k.begins)) ∙ sym k.is

pub not_behind : (keyword line tail : List ℕ) → line ≡ keyword ++ tail → ends_word tail ≡ false → (text : List ℕ) → IsBehind keyword line text → ⊥
not_behind keyword line tail e f text h =
    let g : ends_word tail ≡ true = subst (λ t. ends_word t ≡ true) (append_cancel_left keyword h.tail tail (sym h.begins ∙ e)) h.parted in
    absurd (cc)

apart : (m n : ℕ) → m ≡ n → eqb m n ≡ false → ⊥
apart m n e f = let g : eqb m n ≡ true = eq-eqb m n e in cc

pub premise_no_goal : (line text other : List ℕ) → IsBehind premise_word line text → IsBehind goal_word line other → ⊥
premise_no_goal line text other h k =
    let e : premise_word ++ h.tail ≡ goal_word ++ k.tail = sym h.begins ∙ k.begins in
    apart 112 103 (ap (λ (xs : List ℕ). get_or xs 0 0) e) refl

pub premise_no_con : (line text other : List ℕ) → IsBehind premise_word line text → IsBehind con_word line other → ⊥
premise_no_con line text other h k =
    let e : premise_word ++ h.tail ≡ con_word ++ k.tail = sym h.begins ∙ k.begins in
    apart 112 99 (ap (λ (xs : List ℕ). get_or xs 0 0) e) refl

pub goal_no_con : (line text other : List ℕ) → IsBehind goal_word line text → IsBehind con_word line other → ⊥
goal_no_con line text other h k =
    let e : goal_word ++ h.tail ≡ con_word ++ k.tail = sym h.begins ∙ k.begins in
    apart 103 99 (ap (λ (xs : List ℕ). get_or xs 0 0) e) refl

-- a line with a keyword declares what its text declares
pub declares_premise : (draft after : Draft) (line text : List ℕ) → IsBehind premise_word line text → Declares draft line after → AddsPremise draft text after
declares_premise draft after line text b (inl h) = subst (λ t. AddsPremise draft t after) (text_once premise_word line h.text text h.behind b) h.holds
declares_premise draft after line text b (inr (inl h)) = absurd (premise_no_goal line text h.text b h.behind)
declares_premise draft after line text b (inr (inr h)) = absurd (premise_no_con line text h.text b h.behind)

pub declares_goal : (draft after : Draft) (line text : List ℕ) → IsBehind goal_word line text → Declares draft line after → AddsGoal draft text after
declares_goal draft after line text b (inl h) = absurd (premise_no_goal line h.text text h.behind b)
declares_goal draft after line text b (inr (inl h)) = subst (λ t. AddsGoal draft t after) (text_once goal_word line h.text text h.behind b) h.holds
declares_goal draft after line text b (inr (inr h)) = absurd (goal_no_con line text h.text b h.behind)

pub declares_allowed : (draft after : Draft) (line text : List ℕ) → IsBehind con_word line text → Declares draft line after → AddsAllowed draft text after
declares_allowed draft after line text b (inl h) = absurd (premise_no_con line h.text text h.behind b)
declares_allowed draft after line text b (inr (inl h)) = absurd (goal_no_con line h.text text h.behind b)
declares_allowed draft after line text b (inr (inr h)) = subst (λ t. AddsAllowed draft t after) (text_once con_word line h.text text h.behind b) h.holds

pub declares_none : (draft after : Draft) (line : List ℕ) → ((text : List ℕ) → IsBehind premise_word line text → ⊥) → ((text : List ℕ) → IsBehind goal_word line text → ⊥) → ((text : List ℕ) → IsBehind con_word line text → ⊥) →
    Declares draft line after → ⊥
declares_none draft after line p g k (inl h) = p h.text h.behind
declares_none draft after line p g k (inr (inl h)) = g h.text h.behind
declares_none draft after line p g k (inr (inr h)) = k h.text h.behind

-- and fails as its text fails
pub premise_fails : (draft : Draft) (line text : List ℕ) (r : Result Draft TaskFault) → IsBehind premise_word line text → IfErr r (λ f. (f ≡ Memory) ⊎ PremiseFails draft text f) → IfErr r (λ f. (f ≡ Memory) ⊎ DeclarationFails draft line f)
premise_fails draft line text (Ok d) b h = tt
premise_fails draft line text (Err f) b (inl m) = inl m
premise_fails draft line text (Err f) b (inr h) = inr (inl (record { text = text; behind = b; holds = h }))

pub goal_fails : (draft : Draft) (line text : List ℕ) (r : Result Draft TaskFault) → IsBehind goal_word line text → IfErr r (λ f. (f ≡ Memory) ⊎ GoalFails draft text f) → IfErr r (λ f. (f ≡ Memory) ⊎ DeclarationFails draft line f)
goal_fails draft line text (Ok d) b h = tt
goal_fails draft line text (Err f) b (inl m) = inl m
goal_fails draft line text (Err f) b (inr h) = inr (inr (inl (record { text = text; behind = b; holds = h })))

pub allowed_fails : (draft : Draft) (line text : List ℕ) (r : Result Draft TaskFault) → IsBehind con_word line text → IfErr r (λ f. (f ≡ Memory) ⊎ AllowedFails draft text f) → IfErr r (λ f. (f ≡ Memory) ⊎ DeclarationFails draft line f)
allowed_fails draft line text (Ok d) b h = tt
allowed_fails draft line text (Err f) b (inl m) = inl m
allowed_fails draft line text (Err f) b (inr h) = inr (inr (inr (inl (record { text = text; behind = b; holds = h }))))

pub says_read : (keyword line text : List ℕ) (P : List ℕ → Draft → Type 0) (r : Result Draft TaskFault) → IsBehind keyword line text → IfOk r (P text) → IfOk r (λ after. Says keyword line (λ t. P t after))
says_read keyword line text P (Ok d) b h = record { text = text; behind = b; holds = h }
says_read keyword line text P (Err f) b h = tt
