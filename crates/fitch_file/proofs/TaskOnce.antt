-- A text is one task at most, has one first fault at most, and not both.
use Rattle.std.proofs.Common.{◌≡◌, ℕ, ◌+◌, ◌≤◌, List, [], ◌∷◌, ◌++◌, length, arith, refl, sym, ap, subst, ◌∙◌, Some, None, inl, inr}
use Rattle.std.specs.Prelude.{◌⊎◌}
use Rattle.std.specs.Str.Lines.{lines}
use Rattle.fol_core.specs.declared.sent.Sent.{Sent}
use Rattle.fol_text.specs.Readable.{IsReadable}
use Rattle.fol_text.specs.Refusals.{IsRefused}
use Rattle.fol_text.specs.declared.fault.ReadFault.{ReadFault}
use Rattle.fitch_file.specs.declared.draft.Draft.{Draft}
use Rattle.fitch_file.specs.declared.task.Allowed.{Allowed}
use Rattle.fitch_file.specs.declared.task.TaskText.{TaskText}
use Rattle.fitch_file.specs.declared.fault.TaskFault.{TaskFault}
use Rattle.fitch_file.specs.declared.fault.TaskFault.TheVariants as fault
use Rattle.physical_lines.specs.Physical.{IsBlankLine, IsHeaded}
use Rattle.fitch_file.specs.Headers.{task_header}
use Rattle.fitch_file.specs.Declarations.{IsBehind, AddsPremise, AddsGoal, AddsAllowed, Declares, none_allowed, nothing, premise_word, goal_word, con_word}
use Rattle.fitch_file.specs.TaskText.{Declare, task_lines, IsFinished, SpellsTask}
use Rattle.fitch_file.specs.TaskFaults.{PremiseFails, GoalFails, AllowedFails, HasNoKeyword, DeclarationFails, DeclareFails, fails_here, past_blank, past_line, IsFirstTaskFault, no_header, no_declaration, no_goal}
use Rattle.fitch_file.proofs.Allowing.{allow_same}
use Rattle.fitch_file.proofs.Declaring.{text_once, premise_no_goal, premise_no_con, goal_no_con, declares_premise, declares_goal, declares_allowed}
use Rattle.physical_lines.proofs.Heading.{IsSameHeader, headed_once, lacks_not_headed, lacks_once}
use Rattle.fitch_file.proofs.Tasking.{first_of, blank_declares_none, finished_once, same_text, where_ends}
use Rattle.fitch_file.proofs.Once.{SentenceLaws, readable_once}

-- one line
premise_once : SentenceLaws → (d a b : Draft) (text : List ℕ) → AddsPremise d text a → AddsPremise d text b → a ≡ b
premise_once laws d a b text h k =
    h.is ∙ ap (λ (s : Sent). let e : Draft = record { premises = d.premises ++ s ∷ []; goal = d.goal; allowed = d.allowed } in e) (readable_once laws text h.premise k.premise h.readable k.readable) ∙ sym k.is

goal_once : SentenceLaws → (d a b : Draft) (text : List ℕ) → AddsGoal d text a → AddsGoal d text b → a ≡ b
goal_once laws d a b text h k =
    h.is ∙ ap (λ (s : Sent). let e : Draft = record { premises = d.premises; goal = Some s; allowed = d.allowed } in e) (readable_once laws text h.goal k.goal h.readable k.readable) ∙ sym k.is

allowed_once : (d a b : Draft) (text : List ℕ) → AddsAllowed d text a → AddsAllowed d text b → a ≡ b
allowed_once d a b text h k =
    h.is ∙ ap (λ (r : Allowed). let e : Draft = record { premises = d.premises; goal = d.goal; allowed = Some r } in e) (allow_same none_allowed h.allows.words k.allowed k.allows.words) ∙ sym k.is

declares_once : SentenceLaws → (d a b : Draft) (line : List ℕ) → Declares d line a → Declares d line b → a ≡ b
declares_once laws d a b line (inl h) k = premise_once laws d a b h.text h.holds (declares_premise d b line h.text h.behind k)
declares_once laws d a b line (inr (inl h)) k = goal_once laws d a b h.text h.holds (declares_goal d b line h.text h.behind k)
declares_once laws d a b line (inr (inr h)) k = allowed_once d a b h.text h.holds (declares_allowed d b line h.text h.behind k)

-- its fault
record IsBad (text : List ℕ) (f : TaskFault) : Type 0 where
  pub why : ReadFault
  pub is : f ≡ fault.Sentence why
  pub refused : IsRefused text why

record IsFull (d : Draft) (text : List ℕ) (f : TaskFault) : Type 0 where
  pub is : f ≡ fault.TooManyPremises
  pub premise : Sent
  pub readable : IsReadable text premise
  pub full : 32 ≤ length d.premises

premise_view : (d : Draft) (text : List ℕ) (f : TaskFault) → PremiseFails d text f → IsBad text f ⊎ IsFull d text f
premise_view d text (fault.Sentence why) h = inl (record { why = why; is = refl; refused = h })
premise_view d text fault.TooManyPremises h = inr (record { is = refl; premise = h.0; readable = h.1; full = h.2 })
premise_view d text _ h = absurd h

goal_view : (d : Draft) (text : List ℕ) (f : TaskFault) → GoalFails d text f → ((f ≡ fault.Form) × (d.goal ≡ None → ⊥)) ⊎ ((d.goal ≡ None) × IsBad text f)
goal_view d text fault.Form h = inl (refl, h)
goal_view d text (fault.Sentence why) h = inr (h.0, record { why = why; is = refl; refused = h.1 })
goal_view d text _ h = absurd h

allowed_view : (d : Draft) (text : List ℕ) (f : TaskFault) → AllowedFails d text f → (f ≡ fault.Form) × AllowedFails d text fault.Form
allowed_view d text fault.Form h = (refl, h)
allowed_view d text _ h = absurd h

bad_once : SentenceLaws → (text : List ℕ) (f g : TaskFault) → IsBad text f → IsBad text g → f ≡ g
bad_once laws text f g h k = h.is ∙ ap fault.Sentence (laws.refused text h.why k.why h.refused k.refused) ∙ sym k.is

premise_fault_once : SentenceLaws → (d : Draft) (text : List ℕ) (f g : TaskFault) → IsBad text f ⊎ IsFull d text f → IsBad text g ⊎ IsFull d text g → f ≡ g
premise_fault_once laws d text f g (inl h) (inl k) = bad_once laws text f g h k
premise_fault_once laws d text f g (inl h) (inr k) = absurd (laws.apart text k.premise h.why k.readable h.refused)
premise_fault_once laws d text f g (inr h) (inl k) = absurd (laws.apart text h.premise k.why h.readable k.refused)
premise_fault_once laws d text f g (inr h) (inr k) = h.is ∙ sym k.is

goal_fault_once : SentenceLaws → (d : Draft) (text : List ℕ) (f g : TaskFault) → ((f ≡ fault.Form) × (d.goal ≡ None → ⊥)) ⊎ ((d.goal ≡ None) × IsBad text f) → ((g ≡ fault.Form) × (d.goal ≡ None → ⊥)) ⊎ ((d.goal ≡ None) × IsBad text g) → f ≡ g
goal_fault_once laws d text f g (inl h) (inl k) = h.0 ∙ sym k.0
goal_fault_once laws d text f g (inl h) (inr k) = absurd (h.1 k.0)
goal_fault_once laws d text f g (inr h) (inl k) = absurd (k.1 h.0)
goal_fault_once laws d text f g (inr h) (inr k) = bad_once laws text f g h.1 k.1

fails_premise : (d : Draft) (line text : List ℕ) (f : TaskFault) → IsBehind premise_word line text → DeclarationFails d line f → PremiseFails d text f
fails_premise d line text f b (inl h) = subst (λ t. PremiseFails d t f) (text_once premise_word line h.text text h.behind b) h.holds
fails_premise d line text f b (inr (inl h)) = absurd (premise_no_goal line text h.text b h.behind)
fails_premise d line text f b (inr (inr (inl h))) = absurd (premise_no_con line text h.text b h.behind)
fails_premise d line text f b (inr (inr (inr h))) = absurd (h.1.no_premise text b)

fails_goal : (d : Draft) (line text : List ℕ) (f : TaskFault) → IsBehind goal_word line text → DeclarationFails d line f → GoalFails d text f
fails_goal d line text f b (inl h) = absurd (premise_no_goal line h.text text h.behind b)
fails_goal d line text f b (inr (inl h)) = subst (λ t. GoalFails d t f) (text_once goal_word line h.text text h.behind b) h.holds
fails_goal d line text f b (inr (inr (inl h))) = absurd (goal_no_con line text h.text b h.behind)
fails_goal d line text f b (inr (inr (inr h))) = absurd (h.1.no_goal text b)

fails_allowed : (d : Draft) (line text : List ℕ) (f : TaskFault) → IsBehind con_word line text → DeclarationFails d line f → AllowedFails d text f
fails_allowed d line text f b (inl h) = absurd (premise_no_con line h.text text h.behind b)
fails_allowed d line text f b (inr (inl h)) = absurd (goal_no_con line h.text text h.behind b)
fails_allowed d line text f b (inr (inr (inl h))) = subst (λ t. AllowedFails d t f) (text_once con_word line h.text text h.behind b) h.holds
fails_allowed d line text f b (inr (inr (inr h))) = absurd (h.1.no_con text b)

fails_without : (d : Draft) (line : List ℕ) (f : TaskFault) → HasNoKeyword line → DeclarationFails d line f → f ≡ fault.Form
fails_without d line f n (inl h) = absurd (n.no_premise h.text h.behind)
fails_without d line f n (inr (inl h)) = absurd (n.no_goal h.text h.behind)
fails_without d line f n (inr (inr (inl h))) = absurd (n.no_con h.text h.behind)
fails_without d line f n (inr (inr (inr h))) = h.0

line_fault_once : SentenceLaws → (d : Draft) (line : List ℕ) (f g : TaskFault) → DeclarationFails d line f → DeclarationFails d line g → f ≡ g
line_fault_once laws d line f g (inl h) k = premise_fault_once laws d h.text f g (premise_view d h.text f h.holds) (premise_view d h.text g (fails_premise d line h.text g h.behind k))
line_fault_once laws d line f g (inr (inl h)) k = goal_fault_once laws d h.text f g (goal_view d h.text f h.holds) (goal_view d h.text g (fails_goal d line h.text g h.behind k))
line_fault_once laws d line f g (inr (inr (inl h))) k = (allowed_view d h.text f h.holds).0 ∙ sym (allowed_view d h.text g (fails_allowed d line h.text g h.behind k)).0
line_fault_once laws d line f g (inr (inr (inr h))) k = h.0 ∙ sym (fails_without d line g h.1 k)

premise_apart : SentenceLaws → (d e : Draft) (text : List ℕ) (f : TaskFault) → AddsPremise d text e → IsBad text f ⊎ IsFull d text f → ⊥
premise_apart laws d e text f h (inl k) = laws.apart text h.premise k.why h.readable k.refused
premise_apart laws d e text f h (inr k) = absurd (omega (arith, h.room, k.full))

goal_apart : SentenceLaws → (d e : Draft) (text : List ℕ) (f : TaskFault) → AddsGoal d text e → ((f ≡ fault.Form) × (d.goal ≡ None → ⊥)) ⊎ ((d.goal ≡ None) × IsBad text f) → ⊥
goal_apart laws d e text f h (inl k) = k.1 h.first
goal_apart laws d e text f h (inr k) = laws.apart text h.goal k.1.why h.readable k.1.refused

line_apart : SentenceLaws → (d e : Draft) (line : List ℕ) (f : TaskFault) → Declares d line e → DeclarationFails d line f → ⊥
line_apart laws d e line f (inl h) k = premise_apart laws d e h.text f h.holds (premise_view d h.text f (fails_premise d line h.text f h.behind k))
line_apart laws d e line f (inr (inl h)) k = goal_apart laws d e h.text f h.holds (goal_view d h.text f (fails_goal d line h.text f h.behind k))
line_apart laws d e line f (inr (inr h)) k = (allowed_view d h.text f (fails_allowed d line h.text f h.behind k)).1 h.holds.allowed h.holds.first h.holds.allows

-- the lines
declare_once : SentenceLaws → (d : Draft) (ls : List (List ℕ)) (a b : Draft) → Declare d ls a → Declare d ls b → a ≡ b
declare_once laws d [] a b h k = sym (first_of h) ∙ first_of k
declare_once laws d (l ∷ ls) a b h k =
    elim (first_of h) [
      | inl x ↦ elim (first_of k) [ inl y ↦ declare_once laws d ls a b x.1 y.1 | inr y ↦ absurd (blank_declares_none d y.between l x.0 y.one) ]
      | inr x ↦ elim (first_of k) [
        | inl y ↦ absurd (blank_declares_none d x.between l y.0 x.one)
        | inr y ↦ declare_once laws x.between ls a b x.more (subst (λ (z : Draft). Declare z ls b) (declares_once laws d y.between x.between l y.one x.one) y.more)
      ]
    ]

record FailsHere (d : Draft) (place : ℕ) (line : List ℕ) (n : ℕ) (f : TaskFault) : Type 0 where
  pub number : n ≡ place
  pub written : IsBlankLine line → ⊥
  pub fails : DeclarationFails d line f

record FailsBehind (d : Draft) (place : ℕ) (line : List ℕ) (ls : List (List ℕ)) (n : ℕ) (f : TaskFault) : Type 0 where
  pub between : Draft
  pub one : Declares d line between
  pub fails : DeclareFails between (place + 1) ls n f

abbrev WhereFails : Draft → ℕ → List (List ℕ) → ℕ → TaskFault → Type 0
WhereFails d place [] n f = ⊥
WhereFails d place (l ∷ ls) n f = FailsHere d place l n f ⊎ (IsBlankLine l × DeclareFails d (place + 1) ls n f) ⊎ FailsBehind d place l ls n f

where_fails : {d : Draft} {place : ℕ} {ls : List (List ℕ)} {n : ℕ} {f : TaskFault} → DeclareFails d place ls n f → WhereFails d place ls n f
where_fails (fails_here d place line ls f w h) = inl (record { number = refl; written = w; fails = h })
where_fails (past_blank d place line ls n f b h) = inr (inl (b, h))
where_fails (past_line d between place line ls n f o h) = inr (inr (record { between = between; one = o; fails = h }))

pub record IsSameTaskFault (n m : ℕ) (f g : TaskFault) : Type 0 where
  pub number : n ≡ m
  pub is : f ≡ g

declare_fails_once : SentenceLaws → (d : Draft) (place : ℕ) (ls : List (List ℕ)) (n m : ℕ) (f g : TaskFault) → DeclareFails d place ls n f → DeclareFails d place ls m g → IsSameTaskFault n m f g
declare_fails_once laws d place [] n m f g h k = absurd (where_fails h)
declare_fails_once laws d place (l ∷ ls) n m f g h k =
    elim (where_fails h) [
      | inl a ↦ elim (where_fails k) [
        | inl b ↦ record { number = a.number ∙ sym b.number; is = line_fault_once laws d l f g a.fails b.fails }
        | inr (inl b) ↦ absurd (a.written b.0)
        | inr (inr b) ↦ absurd (line_apart laws d b.between l f b.one a.fails)
      ]
      | inr (inl a) ↦ elim (where_fails k) [
        | inl b ↦ absurd (b.written a.0)
        | inr (inl b) ↦ declare_fails_once laws d (place + 1) ls n m f g a.1 b.1
        | inr (inr b) ↦ absurd (blank_declares_none d b.between l a.0 b.one)
      ]
      | inr (inr a) ↦ elim (where_fails k) [
        | inl b ↦ absurd (line_apart laws d a.between l g a.one b.fails)
        | inr (inl b) ↦ absurd (blank_declares_none d a.between l b.0 a.one)
        | inr (inr b) ↦ declare_fails_once laws a.between (place + 1) ls n m f g a.fails (subst (λ (z : Draft). DeclareFails z (place + 1) ls m g) (declares_once laws d b.between a.between l b.one a.one) b.fails)
      ]
    ]

declare_not_failing : SentenceLaws → (d : Draft) (place : ℕ) (ls : List (List ℕ)) (e : Draft) (n : ℕ) (f : TaskFault) → Declare d ls e → DeclareFails d place ls n f → ⊥
declare_not_failing laws d place [] e n f h k = where_fails k
declare_not_failing laws d place (l ∷ ls) e n f h k =
    elim (first_of h) [
      | inl a ↦ elim (where_fails k) [
        | inl b ↦ b.written a.0
        | inr (inl b) ↦ declare_not_failing laws d (place + 1) ls e n f a.1 b.1
        | inr (inr b) ↦ blank_declares_none d b.between l a.0 b.one
      ]
      | inr a ↦ elim (where_fails k) [
        | inl b ↦ line_apart laws d a.between l f a.one b.fails
        | inr (inl b) ↦ blank_declares_none d a.between l b.0 a.one
        | inr (inr b) ↦ declare_not_failing laws a.between (place + 1) ls e n f a.more (subst (λ (z : Draft). DeclareFails z (place + 1) ls n f) (declares_once laws d b.between a.between l b.one a.one) b.fails)
      ]
    ]

-- the whole text
declared_behind : (text : List ℕ) (n : ℕ) (others : List (List ℕ)) (t : TaskText) → IsHeaded task_header (lines text) n others → (s : SpellsTask text t.task t.lines t.rest) → Declare nothing (task_lines others) s.draft
declared_behind text n others t h s =
    subst (λ ls. Declare nothing (task_lines ls) s.draft) (headed_once task_header (lines text) s.place n s.others others s.headed h).rest_is s.declare

pub task_once : SentenceLaws → (text : List ℕ) (t u : TaskText) → SpellsTask text t.task t.lines t.rest → SpellsTask text u.task u.lines u.rest → t ≡ u
task_once laws text t u h k =
    let d : k.draft ≡ h.draft = declare_once laws nothing (task_lines h.others) k.draft h.draft (declared_behind text h.place h.others u h.headed k) h.declare in
    same_text t u (finished_once h.draft t.task u.task h.finished (subst (λ (x : Draft). IsFinished x u.task) d k.finished)) (h.counted ∙ sym k.counted) (where_ends h.ends u.rest k.ends)

same_start : (text : List ℕ) (n m : ℕ) (others others' : List (List ℕ)) (k : ℕ) (g : TaskFault) → IsHeaded task_header (lines text) n others → IsHeaded task_header (lines text) m others' →
    DeclareFails nothing (m + 1) (task_lines others') k g → DeclareFails nothing (n + 1) (task_lines others) k g
same_start text n m others others' k g h i x =
    let s : IsSameHeader m n others' others = headed_once task_header (lines text) m n others' others i h in
    subst (λ p. DeclareFails nothing (p + 1) (task_lines others) k g) s.number (subst (λ ls. DeclareFails nothing (m + 1) (task_lines ls) k g) s.rest_is x)

same_declared : (text : List ℕ) (n m : ℕ) (others others' : List (List ℕ)) (d : Draft) → IsHeaded task_header (lines text) n others → IsHeaded task_header (lines text) m others' → Declare nothing (task_lines others') d → Declare nothing (task_lines others) d
same_declared text n m others others' d h i x = subst (λ ls. Declare nothing (task_lines ls) d) (headed_once task_header (lines text) m n others' others i h).rest_is x

pub task_fault_once : SentenceLaws → {text : List ℕ} {n : ℕ} {f : TaskFault} → IsFirstTaskFault text n f → (m : ℕ) (g : TaskFault) → IsFirstTaskFault text m g → IsSameTaskFault n m f g
task_fault_once laws (no_header text n l) m g (no_header _ _ k) = record { number = lacks_once task_header (lines text) n m l k; is = refl }
task_fault_once laws (no_header text n l) m g (no_declaration _ place others _ _ h k) = absurd (lacks_not_headed task_header (lines text) n place others l h)
task_fault_once laws (no_header text n l) m g (no_goal _ place others d h k e) = absurd (lacks_not_headed task_header (lines text) n place others l h)
task_fault_once laws (no_declaration text place others n f h k) m g (no_header _ _ l) = absurd (lacks_not_headed task_header (lines text) m place others l h)
task_fault_once laws (no_declaration text place others n f h k) m g (no_declaration _ place' others' _ _ h' k') =
    declare_fails_once laws nothing (place + 1) (task_lines others) n m f g k (same_start text place place' others others' m g h h' k')
task_fault_once laws (no_declaration text place others n f h k) m g (no_goal _ place' others' d h' k' e) =
    absurd (declare_not_failing laws nothing (place + 1) (task_lines others) d n f (same_declared text place place' others others' d h h' k') k)
task_fault_once laws (no_goal text place others d h k e) m g (no_header _ _ l) = absurd (lacks_not_headed task_header (lines text) m place others l h)
task_fault_once laws (no_goal text place others d h k e) m g (no_declaration _ place' others' _ _ h' k') =
    absurd (declare_not_failing laws nothing (place + 1) (task_lines others) d m g k (same_start text place place' others others' m g h h' k'))
task_fault_once laws (no_goal text place others d h k e) m g (no_goal _ place' others' d' h' k' e') = record { number = refl; is = refl }

pub task_not_faulty : SentenceLaws → {text : List ℕ} {n : ℕ} {f : TaskFault} → IsFirstTaskFault text n f → (t : TaskText) → SpellsTask text t.task t.lines t.rest → ⊥
task_not_faulty laws (no_header text n l) t s = lacks_not_headed task_header (lines text) n s.place s.others l s.headed
task_not_faulty laws (no_declaration text place others n f h k) t s = declare_not_failing laws nothing (place + 1) (task_lines others) s.draft n f (declared_behind text place others t h s) k
task_not_faulty laws (no_goal text place others d h k e) t s =
    let x : d ≡ s.draft = declare_once laws nothing (task_lines others) d s.draft k (declared_behind text place others t h s) in
    let y : Some t.task.goal ≡ None = sym s.finished.goal ∙ ap (λ (z : Draft). z.goal) (sym x) ∙ e in
    absurd (cc)
