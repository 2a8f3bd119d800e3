-- Reading the lines of a task one by one.
use Rattle.std.proofs.Common.{◌≡◌, ◌≢◌, ℕ, ◌+◌, ◌-◌, ◌<◌, ◌≤◌, eqb, Bool, true, false, List, [], ◌∷◌, ◌++◌, length, take, get_or, arith, refl, sym, ap, subst, ◌∙◌, Some, None, Result, Ok, Err, inl, inr, IfErr, IfOk, length-append, length-take}
use Rattle.std.specs.Prelude.{◌⊎◌, ◌==◌, if◌then◌else◌, IsErrAnd}
use Rattle.std.specs.Str.Lines.{lines, strip_carriage_return}
use Rattle.std.proofs.lemmas.Bool.Decides.{nat_tests}
use Rattle.texts.specs.Blanks.{after_blanks, before_blanks}
use Rattle.texts.specs.Lines.{IsFirstLine, ended, last}
use Rattle.texts.proofs.Splitting.{lines-cut, lines-last}
use Rattle.texts.proofs.Cutting.{cut_once, lacks_not_cut}
use Rattle.texts.proofs.Trimming.{front_before_blanks}
use Rattle.fitch_file.specs.declared.draft.Draft.{Draft}
use Rattle.fitch_file.specs.declared.task.Task.{Task}
use Rattle.fitch_file.specs.declared.task.TaskText.{TaskText}
use Rattle.fitch_file.specs.declared.task.Allowed.{Allowed}
use Rattle.fitch_file.specs.declared.task_text.Progress.{Progress}
use Rattle.fitch_file.specs.declared.fault.TaskFault.{TaskFault}
use Rattle.fitch_file.specs.declared.fault.TaskFault.TheVariants.{Memory, NoGoal}
use Rattle.fol_core.specs.declared.sent.Sent.{Sent}
use Rattle.physical_lines.specs.Physical.{IsBlankLine, ComesFirst, at_once, past_blank as comes_later, IsHeader, IsHeaded}
use Rattle.fitch_file.specs.Headers.{task_header}
use Rattle.fitch_file.specs.Claim.{is_nothing}
use Rattle.fitch_file.specs.Words.{begins_proof}
use Rattle.fitch_file.specs.Declarations.{Declares, premise_word, goal_word, con_word, nothing}
use Rattle.fitch_file.specs.TaskText.{Declare, no_more, blank_line, declaration, IsFinished, task_lines, proof_lines, count_written, count_before, count_of_lines, EndsAt, at_end, at_proof, past_line, SpellsTask}
use Rattle.fitch_file.specs.TaskFaults.{DeclarationFails, DeclareFails, fails_here, past_blank, past_line as past_declaration, IsFirstTaskFault, no_declaration, no_goal}
use Rattle.physical_lines.specs.Leading.{LeadsTo, leads_here, leads_on}
use Rattle.fitch_file.specs.TaskReaders.{Advances}
use Rattle.physical_lines.proofs.Heading.{IsSameHeader, headed_once}

-- the first physical line
positive : (text : List ℕ) → text ≢ [] → 0 < length text
positive [] h = absurd (h refl)
positive (b ∷ bs) h = omega arith

pub first_lines : {text line rest : List ℕ} → IsFirstLine text line rest → lines text ≡ line ∷ lines rest
first_lines (ended text raw rest c) = lines-cut text raw rest c
first_lines (last text some l) = lines-last text (positive text some) l

pub record IsSameLine (line line' rest rest' : List ℕ) : Type 0 where
  pub is : line ≡ line'
  pub rest_is : rest ≡ rest'

pub line_once : {text line rest : List ℕ} → IsFirstLine text line rest → (line' rest' : List ℕ) → IsFirstLine text line' rest' → IsSameLine line line' rest rest'
line_once (ended text raw rest c) _ _ (ended _ raw' rest' c') =
    let e : (raw ≡ raw') × (rest ≡ rest') = cut_once 10 text raw rest raw' rest' c c' in
    record { is = ap strip_carriage_return e.0; rest_is = e.1 }
line_once (ended text raw rest c) _ _ (last _ some l) = absurd (lacks_not_cut 10 text raw rest l c)
line_once (last text some l) _ _ (ended _ raw rest c) = absurd (lacks_not_cut 10 text raw rest l c)
line_once (last text some l) _ _ (last _ some' l') = record { is = refl; rest_is = refl }

pub line_some : {text line rest : List ℕ} → IsFirstLine text line rest → text ≡ [] → ⊥
line_some (ended text raw rest c) e = let f : length text ≡ 0 = ap length e in absurd (omega (arith, ap length c.joined, length-append raw (10 ∷ rest)))
line_some (last text some l) e = some e

either_fits : (c : Bool) (xs ys : List ℕ) (n : ℕ) → length xs ≤ n → length ys ≤ n → length (if c then xs else ys) ≤ n
either_fits true xs ys n h k = h
either_fits false xs ys n h k = k

stripped_fits : (raw : List ℕ) → length (strip_carriage_return raw) ≤ length raw
stripped_fits raw =
    either_fits (eqb (get_or raw (length raw - 1) 0) 13) (take (length raw - 1) raw) raw (length raw) (omega (arith, length-take (length raw - 1) raw)) (omega arith)

pub line_fits : {text line rest : List ℕ} → IsFirstLine text line rest → length line + length rest ≤ length text
line_fits (ended text raw rest c) = omega (arith, ap length c.joined, length-append raw (10 ∷ rest), stripped_fits raw)
line_fits (last text some l) = omega arith

pub line_shorter : {text line rest : List ℕ} → IsFirstLine text line rest → length rest < length text
line_shorter (ended text raw rest c) = omega (arith, ap length c.joined, length-append raw (10 ∷ rest))
line_shorter (last text some l) = positive text some

-- where the task ends, in bytes
record EndsEarly (text : List ℕ) (n : ℕ) : Type 0 where
  pub line : List ℕ
  pub rest : List ℕ
  pub first : IsFirstLine text line rest
  pub begins : begins_proof line ≡ true
  pub is : n ≡ 0

record EndsLater (text : List ℕ) (n : ℕ) : Type 0 where
  pub line : List ℕ
  pub rest : List ℕ
  pub more : ℕ
  pub first : IsFirstLine text line rest
  pub begins : begins_proof line ≡ false
  pub ends : EndsAt rest more
  pub is : n ≡ length text - length rest + more

end_form : {text : List ℕ} {n : ℕ} → EndsAt text n → ((text ≡ []) × (n ≡ 0)) ⊎ EndsEarly text n ⊎ EndsLater text n
end_form at_end = inl (refl, refl)
end_form (at_proof text line rest f p) = inr (inl (record { line = line; rest = rest; first = f; begins = p; is = refl }))
end_form (past_line text line rest n f p h) = inr (inr (record { line = line; rest = rest; more = n; first = f; begins = p; ends = h; is = refl }))

begins_once : {text line rest : List ℕ} → IsFirstLine text line rest → (line' rest' : List ℕ) → IsFirstLine text line' rest' → begins_proof line ≡ true → begins_proof line' ≡ false → ⊥
begins_once {line = line} f line' rest' g p q = let e : begins_proof line ≡ begins_proof line' = ap begins_proof (line_once f line' rest' g).is in let b : true ≡ false = sym p ∙ e ∙ q in absurd (cc)

pub where_ends : {text : List ℕ} {n : ℕ} → EndsAt text n → (m : ℕ) → EndsAt text m → n ≡ m
where_ends at_end m h =
    elim (end_form h) [
      | inl k ↦ sym k.1
      | inr (inl k) ↦ absurd (line_some k.first refl)
      | inr (inr k) ↦ absurd (line_some k.first refl)
    ]
where_ends (at_proof text line rest f p) m h =
    elim (end_form h) [
      | inl k ↦ absurd (line_some f k.0)
      | inr (inl k) ↦ sym k.is
      | inr (inr k) ↦ absurd (begins_once f k.line k.rest k.first p k.begins)
    ]
where_ends (past_line text line rest n f p h) m k =
    elim (end_form k) [
      | inl j ↦ absurd (line_some f j.0)
      | inr (inl j) ↦ absurd (begins_once j.first line rest f j.begins p)
      | inr (inr j) ↦
          let s : rest ≡ j.rest = (line_once f j.line j.rest j.first).rest_is in
          let e : n ≡ j.more = where_ends h j.more (subst (λ t. EndsAt t j.more) (sym s) j.ends) in
          ap (λ x. length text - length rest + x) e ∙ ap (λ t. length text - length t + j.more) s ∙ sym j.is
    ]

-- What is known of the lines of a text that were read, `place` of them, `written` up to the last one that isn't blank.
pub record Counted (text : List ℕ) (place written : ℕ) (rest : List ℕ) : Type 0 where
  pub ends : (n : ℕ) → EndsAt rest n → EndsAt text (length text - length rest + n)
  pub total : length (task_lines (lines text)) ≡ place + length (task_lines (lines rest))
  pub behind : proof_lines (lines text) ≡ proof_lines (lines rest)
  pub marked : count_written (task_lines (lines text)) ≡ (if count_written (task_lines (lines rest)) == 0 then written else place + count_written (task_lines (lines rest)))
  pub fits : length rest ≤ length text

zero_case : (n : ℕ) → n ≡ (if n == 0 then 0 else 0 + n)
zero_case n = grind (arith, nat_tests)

not_nothing : (bs : List ℕ) → (bs ≡ [] → ⊥) → is_nothing bs ≡ false
not_nothing [] h = absurd (h refl)
not_nothing (b ∷ bs) h = refl

ends_on : (text rest line after : List ℕ) → ((n : ℕ) → EndsAt rest n → EndsAt text (length text - length rest + n)) → length rest ≤ length text → IsFirstLine rest line after → begins_proof line ≡ false →
    (n : ℕ) → EndsAt after n → EndsAt text (length text - length after + n)
ends_on text rest line after ends fits f p n h =
    subst (EndsAt text) (omega (arith, fits, line_shorter f)) (ends (length rest - length after + n) (past_line rest line after n f p h))

counted_start : (text : List ℕ) → Counted text 0 0 text
counted_start text = record {
  ends = λ n h. subst (EndsAt text) (omega arith) h;
  total = omega arith;
  behind = refl;
  marked = zero_case (count_written (task_lines (lines text)));
  fits = omega arith;
}

next_task : {text line rest : List ℕ} → IsFirstLine text line rest → begins_proof line ≡ false → task_lines (lines text) ≡ line ∷ task_lines (lines rest)
next_task {text} {line} {rest} f p = ap task_lines (first_lines f) ∙ (rw p refl)

next_proof : {text line rest : List ℕ} → IsFirstLine text line rest → begins_proof line ≡ false → proof_lines (lines text) ≡ proof_lines (lines rest)
next_proof {text} {line} {rest} f p = ap proof_lines (first_lines f) ∙ (rw p refl)

count_blank : (line : List ℕ) (ls : List (List ℕ)) → IsBlankLine line → count_written (line ∷ ls) ≡ (if count_written ls == 0 then 0 else 1 + count_written ls)
count_blank line ls b = rw b refl

count_other : (line : List ℕ) (ls : List (List ℕ)) → (IsBlankLine line → ⊥) → count_written (line ∷ ls) ≡ (if count_written ls == 0 then 1 else 1 + count_written ls)
count_other line ls w = ap (λ b. if count_written ls == 0 then (if b then 0 else 1) else 1 + count_written ls) (not_nothing (after_blanks line) w)

marks_blank : (place written n m : ℕ) → n ≡ (if m == 0 then 0 else 1 + m) → (if n == 0 then written else place + n) ≡ (if m == 0 then written else place + 1 + m)
marks_blank place written n m e = grind (arith, nat_tests)

marks_other : (place written n m : ℕ) → n ≡ (if m == 0 then 1 else 1 + m) → (if n == 0 then written else place + n) ≡ (if m == 0 then place + 1 else place + 1 + m)
marks_other place written n m e = grind (arith, nat_tests)

pub counted_blank : (text : List ℕ) (place written : ℕ) (rest line after : List ℕ) → Counted text place written rest → IsFirstLine rest line after → begins_proof line ≡ false → IsBlankLine line →
    Counted text (place + 1) written after
counted_blank text place written rest line after c f p b =
    let t : task_lines (lines rest) ≡ line ∷ task_lines (lines after) = next_task f p in
    let n : count_written (task_lines (lines rest)) ≡ (if count_written (task_lines (lines after)) == 0 then 0 else 1 + count_written (task_lines (lines after))) = ap count_written t ∙ count_blank line (task_lines (lines after)) b in
    record {
      ends = ends_on text rest line after c.ends c.fits f p;
      total = omega (arith, c.total, ap length t);
      behind = c.behind ∙ next_proof f p;
      marked = c.marked ∙ marks_blank place written (count_written (task_lines (lines rest))) (count_written (task_lines (lines after))) n;
      fits = omega (arith, c.fits, line_shorter f);
    }

pub counted_other : (text : List ℕ) (place written : ℕ) (rest line after : List ℕ) → Counted text place written rest → IsFirstLine rest line after → begins_proof line ≡ false → (IsBlankLine line → ⊥) →
    Counted text (place + 1) (place + 1) after
counted_other text place written rest line after c f p b =
    let t : task_lines (lines rest) ≡ line ∷ task_lines (lines after) = next_task f p in
    let n : count_written (task_lines (lines rest)) ≡ (if count_written (task_lines (lines after)) == 0 then 1 else 1 + count_written (task_lines (lines after))) = ap count_written t ∙ count_other line (task_lines (lines after)) b in
    record {
      ends = ends_on text rest line after c.ends c.fits f p;
      total = omega (arith, c.total, ap length t);
      behind = c.behind ∙ next_proof f p;
      marked = c.marked ∙ marks_other place written (count_written (task_lines (lines rest))) (count_written (task_lines (lines after))) n;
      fits = omega (arith, c.fits, line_shorter f);
    }

-- the header
blank_no_proof : (line : List ℕ) → IsBlankLine line → begins_proof line ≡ false
blank_no_proof line b = rw b refl

header_front : (line : List ℕ) → IsHeader task_header line → (tail : List ℕ) × (line ≡ task_header ++ tail)
header_front line h =
    let front : (tail : List ℕ) × (line ≡ before_blanks line ++ tail) = front_before_blanks line in
    (front.0, front.1 ∙ ap (λ xs. xs ++ front.0) h)

pub header_no_proof : (line : List ℕ) → IsHeader task_header line → begins_proof line ≡ false
header_no_proof line h = let f : (tail : List ℕ) × (line ≡ task_header ++ tail) = header_front line h in ap begins_proof f.1

header_long : (line : List ℕ) → IsHeader task_header line → 6 ≤ length line
header_long line h = let f : (tail : List ℕ) × (line ≡ task_header ++ tail) = header_front line h in omega (arith, ap length f.1, length-append task_header f.0)

leads_counted : {place : ℕ} {text : List ℕ} {n : ℕ} {line rest : List ℕ} → LeadsTo place text n line rest → begins_proof line ≡ false → (whole : List ℕ) (k : ℕ) → place ≡ k + 1 → Counted whole k 0 text → Counted whole n n rest
leads_counted (leads_here place text line rest f w) p whole k e c =
    subst (λ m. Counted whole m m rest) (sym e) (counted_other whole k 0 text line rest c f p w)
leads_counted (leads_on place text blank after n line rest f b l) p whole k e c =
    leads_counted l p whole (k + 1) (omega (arith, e)) (counted_blank whole k 0 text blank after c f (blank_no_proof blank b) b)

leads_comes : {place : ℕ} {text : List ℕ} {n : ℕ} {line rest : List ℕ} → LeadsTo place text n line rest → ComesFirst place (lines text) n line (lines rest)
leads_comes (leads_here place text line rest f w) = subst (λ ls. ComesFirst place ls place line (lines rest)) (sym (first_lines f)) (at_once place line (lines rest) w)
leads_comes (leads_on place text blank after n line rest f b l) =
    subst (λ ls. ComesFirst place ls n line (lines rest)) (sym (first_lines f)) (comes_later place blank (lines after) n line (lines rest) b (leads_comes l))

leads_room : {place : ℕ} {text : List ℕ} {n : ℕ} {line rest : List ℕ} → LeadsTo place text n line rest → n + length line + length rest ≤ place + length text
leads_room (leads_here place text line rest f w) = omega (arith, line_fits f)
leads_room (leads_on place text blank after n line rest f b l) = omega (arith, leads_room l, line_shorter f)

-- what is left to declare, after the lines so far
pub record Tasks (start : ℕ) (whole : List (List ℕ)) (draft : Draft) (place : ℕ) (left : List (List ℕ)) : Type 0 where
  pub on : (e : Draft) → Declare draft left e → Declare nothing whole e
  pub back : (e : Draft) → Declare nothing whole e → Declare draft left e
  pub fails : (n : ℕ) (f : TaskFault) → DeclareFails draft place left n f → DeclareFails nothing start whole n f

tasks_start : (start : ℕ) (whole : List (List ℕ)) → Tasks start whole nothing start whole
tasks_start start whole = record { on = λ e h. h; back = λ e h. h; fails = λ n f h. h }

-- how the first line goes
pub record DeclaresFirst (draft : Draft) (line : List ℕ) (left : List (List ℕ)) (e : Draft) : Type 0 where
  pub between : Draft
  pub one : Declares draft line between
  pub more : Declare between left e

abbrev pub FirstOf : Draft → List (List ℕ) → Draft → Type 0
FirstOf draft [] e = draft ≡ e
FirstOf draft (line ∷ left) e = (IsBlankLine line × Declare draft left e) ⊎ DeclaresFirst draft line left e

pub first_of : {draft : Draft} {ls : List (List ℕ)} {e : Draft} → Declare draft ls e → FirstOf draft ls e
first_of (no_more draft) = refl
first_of (blank_line before after line ls b h) = inl (b, h)
first_of (declaration before between after line ls d h) = inr (record { between = between; one = d; more = h })

pub blank_declares_none : (draft e : Draft) (line : List ℕ) → IsBlankLine line → Declares draft line e → ⊥
blank_declares_none draft e line b (inl h) = let f : premise_word ++ h.behind.tail ≡ [] = sym (ap after_blanks h.behind.begins) ∙ b in absurd (cc)
blank_declares_none draft e line b (inr (inl h)) = let f : goal_word ++ h.behind.tail ≡ [] = sym (ap after_blanks h.behind.begins) ∙ b in absurd (cc)
blank_declares_none draft e line b (inr (inr h)) = let f : con_word ++ h.behind.tail ≡ [] = sym (ap after_blanks h.behind.begins) ∙ b in absurd (cc)

tasks_blank : (start : ℕ) (whole : List (List ℕ)) (draft : Draft) (place : ℕ) (line : List ℕ) (left : List (List ℕ)) → Tasks start whole draft place (line ∷ left) → IsBlankLine line → Tasks start whole draft (place + 1) left
tasks_blank start whole draft place line left t b = record {
  on = λ e h. t.on e (blank_line draft e line left b h);
  back = λ e h. elim (first_of (t.back e h)) [ inl k ↦ k.1 | inr k ↦ absurd (blank_declares_none draft k.between line b k.one) ];
  fails = λ n f h. t.fails n f (past_blank draft place line left n f b h);
}

tasks_declares : (start : ℕ) (whole : List (List ℕ)) (draft next : Draft) (place : ℕ) (line : List ℕ) (left : List (List ℕ)) → Tasks start whole draft place (line ∷ left) → Declares draft line next →
    ((e : Draft) → Declares draft line e → e ≡ next) → Tasks start whole next (place + 1) left
tasks_declares start whole draft next place line left t d only = record {
  on = λ e h. t.on e (declaration draft next e line left d h);
  back = λ e h. elim (first_of (t.back e h)) [
    | inl k ↦ absurd (blank_declares_none draft next line k.0 d)
    | inr k ↦ subst (λ (x : Draft). Declare x left e) (only k.between k.one) k.more
  ];
  fails = λ n f h. t.fails n f (past_declaration draft next place line left n f d h);
}

-- What is known once the lines before the rest were read, the header being the physical line `header` before the others.
pub record Tasked (text : List ℕ) (header : ℕ) (others : List (List ℕ)) (p : Progress) (rest : List ℕ) : Type 0 where
  pub counted : Counted text p.place p.written rest
  pub tasks : Tasks (header + 1) (task_lines others) p.draft (p.place + 1) (task_lines (lines rest))
  pub room : p.place + length rest + 5 ≤ length text
  pub within : p.written ≤ p.place

pub tasked_start : (text : List ℕ) (n : ℕ) (line rest : List ℕ) (p : Progress) → LeadsTo 1 text n line rest → IsHeader task_header line → p.draft ≡ nothing → p.place ≡ n → p.written ≡ n →
    Tasked text n (lines rest) p rest
tasked_start text n line rest p l h d e w = record {
  counted = subst (λ m. Counted text m p.written rest) (sym e) (subst (λ m. Counted text n m rest) (sym w) (leads_counted l (header_no_proof line h) text 0 (omega arith) (counted_start text)));
  tasks = subst (λ m. Tasks (n + 1) (task_lines (lines rest)) p.draft (m + 1) (task_lines (lines rest))) (sym e)
      (subst (λ (x : Draft). Tasks (n + 1) (task_lines (lines rest)) x (n + 1) (task_lines (lines rest))) (sym d) (tasks_start (n + 1) (task_lines (lines rest))));
  room = omega (arith, leads_room l, header_long line h, e);
  within = omega (arith, e, w);
}

pub headed : (text : List ℕ) (n : ℕ) (line rest : List ℕ) → LeadsTo 1 text n line rest → IsHeader task_header line → IsHeaded task_header (lines text) n (lines rest)
headed text n line rest l h = record { line = line; first = leads_comes l; is = h }

pub tasked_more : (text : List ℕ) (header : ℕ) (others : List (List ℕ)) (p q : Progress) (rest line after : List ℕ) → Tasked text header others p rest → IsFirstLine rest line after → begins_proof line ≡ false →
    Advances p line q → ((e : Draft) → Declares p.draft line e → e ≡ q.draft) → Tasked text header others q after
tasked_more text header others p q rest line after t f b (e, inl (k, d, w)) only =
    let left : Tasks (header + 1) (task_lines others) p.draft (p.place + 1) (line ∷ task_lines (lines after)) = subst (λ ls. Tasks (header + 1) (task_lines others) p.draft (p.place + 1) ls) (next_task f b) t.tasks in
    record {
      counted = subst (λ m. Counted text m q.written after) (sym e) (subst (λ m. Counted text (p.place + 1) m after) (sym w) (counted_blank text p.place p.written rest line after t.counted f b k));
      tasks = subst (λ m. Tasks (header + 1) (task_lines others) q.draft (m + 1) (task_lines (lines after))) (sym e)
          (subst (λ (x : Draft). Tasks (header + 1) (task_lines others) x (p.place + 1 + 1) (task_lines (lines after))) (sym d)
          (tasks_blank (header + 1) (task_lines others) p.draft (p.place + 1) line (task_lines (lines after)) left k));
      room = omega (arith, t.room, line_shorter f, e);
      within = omega (arith, t.within, e, w);
    }
tasked_more text header others p q rest line after t f b (e, inr (k, d, w)) only =
    let left : Tasks (header + 1) (task_lines others) p.draft (p.place + 1) (line ∷ task_lines (lines after)) = subst (λ ls. Tasks (header + 1) (task_lines others) p.draft (p.place + 1) ls) (next_task f b) t.tasks in
    record {
      counted = subst (λ m. Counted text m q.written after) (sym e) (subst (λ m. Counted text (p.place + 1) m after) (sym w) (counted_other text p.place p.written rest line after t.counted f b k));
      tasks = subst (λ m. Tasks (header + 1) (task_lines others) q.draft (m + 1) (task_lines (lines after))) (sym e)
          (tasks_declares (header + 1) (task_lines others) p.draft q.draft (p.place + 1) line (task_lines (lines after)) left d only);
      room = omega (arith, t.room, line_shorter f, e);
      within = omega (arith, e, w);
    }

-- where a line is refused
pub refused_at : (text : List ℕ) (header : ℕ) (others : List (List ℕ)) (p : Progress) (rest line after : List ℕ) (fault : TaskFault) → IsHeaded task_header (lines text) header others → Tasked text header others p rest →
    IsFirstLine rest line after → begins_proof line ≡ false → (fault ≡ Memory) ⊎ ((IsBlankLine line → ⊥) × DeclarationFails p.draft line fault) → (fault ≡ Memory) ⊎ IsFirstTaskFault text (p.place + 1) fault
refused_at text header others p rest line after fault h t f b (inl m) = inl m
refused_at text header others p rest line after fault h t f b (inr k) =
    let left : Tasks (header + 1) (task_lines others) p.draft (p.place + 1) (line ∷ task_lines (lines after)) = subst (λ ls. Tasks (header + 1) (task_lines others) p.draft (p.place + 1) ls) (next_task f b) t.tasks in
    inr (no_declaration text header others (p.place + 1) fault h (left.fails (p.place + 1) fault (fails_here p.draft (p.place + 1) line (task_lines (lines after)) fault k.0 k.1)))

blank_memory : (draft : Draft) (line : List ℕ) (fault : TaskFault) → (fault ≡ Memory) ⊎ ((IsBlankLine line → ⊥) × DeclarationFails draft line fault) → IsBlankLine line → fault ≡ Memory
blank_memory draft line fault (inl m) b = m
blank_memory draft line fault (inr k) b = absurd (k.0 b)

declared_in : (text : List ℕ) (header : ℕ) (others : List (List ℕ)) (t : TaskText) → IsHeaded task_header (lines text) header others → (s : SpellsTask text t.task t.lines t.rest) → Declare nothing (task_lines others) s.draft
declared_in text header others t h s =
    let e : IsSameHeader s.place header s.others others = headed_once task_header (lines text) s.place header s.others others s.headed h in
    subst (λ ls. Declare nothing (task_lines ls) s.draft) e.rest_is s.declare

pub memory_at : (text : List ℕ) (header : ℕ) (others : List (List ℕ)) (p : Progress) (rest line after : List ℕ) (fault : TaskFault) → IsHeaded task_header (lines text) header others → Tasked text header others p rest →
    IsFirstLine rest line after → begins_proof line ≡ false → (fault ≡ Memory) ⊎ ((IsBlankLine line → ⊥) × DeclarationFails p.draft line fault) → ((e : Draft) → Declares p.draft line e → fault ≡ Memory) →
    (t : TaskText) → SpellsTask text t.task t.lines t.rest → fault ≡ Memory
memory_at text header others p rest line after fault h t f b k only x s =
    let left : Tasks (header + 1) (task_lines others) p.draft (p.place + 1) (line ∷ task_lines (lines after)) = subst (λ ls. Tasks (header + 1) (task_lines others) p.draft (p.place + 1) ls) (next_task f b) t.tasks in
    elim (first_of (left.back s.draft (declared_in text header others x h s))) [ inl j ↦ blank_memory p.draft line fault k j.0 | inr j ↦ only j.between j.one ]

-- Where the lines of the task are over: at a line that begins the proof, or at the end.
pub record IsOver (text : List ℕ) (header : ℕ) (others : List (List ℕ)) (p : Progress) (count rest : ℕ) : Type 0 where
  pub headed : IsHeaded task_header (lines text) header others
  pub tasks : Tasks (header + 1) (task_lines others) p.draft (p.place + 1) []
  pub counted : count ≡ count_of_lines (lines text)
  pub written : p.written ≡ count_written (task_lines (lines text))
  pub ends : EndsAt text rest

with_proof : (ls : List (List ℕ)) (l : List ℕ) (more : List (List ℕ)) → proof_lines ls ≡ l ∷ more → count_of_lines ls ≡ length (task_lines ls)
with_proof ls l more e = ap (λ ps. count_before ps (task_lines ls)) e

without_proof : (ls : List (List ℕ)) → proof_lines ls ≡ [] → count_of_lines ls ≡ count_written (task_lines ls)
without_proof ls e = ap (λ ps. count_before ps (task_lines ls)) e

written_all : (place written n m : ℕ) → m ≡ 0 → n ≡ (if m == 0 then written else place + m) → written ≡ n
written_all place written n m z e = grind (arith, nat_tests)

pub over_at_proof : (text : List ℕ) (header : ℕ) (others : List (List ℕ)) (p : Progress) (rest line after : List ℕ) → IsHeaded task_header (lines text) header others → Tasked text header others p rest →
    IsFirstLine rest line after → begins_proof line ≡ true → IsOver text header others p p.place (length text - length rest)
over_at_proof text header others p rest line after h t f b =
    let none : task_lines (lines rest) ≡ [] = ap task_lines (first_lines f) ∙ (rw b refl) in
    let some : proof_lines (lines text) ≡ line ∷ lines after = t.counted.behind ∙ ap proof_lines (first_lines f) ∙ (rw b refl) in
    record {
      headed = h;
      tasks = subst (λ ls. Tasks (header + 1) (task_lines others) p.draft (p.place + 1) ls) none t.tasks;
      counted = omega (arith, t.counted.total, ap length none) ∙ sym (with_proof (lines text) line (lines after) some);
      written = written_all p.place p.written (count_written (task_lines (lines text))) (count_written (task_lines (lines rest))) (ap count_written none) t.counted.marked;
      ends = subst (EndsAt text) (omega arith) (t.counted.ends 0 (at_proof rest line after f b));
    }

pub over_at_end : (text : List ℕ) (header : ℕ) (others : List (List ℕ)) (p : Progress) → IsHeaded task_header (lines text) header others → Tasked text header others p [] → IsOver text header others p p.written (length text)
over_at_end text header others p h t = record {
  headed = h;
  tasks = t.tasks;
  counted = written_all p.place p.written (count_written (task_lines (lines text))) 0 refl t.counted.marked ∙ sym (without_proof (lines text) t.counted.behind);
  written = written_all p.place p.written (count_written (task_lines (lines text))) 0 refl t.counted.marked;
  ends = subst (EndsAt text) (omega arith) (t.counted.ends 0 at_end);
}

same_task : (t u : Task) → t.premises ≡ u.premises → t.goal ≡ u.goal → t.allowed ≡ u.allowed → t ≡ u
same_task t u p g a =
    ap (λ (x : List Sent). let y : Task = record { premises = x; goal = t.goal; allowed = t.allowed } in y) p
    ∙ ap (λ (x : Sent). let y : Task = record { premises = u.premises; goal = x; allowed = t.allowed } in y) g
    ∙ ap (λ (x : Allowed). let y : Task = record { premises = u.premises; goal = u.goal; allowed = x } in y) a

pub finished_once : (draft : Draft) (t u : Task) → IsFinished draft t → IsFinished draft u → t ≡ u
finished_once draft t u h k =
    let e : Some t.goal ≡ Some u.goal = sym h.goal ∙ k.goal in
    same_task t u (h.premises ∙ sym k.premises) (cc) (h.allowed ∙ sym k.allowed)

pub same_text : (t u : TaskText) → t.task ≡ u.task → t.lines ≡ u.lines → t.rest ≡ u.rest → t ≡ u
same_text t u k l r =
    ap (λ (x : Task). let y : TaskText = record { task = x; lines = t.lines; rest = t.rest } in y) k
    ∙ ap (λ (x : ℕ). let y : TaskText = record { task = u.task; lines = x; rest = t.rest } in y) l
    ∙ ap (λ (x : ℕ). let y : TaskText = record { task = u.task; lines = u.lines; rest = x } in y) r

-- what the last step answers
pub record Finishes (p : Progress) (count rest : ℕ) (r : Result TaskText (ℕ × TaskFault)) : Type 0 where
  pub found : IfOk r (λ t. IsFinished p.draft t.task)
  pub lines : IfOk r (λ t. t.lines ≡ count)
  pub rest_is : IfOk r (λ t. t.rest ≡ rest)
  pub place : IfErr r (λ e. e.0 ≡ p.written + 1)
  pub no_goal : IfErr r (λ e. (e.1 ≡ NoGoal) × (p.draft.goal ≡ None))

pub over_read : (text : List ℕ) (header : ℕ) (others : List (List ℕ)) (p : Progress) (count rest : ℕ) (r : Result TaskText (ℕ × TaskFault)) → IsOver text header others p count rest → Finishes p count rest r →
    IfOk r (λ t. SpellsTask text t.task t.lines t.rest)
over_read text header others p count rest (Err e) o f = tt
over_read text header others p count rest (Ok t) o f = record {
  place = header;
  others = others;
  headed = o.headed;
  draft = p.draft;
  declare = o.tasks.on p.draft (no_more p.draft);
  finished = f.found;
  counted = f.lines ∙ o.counted;
  ends = subst (EndsAt text) (sym f.rest_is) o.ends;
}

over_draft : (text : List ℕ) (header : ℕ) (others : List (List ℕ)) (p : Progress) (count rest : ℕ) (t : TaskText) → IsOver text header others p count rest → (s : SpellsTask text t.task t.lines t.rest) → p.draft ≡ s.draft
over_draft text header others p count rest t o s = first_of (o.tasks.back s.draft (declared_in text header others t o.headed s))

pub over_exact : (text : List ℕ) (header : ℕ) (others : List (List ℕ)) (p : Progress) (count rest : ℕ) (r : Result TaskText (ℕ × TaskFault)) → IsOver text header others p count rest → Finishes p count rest r →
    (t : TaskText) → SpellsTask text t.task t.lines t.rest → (r ≡ Ok t) ⊎ IsErrAnd r (λ e. e.1 ≡ Memory)
over_exact text header others p count rest (Ok u) o f t s =
    let d : p.draft ≡ s.draft = over_draft text header others p count rest t o s in
    let k : IsFinished s.draft u.task = subst (λ (x : Draft). IsFinished x u.task) d f.found in
    let e : u ≡ t = same_text u t (finished_once s.draft u.task t.task k s.finished) (f.lines ∙ o.counted ∙ sym s.counted) (f.rest_is ∙ where_ends o.ends t.rest s.ends) in
    inl (ap (λ (x : TaskText). let y : Result TaskText (ℕ × TaskFault) = Ok x in y) e)
over_exact text header others p count rest (Err e) o f t s =
    let d : p.draft ≡ s.draft = over_draft text header others p count rest t o s in
    let g : Some t.task.goal ≡ None = sym s.finished.goal ∙ ap (λ (x : Draft). x.goal) (sym d) ∙ f.no_goal.1 in
    absurd (cc)

pub over_refused : (text : List ℕ) (header : ℕ) (others : List (List ℕ)) (p : Progress) (count rest : ℕ) (r : Result TaskText (ℕ × TaskFault)) → IsOver text header others p count rest → Finishes p count rest r →
    IfErr r (λ e. (e.1 ≡ Memory) ⊎ IsFirstTaskFault text e.0 e.1)
over_refused text header others p count rest (Ok t) o f = tt
over_refused text header others p count rest (Err e) o f =
    let k : IsFirstTaskFault text (count_written (task_lines (lines text)) + 1) NoGoal = no_goal text header others p.draft o.headed (o.tasks.on p.draft (no_more p.draft)) f.no_goal.1 in
    let n : e.0 ≡ count_written (task_lines (lines text)) + 1 = f.place ∙ ap (λ m. m + 1) o.written in
    inr (subst (λ m. IsFirstTaskFault text m e.1) (sym n) (subst (λ (x : TaskFault). IsFirstTaskFault text (count_written (task_lines (lines text)) + 1) x) (sym f.no_goal.0) k))
