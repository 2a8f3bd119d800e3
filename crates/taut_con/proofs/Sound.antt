-- A statement as goal to which the answer is Yes is derivable from the premises, one case for each row.
use Rattle.std.proofs.Common.{◌≡◌, ℕ, ◌+◌, List, [], ◌∷◌, ◌++◌, length, refl, ap, sym, ◌∙◌, subst, Bool, true, false, true≢false, IsTrue, Contains, arith}
use Rattle.std.specs.Prelude.{not, ◌&&◌, cond, filter, nat_lt, Result, Ok, IfOk}
use Rattle.std.specs.List.{flat_map, list_all}
use Rattle.fol_core.specs.declared.sent.Sent.{Sent}
use Rattle.fol_core.specs.Statements.{statement, AreStatements}
use Rattle.fol_core.proofs.Stating.{stated_not}
use Rattle.deriv_laws.specs.Derivable.{Der}
use Rattle.deriv_laws.proofs.Members.{contains_here, contains_there, contains_cases, contains_left, contains_right, all_given, all_each}
use Rattle.deriv_laws.proofs.Laws.{assume}
use Rattle.deriv_laws.proofs.Connectives.{bot_intro, bot_elim}
use Rattle.taut_con.specs.declared.answer.TautAnswer.{TautAnswer}
use Rattle.taut_con.specs.declared.answer.TautAnswer.TheVariants as a
use Rattle.taut_con.specs.Letters.{letter_occurrences, letters}
use Rattle.taut_con.specs.Rows.{rows}
use Rattle.taut_con.specs.Values.{valuation, value}
use Rattle.taut_con.specs.Answer.{refutes, is_countermodel, answer_by}
use Rattle.taut_con.specs.Laws.{YesIsDerivable}
use Rattle.taut_con.proofs.Deciding.{signed, decided}
use Rattle.taut_con.proofs.Cases.{literals, by_rows, literal_there, in_distinct, distinct_stated, both_stated, all_letters_stated, letters_stated, letter_among}
use Rattle.taut_con.proofs.Encoding.{row_of, is_row, row_among}

-- no row is left where none is a countermodel

abbrev says_yes : TautAnswer → Type 0
says_yes t = elim t [ a.Yes ↦ Unit {0} | _ ↦ ⊥ ]

first_is_no : (r : ℕ) → a.No r ≡ a.Yes → ⊥
first_is_no r e = subst says_yes (sym e) tt

none_left : (rs : List ℕ) → answer_by rs ≡ a.Yes → rs ≡ []
none_left [] e = refl
none_left (r ∷ rs) e = absurd (first_is_no r e)

few_enough : (b : Bool) (n : ℕ) (t : TautAnswer) → cond b (a.TooManyLetters n) t ≡ a.Yes → t ≡ a.Yes
few_enough true n t e = absurd (subst says_yes (sym e) tt)
few_enough false n t e = e

one_passes : (f : ℕ → Bool) (x r : ℕ) (rs : List ℕ) (b : Bool) → f x ≡ b → cond b (x ∷ filter f rs) (filter f rs) ≡ [] → Contains (x ∷ rs) r → (filter f rs ≡ [] → Contains rs r → f r ≡ false) → f r ≡ false
one_passes f x r rs true h k i later = absurd (omega (arith, ap length k))
one_passes f x r rs false h k i later = contains_cases (f r ≡ false) x r rs (λ u. ap f (sym u) ∙ h) (λ j. later k j) i

none_passes : (f : ℕ → Bool) (rs : List ℕ) (r : ℕ) → filter f rs ≡ [] → Contains rs r → f r ≡ false
none_passes f [] r e (k, l, i) = absurd (omega (arith, l))
none_passes f (x ∷ rs) r e i = one_passes f x r rs (f x) refl e i (λ k j. none_passes f rs r k j)

-- the truth of the goal, or the falsity of a premise, under one valuation

abbrev FalseOne : (Sent → Bool) → List Sent → Type 0
FalseOne f ps = (p : Sent) × Contains ps p × (f p ≡ false)

one_false : (f : Sent → Bool) (p : Sent) (ps : List Sent) (b : Bool) → f p ≡ b → (b && list_all f ps) ≡ false → (list_all f ps ≡ false → FalseOne f ps) → FalseOne f (p ∷ ps)
one_false f p ps true h k later = let w = later k in (w.0, contains_there p w.0 ps w.1, w.2)
one_false f p ps false h k later = (p, contains_here p ps, h)

false_premise : (f : Sent → Bool) (ps : List Sent) → list_all f ps ≡ false → FalseOne f ps
false_premise f [] e = absurd (true≢false e)
false_premise f (p ∷ ps) e = one_false f p ps (f p) refl e (λ k. false_premise f ps k)

not_refuted : (gs ps : List Sent) (g : Sent) (v : Sent → Bool) (c d : Bool) → list_all (value v) ps ≡ c → value v g ≡ d → (c && not d) ≡ false →
    ((p : Sent) → Contains ps p → Der gs p) → ((p : Sent) → Contains ps p → Der gs (signed (value v p) p)) → Der gs (signed (value v g) g) → IsTrue (statement g) → Der gs g
not_refuted gs ps g v c true h k e given each goal w = subst (λ b. Der gs (signed b g)) k goal
not_refuted gs ps g v true false h k e given each goal w = absurd (true≢false e)
not_refuted gs ps g v false false h k e given each goal w =
    let p = false_premise (value v) ps h in
    bot_elim gs g (bot_intro gs p.0 (given p.0 p.1) (subst (λ b. Der gs (signed b p.0)) p.2 (each p.0 p.1))) w

-- one row

abbrev all_of : List Sent → Sent → List Sent
all_of ps g = ps ++ g ∷ []

in_one_row : (ps : List Sent) (g : Sent) → AreStatements ps → IsTrue (statement g) → (bs : List Bool) → length bs ≡ length (letters (all_of ps g)) →
    refutes (valuation (letters (all_of ps g)) bs) ps g ≡ false → Der (literals (letters (all_of ps g)) bs ++ ps) g
in_one_row ps g c k bs e none =
    let ss : List Sent = all_of ps g in
    let ls : List Sent = letters ss in
    let v : Sent → Bool = valuation ls bs in
    let gs : List Sent = literals ls bs ++ ps in
    let lettered : (s l : Sent) → Contains ss s → Contains (letter_occurrences s) l → Contains ls l = λ s l i j. in_distinct (flat_map letter_occurrences ss) l (letter_among ss s l i j) in
    let literal : (s l : Sent) → Contains ss s → IsTrue (statement s) → Contains (letter_occurrences s) l → Der gs (signed (v l) l) =
    λ s l i w j. assume gs (signed (v l) l) (contains_left (literals ls bs) ps (signed (v l) l) (literal_there ls bs l e (lettered s l i j)))
    (signed_stated (v l) l (all_each (λ x. IsTrue (statement x)) (letter_occurrences s) l (letters_stated s w) j)) in
    let settled : (s : Sent) → Contains ss s → IsTrue (statement s) → Der gs (signed (value v s) s) =
    λ s i w. decided gs v s w (all_given (λ l. Der gs (signed (v l) l)) (letter_occurrences s) (λ l j. literal s l i w j)) in
    not_refuted gs ps g v (list_all (value v) ps) (value v g) refl refl none
    (λ p i. assume gs p (contains_right (literals ls bs) ps p i) (all_each (λ x. IsTrue (statement x)) ps p c i))
    (λ p i. settled p (contains_left ps (g ∷ []) p i) (all_each (λ x. IsTrue (statement x)) ps p c i))
    (settled g (contains_right ps (g ∷ []) g (contains_here g [])) k)
    k
  where
    signed_stated : (b : Bool) (l : Sent) → IsTrue (statement l) → IsTrue (statement (signed b l))
    signed_stated true l w = w
    signed_stated false l w = stated_not l [] ∙ w

-- all rows

pub yes_derivable : YesIsDerivable
yes_derivable ps g c k says =
    let ss : List Sent = all_of ps g in
    let ls : List Sent = letters ss in
    let n : ℕ = length ls in
    let none : filter (is_countermodel ls ps g) (rows n) ≡ [] = none_left (filter (is_countermodel ls ps g) (rows n)) (few_enough (nat_lt 16 n) n (answer_by (filter (is_countermodel ls ps g) (rows n))) says) in
    by_rows ps g k ls (distinct_stated (flat_map letter_occurrences ss) (all_letters_stated ss (both_stated ps (g ∷ []) c (k, tt))))
    (λ bs e. in_one_row ps g c k bs e
    (subst (λ xs. refutes (valuation ls xs) ps g ≡ false) (is_row n bs e) (none_passes (is_countermodel ls ps g) (rows n) (row_of bs + 1) none (row_among n bs e))))

-- The answer that is given is Yes.
pub told : {E : Type 0} (r : Result TautAnswer E) (t : TautAnswer) → r ≡ Ok a.Yes → IfOk r (λ x. x ≡ t) → t ≡ a.Yes
told {E} r t e h = let k : IfOk {T = TautAnswer} {E = E} (Ok a.Yes) (λ x. x ≡ t) = subst (λ q. IfOk q (λ x. x ≡ t)) e h in sym k
