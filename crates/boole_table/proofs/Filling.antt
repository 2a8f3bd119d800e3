-- Reading the rows and the answers line by line.
use Rattle.std.proofs.Common.{◌≡◌, ℕ, ◌+◌, ◌≤◌, List, [], ◌∷◌, ◌++◌, length, refl, sym, ap, subst, ◌∙◌, append_assoc, arith, length-append, inl, inr}
use Rattle.std.specs.Prelude.{◌⊎◌}
use Rattle.std.proofs.lemmas.List.{map-append, append-nil}
use Rattle.boole_table.specs.declared.fault.TableTextFault.{TableTextFault}
use Rattle.boole_table.specs.declared.table.TableRow.{TableRow}
use Rattle.boole_table.specs.declared.table.TableAnswer.{TableAnswer}
use Rattle.boole_table.specs.declared.body.Body.{Body}
use Rattle.boole_table.specs.WrittenLines.{Numbered}
use Rattle.boole_table.specs.TableLines.{Form, SpellBody}
use Rattle.boole_table.specs.TableFaults.{line_fault, AddsNothing, BodyFails}
use Rattle.boole_table.specs.Readers.{questions_of, Adds}

-- What was read of the lines, and what is left of them.
pub record Filled (form : Form) (whole left : List Numbered) (body : Body) : Type 0 where
  pub spells : (rows : List TableRow) (answers : List TableAnswer) → SpellBody form (questions_of body.answers) left rows answers → SpellBody form [] whole (body.rows ++ rows) (body.answers ++ answers)
  pub fails : (n : ℕ) (fault : TableTextFault) → BodyFails form (questions_of body.answers) left n fault → BodyFails form [] whole n fault

pub filled_start : (form : Form) (whole : List Numbered) → Filled form whole whole (record { rows = []; answers = [] })
filled_start form whole = record { spells = λ rows answers h. h; fails = λ n fault h. h }

grown : {X : Type 0} (xs ys zs : List X) (x : X) → ys ≡ xs ++ x ∷ [] → xs ++ x ∷ zs ≡ ys ++ zs
grown xs ys zs x e = sym (append_assoc xs (x ∷ []) zs) ∙ ap (λ us. us ++ zs) (sym e)

asked_more : (answers more : List TableAnswer) (a : TableAnswer) → more ≡ answers ++ a ∷ [] → questions_of more ≡ questions_of answers ++ a.question ∷ []
asked_more answers more a e = ap questions_of e ∙ map-append (λ (x : TableAnswer). x.question) answers (a ∷ [])

pub filled_more : (form : Form) (whole left : List Numbered) (l : Numbered) (body after : Body) → Filled form whole (l ∷ left) body → Adds form body l.line after → Filled form whole left after
filled_more form whole left l body after h (inl a) =
    let row : TableRow = a.0 in
    let e : questions_of after.answers ≡ [] = ap questions_of a.1.2 ∙ a.1.0.none in
    record {
      spells = λ rows answers k.
          let s : SpellBody form [] whole (body.rows ++ row ∷ rows) (body.answers ++ answers) =
          h.spells (row ∷ rows) answers (inl (row, (rows, a.1.0, refl, subst (λ q. SpellBody form q left rows answers) e k))) in
          subst (λ xs. SpellBody form [] whole xs (after.answers ++ answers)) (grown body.rows after.rows rows row a.1.1)
          (subst (λ ys. SpellBody form [] whole (body.rows ++ row ∷ rows) (ys ++ answers)) (sym a.1.2) s);
      fails = λ n fault k. h.fails n fault (inr (inl (row, (a.1.0, subst (λ q. BodyFails form q left n fault) e k))));
    }
filled_more form whole left l body after h (inr a) =
    let answer : TableAnswer = a.0 in
    let e : questions_of after.answers ≡ questions_of body.answers ++ answer.question ∷ [] = asked_more body.answers after.answers answer a.1.2 in
    record {
      spells = λ rows answers k.
          let s : SpellBody form [] whole (body.rows ++ rows) (body.answers ++ answer ∷ answers) =
          h.spells rows (answer ∷ answers) (inr (answer, (answers, a.1.0, refl, subst (λ q. SpellBody form q left rows answers) e k))) in
          subst (λ xs. SpellBody form [] whole (xs ++ rows) (after.answers ++ answers)) (sym a.1.1)
          (subst (λ ys. SpellBody form [] whole (body.rows ++ rows) ys) (grown body.answers after.answers answers answer a.1.2) s);
      fails = λ n fault k. h.fails n fault (inr (inr (answer, (a.1.0, subst (λ q. BodyFails form q left n fault) e k))));
    }

pub filled_all : (form : Form) (whole left : List Numbered) (body : Body) → Filled form whole left body → left ≡ [] → SpellBody form [] whole body.rows body.answers
filled_all form whole left body h e =
    let s : SpellBody form (questions_of body.answers) left [] [] = subst (λ ls. SpellBody form (questions_of body.answers) ls [] []) (sym e) (refl, refl) in
    subst (λ xs. SpellBody form [] whole xs body.answers) (append-nil body.rows)
    (subst (λ ys. SpellBody form [] whole (body.rows ++ []) ys) (append-nil body.answers) (h.spells [] [] s))

pub filled_fails : (form : Form) (whole left more : List Numbered) (l : Numbered) (body : Body) (fault memory : TableTextFault) → Filled form whole left body → left ≡ l ∷ more →
    (fault ≡ memory) ⊎ ((fault ≡ line_fault l.line) × AddsNothing form (questions_of body.answers) l.line) → (fault ≡ memory) ⊎ BodyFails form [] whole l.place fault
filled_fails form whole left more l body fault memory h e (inl m) = inl m
filled_fails form whole left more l body fault memory h e (inr a) =
    inr (h.fails l.place fault (subst (λ ls. BodyFails form (questions_of body.answers) ls l.place fault) (sym e) (inl (refl, a.0, a.1))))

-- One line adds one row at most.
pub rows_grow : (form : Form) (before : Body) (line : List ℕ) (after : Body) → Adds form before line after → length after.rows ≤ length before.rows + 1
rows_grow form before line after (inl a) = omega (arith, ap length a.1.1, length-append before.rows (a.0 ∷ []))
rows_grow form before line after (inr a) = omega (arith, ap length a.1.1)
