-- A text is one table at most, has one first fault at most, and not both.
use Rattle.std.proofs.Common.{◌≡◌, ℕ, Bool, true, false, List, [], ◌∷◌, ◌++◌, map, refl, sym, ap, ap₂, subst, ◌∙◌, arith, inl, inr}
use Rattle.texts.specs.Blanks.{trimmed}
use Rattle.fol_core.specs.declared.sent.Sent.{Sent}
use Rattle.fitch_file.specs.Words.{first_word, behind_word}
use Rattle.std.specs.Str.Parse.{digits_value}
use Rattle.boole_table.specs.declared.fault.TableTextFault.{TableTextFault}
use Rattle.boole_table.specs.declared.table.Table.{Table}
use Rattle.boole_table.specs.declared.table.TableRow.{TableRow}
use Rattle.boole_table.specs.declared.table.TableAnswer.{TableAnswer}
use Rattle.boole_table.specs.declared.table.TableText.{TableText}
use Rattle.boole_table.specs.WrittenLines.{Numbered, written}
use Rattle.boole_table.specs.Asked.{Asked}
use Rattle.boole_table.specs.ListLines.{letters_word, sentences_word, AreLetters, AreSentences, ListsLetters, ListsSentences}
use Rattle.boole_table.specs.RowLines.{value_byte, row_bytes, without_blanks, IsRow}
use Rattle.std.proofs.Common.{eqb}
use Rattle.std.specs.Prelude.{◌&&◌}
use Rattle.std.proofs.lemmas.Bool.Decides.{nat_tests}
use Rattle.boole_table.specs.AnswerLines.{answer_word, yes_word, begins_answer, IsAnswer}
use Rattle.boole_table.specs.TableLines.{Form, form_of, AddsRow, AddsAnswer, SpellBody, SpellsTable}
use Rattle.boole_table.specs.TableFaults.{BodyFails, SentencesFail, LettersFail, HeaderFails, IsFirstTableFault}
use Rattle.boole_table.proofs.Listing.{behind_once, sentences_once, letters_once}
use Rattle.boole_table.proofs.Rowing.{bytes_once}

-- one line

row_once : (n m : ℕ) (line : List ℕ) (r s : TableRow) → IsRow n m line r → IsRow n m line s → r ≡ s
row_once n m line r s h k = bytes_once r s (sym h.bytes ∙ k.bytes)

yes_once : (a b : Bool) → yes_word a ≡ yes_word b → a ≡ b
yes_once true true e = refl
yes_once true false e = absurd (cc)
yes_once false true e = absurd (cc)
yes_once false false e = refl

answer_once : (asked : Asked) (line : List ℕ) (a b : TableAnswer) → IsAnswer asked line a → IsAnswer asked line b → a ≡ b
answer_once asked line a b h k =
    let t : h.text ≡ k.text = behind_once answer_word line h.text k.text h.behind k.behind in
    let q : a.question ≡ b.question = h.number.is ∙ ap (λ x. digits_value 10 (first_word x)) t ∙ sym k.number.is in
    let y : a.yes ≡ b.yes = yes_once a.yes b.yes (sym h.said ∙ ap (λ x. trimmed (behind_word x)) t ∙ k.said) in
    ap₂ (λ (n : ℕ) (c : Bool). let x : TableAnswer = record { question = n; yes = c } in x) q y

-- A line that begins with the keyword of an answer is no row.
begins_row : (row : TableRow) (bs : List ℕ) → row_bytes row ≡ 97 ∷ bs → ⊥
begins_row row bs e = first row.letters e
  where
    first : (ls : List Bool) → map value_byte ls ++ 124 ∷ map value_byte row.sentences ≡ 97 ∷ bs → ⊥
    first [] f = let k : ◌≡◌ {A = ℕ} 124 97 = cc in absurd (omega (arith, k))
    first (true ∷ ls) f = let k : ◌≡◌ {A = ℕ} 84 97 = cc in absurd (omega (arith, k))
    first (false ∷ ls) f = let k : ◌≡◌ {A = ℕ} 70 97 = cc in absurd (omega (arith, k))

pub word_no_row : (n m : ℕ) (line tail : List ℕ) (row : TableRow) → line ≡ answer_word ++ tail → IsRow n m line row → ⊥
word_no_row n m line tail row e h = begins_row row (without_blanks (110 ∷ 115 ∷ 119 ∷ 101 ∷ 114 ∷ tail)) (sym h.bytes ∙ ap without_blanks e)

pub first_no_row : (n m : ℕ) (line bs : List ℕ) (row : TableRow) → line ≡ 97 ∷ bs → IsRow n m line row → ⊥
first_no_row n m line bs row e h = begins_row row (without_blanks bs) (sym h.bytes ∙ ap without_blanks e)

row_no_answer : (form : Form) (answered line : List ℕ) (row : TableRow) (answer : TableAnswer) → AddsRow form answered line row → AddsAnswer form answered line answer → ⊥
row_no_answer form answered line row answer h k = word_no_row form.letters form.sentences line k.is.behind.tail row k.is.behind.begins h.is

-- the rows and the answers

body_once : (form : Form) (answered : List ℕ) (ls : List Numbered) (rows rows' : List TableRow) (answers answers' : List TableAnswer) →
    SpellBody form answered ls rows answers → SpellBody form answered ls rows' answers' → (rows ≡ rows') × (answers ≡ answers')
body_once form answered [] rows rows' answers answers' h k = (h.0 ∙ sym k.0, h.1 ∙ sym k.1)
body_once form answered (l ∷ ls) rows rows' answers answers' (inl h) (inl k) =
    let e : h.0 ≡ k.0 = row_once form.letters form.sentences l.line h.0 k.0 h.1.1.is k.1.1.is in
    let m : (h.1.0 ≡ k.1.0) × (answers ≡ answers') = body_once form [] ls h.1.0 k.1.0 answers answers' h.1.3 k.1.3 in
    (h.1.2 ∙ ap₂ ◌∷◌ e m.0 ∙ sym k.1.2, m.1)
body_once form answered (l ∷ ls) rows rows' answers answers' (inl h) (inr k) = absurd (row_no_answer form answered l.line h.0 k.0 h.1.1 k.1.1)
body_once form answered (l ∷ ls) rows rows' answers answers' (inr h) (inl k) = absurd (row_no_answer form answered l.line k.0 h.0 k.1.1 h.1.1)
body_once form answered (l ∷ ls) rows rows' answers answers' (inr h) (inr k) =
    let e : k.0 ≡ h.0 = answer_once form.asked l.line k.0 h.0 k.1.1.is h.1.1.is in
    let s : SpellBody form (answered ++ h.0.question ∷ []) ls rows' k.1.0 = subst (λ (a : TableAnswer). SpellBody form (answered ++ a.question ∷ []) ls rows' k.1.0) e k.1.3 in
    let m : (rows ≡ rows') × (h.1.0 ≡ k.1.0) = body_once form (answered ++ h.0.question ∷ []) ls rows rows' h.1.0 k.1.0 h.1.3 s in
    (m.0, h.1.2 ∙ ap₂ ◌∷◌ (sym e) m.1 ∙ sym k.1.2)

body_not_failing : (form : Form) (answered : List ℕ) (ls : List Numbered) (rows : List TableRow) (answers : List TableAnswer) (n : ℕ) (f : TableTextFault) →
    SpellBody form answered ls rows answers → BodyFails form answered ls n f → ⊥
body_not_failing form answered [] rows answers n f h k = k
body_not_failing form answered (l ∷ ls) rows answers n f (inl h) (inl k) = k.2.no_row h.0 h.1.1
body_not_failing form answered (l ∷ ls) rows answers n f (inl h) (inr (inl k)) = body_not_failing form [] ls h.1.0 answers n f h.1.3 k.1.1
body_not_failing form answered (l ∷ ls) rows answers n f (inl h) (inr (inr k)) = row_no_answer form answered l.line h.0 k.0 h.1.1 k.1.0
body_not_failing form answered (l ∷ ls) rows answers n f (inr h) (inl k) = k.2.no_answer h.0 h.1.1
body_not_failing form answered (l ∷ ls) rows answers n f (inr h) (inr (inl k)) = row_no_answer form answered l.line k.0 h.0 k.1.0 h.1.1
body_not_failing form answered (l ∷ ls) rows answers n f (inr h) (inr (inr k)) =
    let e : k.0 ≡ h.0 = answer_once form.asked l.line k.0 h.0 k.1.0.is h.1.1.is in
    body_not_failing form (answered ++ h.0.question ∷ []) ls rows h.1.0 n f h.1.3 (subst (λ (a : TableAnswer). BodyFails form (answered ++ a.question ∷ []) ls n f) e k.1.1)

pub record IsSameFault (n m : ℕ) (f g : TableTextFault) : Type 0 where
  pub number : n ≡ m
  pub is : f ≡ g

body_fails_once : (form : Form) (answered : List ℕ) (ls : List Numbered) (n m : ℕ) (f g : TableTextFault) → BodyFails form answered ls n f → BodyFails form answered ls m g → IsSameFault n m f g
body_fails_once form answered [] n m f g h k = absurd h
body_fails_once form answered (l ∷ ls) n m f g (inl h) (inl k) = record { number = h.0 ∙ sym k.0; is = h.1 ∙ sym k.1 }
body_fails_once form answered (l ∷ ls) n m f g (inl h) (inr (inl k)) = absurd (h.2.no_row k.0 k.1.0)
body_fails_once form answered (l ∷ ls) n m f g (inl h) (inr (inr k)) = absurd (h.2.no_answer k.0 k.1.0)
body_fails_once form answered (l ∷ ls) n m f g (inr (inl h)) (inl k) = absurd (k.2.no_row h.0 h.1.0)
body_fails_once form answered (l ∷ ls) n m f g (inr (inl h)) (inr (inl k)) = body_fails_once form [] ls n m f g h.1.1 k.1.1
body_fails_once form answered (l ∷ ls) n m f g (inr (inl h)) (inr (inr k)) = absurd (row_no_answer form answered l.line h.0 k.0 h.1.0 k.1.0)
body_fails_once form answered (l ∷ ls) n m f g (inr (inr h)) (inl k) = absurd (k.2.no_answer h.0 h.1.0)
body_fails_once form answered (l ∷ ls) n m f g (inr (inr h)) (inr (inl k)) = absurd (row_no_answer form answered l.line k.0 h.0 k.1.0 h.1.0)
body_fails_once form answered (l ∷ ls) n m f g (inr (inr h)) (inr (inr k)) =
    let e : k.0 ≡ h.0 = answer_once form.asked l.line k.0 h.0 k.1.0.is h.1.0.is in
    body_fails_once form (answered ++ h.0.question ∷ []) ls n m f g h.1.1 (subst (λ (a : TableAnswer). BodyFails form (answered ++ a.question ∷ []) ls m g) e k.1.1)

-- the letters and the sentences

letters_line_once : (asked : Asked) (line : List ℕ) (ls ms : List Sent) → ListsLetters asked line ls → ListsLetters asked line ms → ls ≡ ms
letters_line_once asked line ls ms h k =
    let t : k.text ≡ h.text = behind_once letters_word line k.text h.text k.behind h.behind in
    letters_once h.text ls ms h.are (subst (λ x. AreLetters x ms) t k.are)

sentences_line_once : (asked : Asked) (line : List ℕ) (ss ts : List Sent) → ListsSentences asked line ss → ListsSentences asked line ts → ss ≡ ts
sentences_line_once asked line ss ts h k =
    let t : k.text ≡ h.text = behind_once sentences_word line k.text h.text k.behind h.behind in
    sentences_once h.text ss ts h.are (subst (λ x. AreSentences x ts) t k.are)

-- the whole text

same_text : (t u : TableText) → t.table.letters ≡ u.table.letters → t.table.sentences ≡ u.table.sentences → t.table.rows ≡ u.table.rows → t.answers ≡ u.answers → t ≡ u
same_text t u e f g h =
    ap₂ (λ (x : Table) (a : List TableAnswer). let w : TableText = record { table = x; answers = a } in w)
    (λ i. record { letters = e i; sentences = f i; rows = g i }) h

pub table_once : (asked : Asked) (text : List ℕ) (t u : TableText) → SpellsTable asked text t → SpellsTable asked text u → t ≡ u
table_once asked text t u h k =
    let w : h.header ∷ h.letters_line ∷ h.sentences_line ∷ h.body ≡ k.header ∷ k.letters_line ∷ k.sentences_line ∷ k.body = sym h.are ∙ k.are in
    let a : k.letters_line ≡ h.letters_line = cc in
    let b : k.sentences_line ≡ h.sentences_line = cc in
    let d : k.body ≡ h.body = cc in
    let e : t.table.letters ≡ u.table.letters = letters_line_once asked h.letters_line.line t.table.letters u.table.letters h.letters (subst (λ (l : Numbered). ListsLetters asked l.line u.table.letters) a k.letters) in
    let f : t.table.sentences ≡ u.table.sentences = sentences_line_once asked h.sentences_line.line t.table.sentences u.table.sentences h.sentences (subst (λ (l : Numbered). ListsSentences asked l.line u.table.sentences) b k.sentences) in
    let s : SpellBody (form_of asked u.table.letters u.table.sentences) [] h.body u.table.rows u.answers = subst (λ ls. SpellBody (form_of asked u.table.letters u.table.sentences) [] ls u.table.rows u.answers) d k.others in
    let r : SpellBody (form_of asked t.table.letters t.table.sentences) [] h.body u.table.rows u.answers =
    subst (λ (x : List Sent). SpellBody (form_of asked x t.table.sentences) [] h.body u.table.rows u.answers) (sym e)
    (subst (λ (x : List Sent). SpellBody (form_of asked u.table.letters x) [] h.body u.table.rows u.answers) (sym f) s) in
    let m : (t.table.rows ≡ u.table.rows) × (t.answers ≡ u.answers) = body_once (form_of asked t.table.letters t.table.sentences) [] h.body t.table.rows u.table.rows t.answers u.answers h.others r in
    same_text t u e f m.0 m.1

sentences_not_failing : (asked : Asked) (t : TableText) (before : ℕ) (l : Numbered) (body : List Numbered) (n : ℕ) (f : TableTextFault) → ListsSentences asked l.line t.table.sentences →
    SpellBody (form_of asked t.table.letters t.table.sentences) [] body t.table.rows t.answers → SentencesFail asked t.table.letters before (l ∷ body) n f → ⊥
sentences_not_failing asked t before l body n f h s (inl k) = k.2 t.table.sentences h
sentences_not_failing asked t before l body n f h s (inr k) =
    let e : k.0 ≡ t.table.sentences = sentences_line_once asked l.line k.0 t.table.sentences k.1.0 h in
    body_not_failing (form_of asked t.table.letters t.table.sentences) [] body t.table.rows t.answers n f s
    (subst (λ (x : List Sent). BodyFails (form_of asked t.table.letters x) [] body n f) e k.1.1)

letters_not_failing : (asked : Asked) (t : TableText) (before : ℕ) (l m : Numbered) (body : List Numbered) (n : ℕ) (f : TableTextFault) → ListsLetters asked l.line t.table.letters → ListsSentences asked m.line t.table.sentences →
    SpellBody (form_of asked t.table.letters t.table.sentences) [] body t.table.rows t.answers → LettersFail asked before (l ∷ m ∷ body) n f → ⊥
letters_not_failing asked t before l m body n f h i s (inl k) = k.2 t.table.letters h
letters_not_failing asked t before l m body n f h i s (inr k) =
    let e : k.0 ≡ t.table.letters = letters_line_once asked l.line k.0 t.table.letters k.1.0 h in
    sentences_not_failing asked t l.place m body n f i s (subst (λ (x : List Sent). SentencesFail asked x l.place (m ∷ body) n f) e k.1.1)

pub table_not_failing : (asked : Asked) (text : List ℕ) (t : TableText) (n : ℕ) (f : TableTextFault) → SpellsTable asked text t → IsFirstTableFault asked text n f → ⊥
table_not_failing asked text t n f h k =
    elim (subst (λ ls. HeaderFails asked ls n f) h.are k) [
      | inl x ↦ x.2 h.headed
      | inr x ↦ letters_not_failing asked t h.header.place h.letters_line h.sentences_line h.body n f h.letters h.sentences h.others x.1
    ]

sentences_fail_once : (asked : Asked) (letters : List Sent) (before : ℕ) (ls : List Numbered) (n m : ℕ) (f g : TableTextFault) → SentencesFail asked letters before ls n f → SentencesFail asked letters before ls m g → IsSameFault n m f g
sentences_fail_once asked letters before [] n m f g h k = record { number = h.0 ∙ sym k.0; is = h.1 ∙ sym k.1 }
sentences_fail_once asked letters before (l ∷ ls) n m f g (inl h) (inl k) = record { number = h.0 ∙ sym k.0; is = h.1 ∙ sym k.1 }
sentences_fail_once asked letters before (l ∷ ls) n m f g (inl h) (inr k) = absurd (h.2 k.0 k.1.0)
sentences_fail_once asked letters before (l ∷ ls) n m f g (inr h) (inl k) = absurd (k.2 h.0 h.1.0)
sentences_fail_once asked letters before (l ∷ ls) n m f g (inr h) (inr k) =
    let e : k.0 ≡ h.0 = sentences_line_once asked l.line k.0 h.0 k.1.0 h.1.0 in
    body_fails_once (form_of asked letters h.0) [] ls n m f g h.1.1 (subst (λ (x : List Sent). BodyFails (form_of asked letters x) [] ls m g) e k.1.1)

letters_fail_once : (asked : Asked) (before : ℕ) (ls : List Numbered) (n m : ℕ) (f g : TableTextFault) → LettersFail asked before ls n f → LettersFail asked before ls m g → IsSameFault n m f g
letters_fail_once asked before [] n m f g h k = record { number = h.0 ∙ sym k.0; is = h.1 ∙ sym k.1 }
letters_fail_once asked before (l ∷ ls) n m f g (inl h) (inl k) = record { number = h.0 ∙ sym k.0; is = h.1 ∙ sym k.1 }
letters_fail_once asked before (l ∷ ls) n m f g (inl h) (inr k) = absurd (h.2 k.0 k.1.0)
letters_fail_once asked before (l ∷ ls) n m f g (inr h) (inl k) = absurd (k.2 h.0 h.1.0)
letters_fail_once asked before (l ∷ ls) n m f g (inr h) (inr k) =
    let e : k.0 ≡ h.0 = letters_line_once asked l.line k.0 h.0 k.1.0 h.1.0 in
    sentences_fail_once asked h.0 l.place ls n m f g h.1.1 (subst (λ (x : List Sent). SentencesFail asked x l.place ls m g) e k.1.1)

header_fails_once : (asked : Asked) (ls : List Numbered) (n m : ℕ) (f g : TableTextFault) → HeaderFails asked ls n f → HeaderFails asked ls m g → IsSameFault n m f g
header_fails_once asked [] n m f g h k = record { number = h.0 ∙ sym k.0; is = h.1 ∙ sym k.1 }
header_fails_once asked (l ∷ ls) n m f g (inl h) (inl k) = record { number = h.0 ∙ sym k.0; is = h.1 ∙ sym k.1 }
header_fails_once asked (l ∷ ls) n m f g (inl h) (inr k) = absurd (h.2 k.0)
header_fails_once asked (l ∷ ls) n m f g (inr h) (inl k) = absurd (k.2 h.0)
header_fails_once asked (l ∷ ls) n m f g (inr h) (inr k) = letters_fail_once asked l.place ls n m f g h.1 k.1

pub fault_once : (asked : Asked) (text : List ℕ) (n m : ℕ) (f g : TableTextFault) → IsFirstTableFault asked text n f → IsFirstTableFault asked text m g → IsSameFault n m f g
fault_once asked text n m f g h k = header_fails_once asked (written text) n m f g h k

same_byte : (b : ℕ) → eqb 97 b ≡ true → b ≡ 97
same_byte b e = grind (arith, nat_tests)

and_left : (x y : Bool) → (x && y) ≡ true → x ≡ true
and_left true y h = refl
and_left false y h = h

pub begins_first : (line : List ℕ) → begins_answer line ≡ true → (bs : List ℕ) × (line ≡ 97 ∷ bs)
begins_first [] h = absurd (cc)
begins_first (b ∷ bs) h = (bs, ap (λ x. x ∷ bs) (same_byte b (and_left (eqb 97 b) _ h)))
