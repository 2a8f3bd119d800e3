-- The header, the letters, the sentences and what follows them, one behind the other.
use Rattle.std.proofs.Common.{◌≡◌, ℕ, ◌+◌, List, [], ◌∷◌, refl, sym, ap, subst, ◌∙◌, Result, Ok, Err, inl, inr, IfOk, IfErr}
use Rattle.std.specs.Prelude.{◌⊎◌}
use Rattle.fol_core.specs.declared.sent.Sent.{Sent}
use Rattle.physical_lines.specs.Physical.{IsHeader}
use Rattle.boole_table.specs.declared.fault.TableTextFault.{TableTextFault}
use Rattle.boole_table.specs.declared.fault.TableTextFault.TheVariants.{Header, Letters, Sentences, Memory}
use Rattle.boole_table.specs.declared.table.TableText.{TableText}
use Rattle.boole_table.specs.WrittenLines.{Numbered, written}
use Rattle.boole_table.specs.Asked.{Asked}
use Rattle.boole_table.specs.ListLines.{ListsLetters, ListsSentences}
use Rattle.boole_table.specs.TableLines.{form_of, table_header, SpellBody, SpellsTable}
use Rattle.boole_table.specs.TableFaults.{BodyFails, SentencesFail, LettersFail, HeaderFails, IsFirstTableFault}
use Rattle.boole_table.specs.Readers.{SpellsFromLetters, SpellsFromSentences}

-- What a call answers, and what its caller answers with it.
abbrev pub Answer : Type 0
Answer = Result TableText (ℕ × TableTextFault)

-- behind the letters
pub sentences_missing : (asked : Asked) (letters : List Sent) (before : ℕ) (ls : List Numbered) → ls ≡ [] → SentencesFail asked letters before ls (before + 1) Sentences
sentences_missing asked letters before ls e = subst (λ xs. SentencesFail asked letters before xs (before + 1) Sentences) (sym e) (refl, refl)

pub sentences_wrong : (asked : Asked) (letters : List Sent) (before : ℕ) (ls : List Numbered) (l : Numbered) (rest : List Numbered) → ls ≡ l ∷ rest → ((ss : List Sent) → ListsSentences asked l.line ss → ⊥) → SentencesFail asked letters before ls l.place Sentences
sentences_wrong asked letters before ls l rest e h = subst (λ xs. SentencesFail asked letters before xs l.place Sentences) (sym e) (inl (refl, refl, h))

pub sentences_refused : (asked : Asked) (letters ss : List Sent) (before : ℕ) (ls : List Numbered) (l : Numbered) (rest : List Numbered) (n : ℕ) (f : TableTextFault) → ls ≡ l ∷ rest → ListsSentences asked l.line ss →
    (f ≡ Memory) ⊎ BodyFails (form_of asked letters ss) [] rest n f → (f ≡ Memory) ⊎ SentencesFail asked letters before ls n f
sentences_refused asked letters ss before ls l rest n f e h (inl m) = inl m
sentences_refused asked letters ss before ls l rest n f e h (inr k) = inr (subst (λ xs. SentencesFail asked letters before xs n f) (sym e) (inr (ss, (h, k))))

-- behind the header
pub letters_missing : (asked : Asked) (before : ℕ) (ls : List Numbered) → ls ≡ [] → LettersFail asked before ls (before + 1) Letters
letters_missing asked before ls e = subst (λ xs. LettersFail asked before xs (before + 1) Letters) (sym e) (refl, refl)

pub letters_wrong : (asked : Asked) (before : ℕ) (ls : List Numbered) (l : Numbered) (rest : List Numbered) → ls ≡ l ∷ rest → ((ms : List Sent) → ListsLetters asked l.line ms → ⊥) → LettersFail asked before ls l.place Letters
letters_wrong asked before ls l rest e h = subst (λ xs. LettersFail asked before xs l.place Letters) (sym e) (inl (refl, refl, h))

pub letters_read : (asked : Asked) (letters : List Sent) (ls : List Numbered) (l : Numbered) (rest : List Numbered) (r : Answer) → ls ≡ l ∷ rest → ListsLetters asked l.line letters →
    IfOk r (SpellsFromSentences asked letters rest) → IfOk r (SpellsFromLetters asked ls)
letters_read asked letters ls l rest (Ok t) e h k = record { letters_line = l; rest = rest; letters = letters; are = e; lists = h; others = k }
letters_read asked letters ls l rest (Err x) e h k = k

pub letters_refused : (asked : Asked) (letters : List Sent) (before : ℕ) (ls : List Numbered) (l : Numbered) (rest : List Numbered) (r : Answer) → ls ≡ l ∷ rest → ListsLetters asked l.line letters →
    IfErr r (λ x. (x.1 ≡ Memory) ⊎ SentencesFail asked letters l.place rest x.0 x.1) → IfErr r (λ x. (x.1 ≡ Memory) ⊎ LettersFail asked before ls x.0 x.1)
letters_refused asked letters before ls l rest (Ok t) e h k = k
letters_refused asked letters before ls l rest (Err x) e h (inl m) = inl m
letters_refused asked letters before ls l rest (Err x) e h (inr k) = inr (subst (λ xs. LettersFail asked before xs x.0 x.1) (sym e) (inr (letters, (h, k))))

-- the whole text
pub header_missing : (asked : Asked) (text : List ℕ) → written text ≡ [] → IsFirstTableFault asked text 1 Header
header_missing asked text e = subst (λ xs. HeaderFails asked xs 1 Header) (sym e) (refl, refl)

pub header_wrong : (asked : Asked) (text : List ℕ) (l : Numbered) (rest : List Numbered) → written text ≡ l ∷ rest → (IsHeader table_header l.line → ⊥) → IsFirstTableFault asked text l.place Header
header_wrong asked text l rest e h = subst (λ xs. HeaderFails asked xs l.place Header) (sym e) (inl (refl, refl, h))

whole : (asked : Asked) (text : List ℕ) (l : Numbered) (rest : List Numbered) (t : TableText) → written text ≡ l ∷ rest → IsHeader table_header l.line → SpellsFromLetters asked rest t → SpellsTable asked text t
whole asked text l rest t e h k =
    let kept : k.letters ≡ t.table.letters = sym k.others.kept in
    record {
      header = l;
      letters_line = k.letters_line;
      sentences_line = k.others.sentences_line;
      body = k.others.body;
      are = e ∙ ap (λ xs. l ∷ xs) (k.are ∙ ap (λ xs. k.letters_line ∷ xs) k.others.are);
      headed = h;
      letters = subst (ListsLetters asked k.letters_line.line) kept k.lists;
      sentences = k.others.sentences;
      others = subst (λ (x : List Sent). SpellBody (form_of asked x t.table.sentences) [] k.others.body t.table.rows t.answers) kept k.others.others;
    }

pub table_read : (asked : Asked) (text : List ℕ) (l : Numbered) (rest : List Numbered) (r : Answer) → written text ≡ l ∷ rest → IsHeader table_header l.line → IfOk r (SpellsFromLetters asked rest) → IfOk r (SpellsTable asked text)
table_read asked text l rest (Ok t) e h k = whole asked text l rest t e h k
table_read asked text l rest (Err x) e h k = k

pub table_refused : (asked : Asked) (text : List ℕ) (l : Numbered) (rest : List Numbered) (r : Answer) → written text ≡ l ∷ rest → IsHeader table_header l.line →
    IfErr r (λ x. (x.1 ≡ Memory) ⊎ LettersFail asked l.place rest x.0 x.1) → IfErr r (λ x. (x.1 ≡ Memory) ⊎ IsFirstTableFault asked text x.0 x.1)
table_refused asked text l rest (Ok t) e h k = k
table_refused asked text l rest (Err x) e h (inl m) = inl m
table_refused asked text l rest (Err x) e h (inr k) = inr (subst (λ xs. HeaderFails asked xs x.0 x.1) (sym e) (inr (h, k)))
