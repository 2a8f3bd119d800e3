-- What is printed of a table is read back as that table.
use Rattle.std.proofs.Common.{◌≡◌, ◌≢◌, ℕ, ◌+◌, ◌<◌, Bool, true, false, List, [], ◌∷◌, ◌++◌, length, map, refl, sym, ap, subst, ◌∙◌, append_assoc, arith, inl}
use Rattle.std.specs.Prelude.{if◌then◌else◌}
use Rattle.std.specs.List.{AllByRecursion, flat_map}
use Rattle.std.specs.Str.Lines.{lines}
use Rattle.texts.specs.Blanks.{trimmed}
use Rattle.texts.specs.Cuts.{Lacks, IsCut}
use Rattle.texts.proofs.Splitting.{lines-cut}
use Rattle.fol_core.specs.declared.sent.Sent.{Sent}
use Rattle.fol_text.specs.Printed.{printed, separated}
use Rattle.fol_text.specs.Readable.{IsReadable}
use Rattle.fol_text.proofs.ReadBack.{printed_readable}
use Rattle.fitch_file.specs.Claim.{is_nothing}
use Rattle.fitch_file.specs.PrintedProof.{HasReadableText}
use Rattle.fitch_file.specs.Declarations.{IsBehind}
use Rattle.fitch_file.proofs.PrintingInk.{is_ink, begins_well, begins_ink, ends_after, ends_well, begins_append, begins_visible, ends_append, keeps_end, after_blanks-ink, trimmed_ink, trimmed_spaced, lacks_append, no_semicolon, no_feed}
use Rattle.fitch_file.proofs.PrintingSentences.{printed_ink}
use Rattle.boole_table.specs.declared.table.TableRow.{TableRow}
use Rattle.boole_table.specs.declared.table.Table.{Table}
use Rattle.boole_table.specs.WrittenLines.{numbered, written_from, written}
use Rattle.boole_table.specs.Asked.{any_table, Differ}
use Rattle.boole_table.specs.ListLines.{letters_word, sentences_word, AreSentences, ListsLetters, ListsSentences}
use Rattle.boole_table.specs.RowLines.{value_byte, without_blanks, begins_blank, IsRow}
use Rattle.boole_table.specs.TableLines.{table_header, Form, form_of, SpellBody, SpellsTable}
use Rattle.boole_table.specs.PrintedTable.{list_text, row_text, rows_text, printed_table, HasValues, IsReadBack, without_answers}

-- lines

nothing_not : (t : List ℕ) → begins_ink t ≡ true → is_nothing t ≡ false
nothing_not [] h = absurd (cc)
nothing_not (b ∷ bs) h = refl

written_next : (n : ℕ) (l rest : List ℕ) → Lacks 10 l → begins_ink l ≡ true → ends_well l ≡ true → written_from n (lines (l ++ 10 ∷ rest)) ≡ numbered n l ∷ written_from (n + 1) (lines rest)
written_next n l rest h b e =
    ap (written_from n) (lines-cut (l ++ 10 ∷ rest) l rest (record { joined = refl; first = h }) ∙ ap (λ t. t ∷ lines rest) (keeps_end l e))
    ∙ ap (λ c. if c then written_from (n + 1) (lines rest) else numbered n l ∷ written_from (n + 1) (lines rest)) (ap is_nothing (after_blanks-ink l b) ∙ nothing_not l b)

-- rows

abbrev letters_text : List Bool → List ℕ
letters_text bs = flat_map (λ b. value_byte b ∷ 32 ∷ []) bs

abbrev sentences_text : List Bool → List ℕ
sentences_text bs = flat_map (λ b. 32 ∷ value_byte b ∷ []) bs

letters_without : (bs : List Bool) (rest : List ℕ) → without_blanks (letters_text bs ++ rest) ≡ map value_byte bs ++ without_blanks rest
letters_without [] rest = refl
letters_without (true ∷ bs) rest = ap (λ xs. 84 ∷ xs) (letters_without bs rest)
letters_without (false ∷ bs) rest = ap (λ xs. 70 ∷ xs) (letters_without bs rest)

sentences_without : (bs : List Bool) → without_blanks (sentences_text bs) ≡ map value_byte bs
sentences_without [] = refl
sentences_without (true ∷ bs) = ap (λ xs. 84 ∷ xs) (sentences_without bs)
sentences_without (false ∷ bs) = ap (λ xs. 70 ∷ xs) (sentences_without bs)

letters_lack : (bs : List Bool) → Lacks 10 (letters_text bs)
letters_lack [] = refl
letters_lack (true ∷ bs) = letters_lack bs
letters_lack (false ∷ bs) = letters_lack bs

sentences_lack : (bs : List Bool) → Lacks 10 (sentences_text bs)
sentences_lack [] = refl
sentences_lack (true ∷ bs) = sentences_lack bs
sentences_lack (false ∷ bs) = sentences_lack bs

values_end : (c : ℕ) → is_ink c ≡ true → (bs : List Bool) → ends_after c (sentences_text bs) ≡ true
values_end c h [] = h
values_end c h (true ∷ bs) = values_end 84 refl bs
values_end c h (false ∷ bs) = values_end 70 refl bs

row_begins : (bs : List Bool) (rest : List ℕ) → begins_ink (letters_text bs ++ 124 ∷ rest) ≡ true
row_begins [] rest = refl
row_begins (true ∷ bs) rest = refl
row_begins (false ∷ bs) rest = refl

row_no_blank : (bs : List Bool) (rest : List ℕ) → begins_blank (letters_text bs ++ 124 ∷ rest) ≡ false
row_no_blank [] rest = refl
row_no_blank (true ∷ bs) rest = refl
row_no_blank (false ∷ bs) rest = refl

row_back : (letters sentences : ℕ) (row : TableRow) → HasValues letters sentences row → IsRow letters sentences (row_text row) row
row_back letters sentences row h = record {
  begins = row_no_blank row.letters (sentences_text row.sentences);
  bytes = letters_without row.letters (124 ∷ sentences_text row.sentences) ∙ ap (λ xs. map value_byte row.letters ++ 124 ∷ xs) (sentences_without row.sentences);
  letters_are = h.letters_are;
  sentences_are = h.sentences_are;
}

row_next : (n : ℕ) (row : TableRow) (rows : List TableRow) → written_from n (lines (rows_text (row ∷ rows))) ≡ numbered n (row_text row) ∷ written_from (n + 1) (lines (rows_text rows))
row_next n row rows =
    ap (λ t. written_from n (lines t)) (append_assoc (row_text row) (10 ∷ []) (rows_text rows))
    ∙ written_next n (row_text row) (rows_text rows)
    (lacks_append 10 (letters_text row.letters) (124 ∷ sentences_text row.sentences) (letters_lack row.letters) (sentences_lack row.sentences))
    (row_begins row.letters (sentences_text row.sentences))
    (ends_append (letters_text row.letters) (124 ∷ sentences_text row.sentences) (values_end 124 refl row.sentences))

rows_back : (form : Form) (n : ℕ) (rows : List TableRow) → AllByRecursion (HasValues form.letters form.sentences) rows → SpellBody form [] (written_from n (lines (rows_text rows))) rows []
rows_back form n [] h = (refl, refl)
rows_back form n (row ∷ rows) h =
    subst (λ ls. SpellBody form [] ls (row ∷ rows) []) (sym (row_next n row rows))
    (inl (row, (rows, record { none = refl; is = row_back form.letters form.sentences row h.0 }, refl, rows_back form (n + 1) rows h.1)))

-- the letters and the sentences

abbrev semicolon : List ℕ
semicolon = 32 ∷ 59 ∷ 32 ∷ []

abbrev texts_of : List Sent → List ℕ
texts_of ss = separated semicolon (map printed ss)

texts_begin : (s : Sent) (ss : List Sent) → HasReadableText s → begins_well (texts_of (s ∷ ss)) ≡ true
texts_begin s [] h = (printed_ink s h.formed).begins
texts_begin s (t ∷ ss) h = begins_append (printed s ++ semicolon) (texts_of (t ∷ ss)) (begins_append (printed s) semicolon (printed_ink s h.formed).begins)

texts_end : (s : Sent) (ss : List Sent) → HasReadableText s → AllByRecursion HasReadableText ss → ends_well (texts_of (s ∷ ss)) ≡ true
texts_end s [] h k = (printed_ink s h.formed).ends
texts_end s (t ∷ ss) h k = ends_append (printed s ++ semicolon) (texts_of (t ∷ ss)) (texts_end t ss k.0 k.1)

texts_lack : (s : Sent) (ss : List Sent) → HasReadableText s → AllByRecursion HasReadableText ss → Lacks 10 (texts_of (s ∷ ss))
texts_lack s [] h k = no_feed (printed s) (printed_ink s h.formed)
texts_lack s (t ∷ ss) h k = lacks_append 10 (printed s ++ semicolon) (texts_of (t ∷ ss)) (lacks_append 10 (printed s) semicolon (no_feed (printed s) (printed_ink s h.formed)) refl) (texts_lack t ss k.0 k.1)

-- A sentence's text is readable, with blanks round it.
one_back : (s : Sent) (text : List ℕ) → HasReadableText s → trimmed text ≡ trimmed (printed s) → IsReadable (trimmed text) s
one_back s text h e =
    let i = printed_ink s h.formed in
    subst (λ t. IsReadable t s) (sym (e ∙ trimmed_ink (printed s) (begins_visible (printed s) i.begins) i.ends)) (printed_readable s (printed s) refl h.formed h.closed h.within h.short)

-- `pad` is what stands before the first sentence: nothing, or a space.
front_text : (pad : List ℕ) (s : Sent) (rest : List ℕ) → pad ++ ((printed s ++ semicolon) ++ rest) ≡ (pad ++ (printed s ++ 32 ∷ [])) ++ 59 ∷ 32 ∷ rest
front_text pad s rest =
    ap (λ t. pad ++ t) (append_assoc (printed s) semicolon rest ∙ sym (append_assoc (printed s) (32 ∷ []) (59 ∷ 32 ∷ rest)))
    ∙ sym (append_assoc pad (printed s ++ 32 ∷ []) (59 ∷ 32 ∷ rest))

sentences_back : (pad : List ℕ) → Lacks 59 pad → ((t : List ℕ) → trimmed (pad ++ t) ≡ trimmed t) → (s : Sent) (ss : List Sent) → HasReadableText s → AllByRecursion HasReadableText ss → AreSentences (pad ++ texts_of (s ∷ ss)) (s ∷ ss)
sentences_back pad l d s [] h k = (lacks_append 59 pad (printed s) l (no_semicolon (printed s) (printed_ink s h.formed)), one_back s (pad ++ printed s) h (d (printed s)))
sentences_back pad l d s (t ∷ ss) h k =
    let i = printed_ink s h.formed in
    let front : List ℕ = pad ++ (printed s ++ 32 ∷ []) in
    let rest : List ℕ = 32 ∷ texts_of (t ∷ ss) in
    let cut : IsCut 59 (pad ++ texts_of (s ∷ t ∷ ss)) front rest = record {
      joined = front_text pad s (texts_of (t ∷ ss));
      first = lacks_append 59 pad (printed s ++ 32 ∷ []) l (lacks_append 59 (printed s) (32 ∷ []) (no_semicolon (printed s) i) refl);
    } in
    let same : trimmed front ≡ trimmed (printed s) =
    d (printed s ++ 32 ∷ []) ∙ trimmed_spaced (printed s) (begins_visible (printed s) i.begins) i.ends ∙ sym (trimmed_ink (printed s) (begins_visible (printed s) i.begins) i.ends) in
    (front, (rest, cut, one_back s front h same, sentences_back (32 ∷ []) refl (λ u. refl) t ss k.0 k.1))

no_list : (t : List ℕ) → begins_well t ≡ true → t ≢ []
no_list [] h = absurd (cc)
no_list (b ∷ bs) h = λ e. absurd (cc)

behind_back : (word : List ℕ) (s : Sent) (ss : List Sent) → HasReadableText s → AllByRecursion HasReadableText ss → IsBehind word (list_text word (s ∷ ss)) (texts_of (s ∷ ss))
behind_back word s ss h k = record {
  tail = 32 ∷ texts_of (s ∷ ss);
  begins = refl;
  parted = refl;
  is = sym (trimmed_ink (texts_of (s ∷ ss)) (begins_visible (texts_of (s ∷ ss)) (texts_begin s ss h)) (texts_end s ss h k));
}

letters_back : (ls : List Sent) → Differ ls → AllByRecursion HasReadableText ls → ListsLetters any_table (list_text letters_word ls) ls
letters_back [] d h = record { text = []; behind = record { tail = []; begins = refl; parted = refl; is = refl }; are = refl; suit = d }
letters_back (l ∷ ls) d h = record {
  text = texts_of (l ∷ ls);
  behind = behind_back letters_word l ls h.0 h.1;
  are = (no_list (texts_of (l ∷ ls)) (texts_begin l ls h.0), sentences_back [] refl (λ u. refl) l ls h.0 h.1);
  suit = d;
}

sentences_line_back : (ss : List Sent) → 0 < length ss → AllByRecursion HasReadableText ss → ListsSentences any_table (list_text sentences_word ss) ss
sentences_line_back [] n h = absurd (omega (arith, n))
sentences_line_back (s ∷ ss) n h = record {
  text = texts_of (s ∷ ss);
  behind = behind_back sentences_word s ss h.0 h.1;
  are = sentences_back [] refl (λ u. refl) s ss h.0 h.1;
  suit = tt;
}

-- The keyword begins and ends with a visible byte, and has no line feed.
record IsKeyword (word : List ℕ) : Type 0 where
  pub begins : begins_well word ≡ true
  pub ends : ends_well word ≡ true
  pub lacks : Lacks 10 word

line_next : (word : List ℕ) → IsKeyword word → (n : ℕ) (ss : List Sent) (rest : List ℕ) → AllByRecursion HasReadableText ss → written_from n (lines (list_text word ss ++ 10 ∷ rest)) ≡ numbered n (list_text word ss) ∷ written_from (n + 1) (lines rest)
line_next word w n [] rest h = written_next n word rest w.lacks (begins_visible word w.begins) w.ends
line_next word w n (s ∷ ss) rest h =
    let tail : List ℕ = 32 ∷ texts_of (s ∷ ss) in
    written_next n (word ++ tail) rest
    (lacks_append 10 word tail w.lacks (texts_lack s ss h.0 h.1))
    (begins_visible (word ++ tail) (begins_append word tail w.begins))
    (ends_append word tail (ends_append (32 ∷ []) (texts_of (s ∷ ss)) (texts_end s ss h.0 h.1)))

-- the table

lines_are : (t : Table) → IsReadBack t → written (printed_table t) ≡ numbered 1 table_header ∷ numbered 2 (list_text letters_word t.letters) ∷ numbered 3 (list_text sentences_word t.sentences) ∷ written_from 4 (lines (rows_text t.rows))
lines_are t h =
    let below : List ℕ = list_text sentences_word t.sentences ++ 10 ∷ rows_text t.rows in
    written_next 1 table_header (list_text letters_word t.letters ++ 10 ∷ below) refl refl refl
    ∙ ap (λ ls. numbered 1 table_header ∷ ls) (line_next letters_word (record { begins = refl; ends = refl; lacks = refl }) 2 t.letters below h.letters
    ∙ ap (λ ls. numbered 2 (list_text letters_word t.letters) ∷ ls) (line_next sentences_word (record { begins = refl; ends = refl; lacks = refl }) 3 t.sentences (rows_text t.rows) h.sentences))

-- The printed text of a table that is read back spells it.
pub table_back : (t : Table) (text : List ℕ) → text ≡ printed_table t → IsReadBack t → SpellsTable any_table text (without_answers t)
table_back t text e h =
    let whole : SpellsTable any_table (printed_table t) (without_answers t) = record {
      header = numbered 1 table_header;
      letters_line = numbered 2 (list_text letters_word t.letters);
      sentences_line = numbered 3 (list_text sentences_word t.sentences);
      body = written_from 4 (lines (rows_text t.rows));
      are = lines_are t h;
      headed = refl;
      letters = letters_back t.letters h.differ h.letters;
      sentences = sentences_line_back t.sentences h.some h.sentences;
      others = rows_back (form_of any_table t.letters t.sentences) 4 t.rows h.rows;
    } in
    subst (λ u. SpellsTable any_table u (without_answers t)) (sym e) whole
