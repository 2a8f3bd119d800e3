-- Reading the values of a row.
use Rattle.std.proofs.Common.{◌≡◌, ℕ, ◌+◌, ◌<◌, Bool, true, false, not, List, [], ◌∷◌, ◌++◌, length, map, drop, get_or, cond, refl, sym, ap, ap₂, subst, ◌∙◌, append_assoc, add-one, drop-cons, arith}
use Rattle.std.specs.Prelude.{◌||◌, MatchOption, Option, Some}
use Rattle.std.proofs.lemmas.List.{map-append, append-nil}
use Rattle.texts.specs.Blanks.{is_blank}
use Rattle.boole_table.specs.declared.table.TableRow.{TableRow}
use Rattle.boole_table.specs.RowLines.{value_byte, row_bytes, without_blanks}
use Rattle.boole_table.specs.Readers.{is_value, stops}

dropped : (text : List ℕ) (i : ℕ) → i < length text → drop i text ≡ get_or text i 0 ∷ drop (i + 1) text
dropped text i h = rw (add-one, drop-cons text i 0) refl

kept : (b : ℕ) (bs : List ℕ) (c : Bool) → is_blank b ≡ c → without_blanks (b ∷ bs) ≡ cond (not c) (b ∷ without_blanks bs) (without_blanks bs)
kept b bs c e = ap (λ d. cond (not d) (b ∷ without_blanks bs) (without_blanks bs)) e

-- A blank is passed over.
pub passed : (text : List ℕ) (i : ℕ) (b : ℕ) → i < length text → b ≡ get_or text i 0 → is_blank b ≡ true → without_blanks (drop i text) ≡ without_blanks (drop (i + 1) text)
passed text i b h e k = ap without_blanks (dropped text i h) ∙ kept (get_or text i 0) (drop (i + 1) text) true (ap is_blank (sym e) ∙ k)

not_blank : (v : Bool) → is_blank (value_byte v) ≡ false
not_blank true = refl
not_blank false = refl

-- A value is taken.
pub taken : (text : List ℕ) (i : ℕ) (b : ℕ) (values : List Bool) (v : Bool) → i < length text → b ≡ get_or text i 0 → b ≡ value_byte v →
    without_blanks text ≡ map value_byte values ++ without_blanks (drop i text) → without_blanks text ≡ map value_byte (values ++ v ∷ []) ++ without_blanks (drop (i + 1) text)
taken text i b values v h e k inv =
    let w : without_blanks (drop i text) ≡ value_byte v ∷ without_blanks (drop (i + 1) text) =
    ap without_blanks (dropped text i h) ∙ kept (get_or text i 0) (drop (i + 1) text) false (ap is_blank (sym e ∙ k) ∙ not_blank v) ∙ ap (λ x. x ∷ without_blanks (drop (i + 1) text)) (sym e ∙ k) in
    inv ∙ ap (λ xs. map value_byte values ++ xs) w ∙ sym (append_assoc (map value_byte values) (value_byte v ∷ []) (without_blanks (drop (i + 1) text)))
    ∙ ap (λ xs. xs ++ without_blanks (drop (i + 1) text)) (sym (map-append value_byte values (v ∷ [])))

stop_at : (b : ℕ) (bs : List ℕ) (c d : Bool) → is_blank b ≡ c → is_value b ≡ d → stops (b ∷ bs) ≡ not (c || d)
stop_at b bs c d e f = ap₂ (λ x y. not (x || y)) e f

pub stopped : (text : List ℕ) (i : ℕ) (b : ℕ) → i < length text → b ≡ get_or text i 0 → is_blank b ≡ false → is_value b ≡ false → stops (drop i text) ≡ true
stopped text i b h e k v = ap stops (dropped text i h) ∙ stop_at (get_or text i 0) (drop (i + 1) text) false false (ap is_blank (sym e) ∙ k) (ap is_value (sym e) ∙ v)

-- The text begins with no value.
abbrev no_value : List ℕ → Bool
no_value [] = true
no_value (b ∷ bs) = not (is_value b)

first_no_value : (b : ℕ) (bs : List ℕ) (c d : Bool) → is_blank b ≡ c → is_value b ≡ d → not (c || d) ≡ true → no_value (without_blanks (b ∷ bs)) ≡ true
first_no_value b bs true d e f h = absurd (cc)
first_no_value b bs false true e f h = absurd (cc)
first_no_value b bs false false e f h = ap no_value (kept b bs false e) ∙ ap not f

stops_no_value : (text : List ℕ) → stops text ≡ true → no_value (without_blanks text) ≡ true
stops_no_value [] h = refl
stops_no_value (b ∷ bs) h = first_no_value b bs (is_blank b) (is_value b) refl refl h

value_once : (x y : Bool) → value_byte x ≡ value_byte y → x ≡ y
value_once true true e = refl
value_once true false e = absurd (omega (arith, e))
value_once false true e = absurd (omega (arith, e))
value_once false false e = refl

has_value : (y : Bool) (bs : List ℕ) → no_value (value_byte y ∷ bs) ≡ false
has_value true bs = refl
has_value false bs = refl

-- The values before the first byte that is none are determined, and so is what follows.
values_once : (xs ys : List Bool) (us vs : List ℕ) → no_value us ≡ true → no_value vs ≡ true → map value_byte xs ++ us ≡ map value_byte ys ++ vs → (xs ≡ ys) × (us ≡ vs)
values_once [] [] us vs h k e = (refl, e)
values_once [] (y ∷ ys) us vs h k e = let f : true ≡ false = sym h ∙ ap no_value e ∙ has_value y (map value_byte ys ++ vs) in absurd (cc)
values_once (x ∷ xs) [] us vs h k e = let f : true ≡ false = sym k ∙ ap no_value (sym e) ∙ has_value x (map value_byte xs ++ us) in absurd (cc)
values_once (x ∷ xs) (y ∷ ys) us vs h k e =
    let first : value_byte x ≡ value_byte y = cc in
    let rest : map value_byte xs ++ us ≡ map value_byte ys ++ vs = cc in
    let both : (xs ≡ ys) × (us ≡ vs) = values_once xs ys us vs h k rest in
    (ap₂ ◌∷◌ (value_once x y first) both.0, both.1)

-- the row

behind_bar : (behind rest : List ℕ) → behind ≡ (124 ∷ []) ++ rest → without_blanks behind ≡ 124 ∷ without_blanks rest
behind_bar behind rest e = ap without_blanks e

pub row_found : (line behind rest end : List ℕ) (row : TableRow) → without_blanks line ≡ map value_byte row.letters ++ without_blanks behind → behind ≡ (124 ∷ []) ++ rest →
    without_blanks rest ≡ map value_byte row.sentences ++ without_blanks end → end ≡ [] → without_blanks line ≡ row_bytes row
row_found line behind rest end row h b k e =
    h ∙ ap (λ xs. map value_byte row.letters ++ xs) (behind_bar behind rest b ∙ ap (λ xs. 124 ∷ xs) (k ∙ ap (λ xs. map value_byte row.sentences ++ without_blanks xs) e ∙ append-nil (map value_byte row.sentences)))

bar_first : (behind ys : List ℕ) → stops behind ≡ true → without_blanks behind ≡ 124 ∷ ys → (rest : List ℕ) × (behind ≡ (124 ∷ []) ++ rest)
bar_first [] ys h e = absurd (cc)
bar_first (b ∷ bs) ys h e = head (is_blank b) (is_value b) refl refl h
  where
    head : (c d : Bool) → is_blank b ≡ c → is_value b ≡ d → not (c || d) ≡ true → (rest : List ℕ) × (b ∷ bs ≡ (124 ∷ []) ++ rest)
    head true d f g i = absurd (cc)
    head false d f g i = let w : b ∷ without_blanks bs ≡ 124 ∷ ys = sym (kept b bs false f) ∙ e in let k : b ≡ 124 = cc in (bs, ap (λ x. x ∷ bs) k)

-- Where no bar follows the letters' values, the line is no row.
pub no_bar : (line behind : List ℕ) (ls : List Bool) → without_blanks line ≡ map value_byte ls ++ without_blanks behind → stops behind ≡ true → ((rest : List ℕ) → behind ≡ (124 ∷ []) ++ rest → ⊥) →
    (row : TableRow) → without_blanks line ≡ row_bytes row → ⊥
no_bar line behind ls h s none row e =
    let p : (ls ≡ row.letters) × (without_blanks behind ≡ 124 ∷ map value_byte row.sentences) =
    values_once ls row.letters (without_blanks behind) (124 ∷ map value_byte row.sentences) (stops_no_value behind s) refl (sym h ∙ e) in
    let b : (rest : List ℕ) × (behind ≡ (124 ∷ []) ++ rest) = bar_first behind (map value_byte row.sentences) s p.1 in
    none b.0 b.1

nothing_left : (end : List ℕ) → stops end ≡ true → without_blanks end ≡ [] → end ≡ []
nothing_left [] h e = refl
nothing_left (b ∷ bs) h e = head (is_blank b) (is_value b) refl refl h
  where
    head : (c d : Bool) → is_blank b ≡ c → is_value b ≡ d → not (c || d) ≡ true → b ∷ bs ≡ []
    head true d f g i = absurd (cc)
    head false d f g i = let w : b ∷ without_blanks bs ≡ [] = sym (kept b bs false f) ∙ e in absurd (cc)

-- Where something follows the sentences' values, it is none either.
pub no_end : (line behind rest end : List ℕ) (ls ss : List Bool) → without_blanks line ≡ map value_byte ls ++ without_blanks behind → stops behind ≡ true → behind ≡ (124 ∷ []) ++ rest →
    without_blanks rest ≡ map value_byte ss ++ without_blanks end → stops end ≡ true → (end ≡ [] → ⊥) → (row : TableRow) → without_blanks line ≡ row_bytes row → ⊥
no_end line behind rest end ls ss h s b k t some row e =
    let p : (ls ≡ row.letters) × (without_blanks behind ≡ 124 ∷ map value_byte row.sentences) =
    values_once ls row.letters (without_blanks behind) (124 ∷ map value_byte row.sentences) (stops_no_value behind s) refl (sym h ∙ e) in
    let w : 124 ∷ without_blanks rest ≡ 124 ∷ map value_byte row.sentences = sym (behind_bar behind rest b) ∙ p.1 in
    let x : without_blanks rest ≡ map value_byte row.sentences = cc in
    let q : (ss ≡ row.sentences) × (without_blanks end ≡ []) =
    values_once ss row.sentences (without_blanks end) [] (stops_no_value end t) refl (sym k ∙ x ∙ sym (append-nil (map value_byte row.sentences))) in
    some (nothing_left end t q.1)

-- A text without blanks is one row at most.
pub bytes_once : (row other : TableRow) → row_bytes row ≡ row_bytes other → row ≡ other
bytes_once row other e =
    let p : (row.letters ≡ other.letters) × (124 ∷ map value_byte row.sentences ≡ 124 ∷ map value_byte other.sentences) =
    values_once row.letters other.letters (124 ∷ map value_byte row.sentences) (124 ∷ map value_byte other.sentences) refl refl e in
    let x : map value_byte row.sentences ≡ map value_byte other.sentences = cc in
    let q : (row.sentences ≡ other.sentences) × ([] ≡ []) =
    values_once row.sentences other.sentences [] [] refl refl (append-nil (map value_byte row.sentences) ∙ x ∙ sym (append-nil (map value_byte other.sentences))) in
    ap₂ (λ (xs ys : List Bool). let r : TableRow = record { letters = xs; sentences = ys } in r) p.0 q.0

pub found_row : (line : List ℕ) (o : Option TableRow) (r : TableRow) → o ≡ Some r → MatchOption o ((row : TableRow) → without_blanks line ≡ row_bytes row → ⊥) (λ row. without_blanks line ≡ row_bytes row) → without_blanks line ≡ row_bytes r
found_row line o r e h = subst (λ (x : Option TableRow). MatchOption x ((row : TableRow) → without_blanks line ≡ row_bytes row → ⊥) (λ row. without_blanks line ≡ row_bytes row)) e h
