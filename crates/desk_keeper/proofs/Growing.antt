-- Rows are put at the ends of the tables alone.
use Rattle.std.proofs.Common.{◌≡◌, ℕ, ◌+◌, ◌<◌, ◌≤◌, List, [], ◌∷◌, ◌++◌, length, take, refl, sym, ap, ◌∙◌, arith, length-append, slice_index_or}
use Rattle.std.proofs.lemmas.List.{take-append-le, take_more}
use Rattle.std.proofs.Math.Seq.{take-length}
use Rattle.desk_keeper.specs.declared.rows.Row.{Row}
use Rattle.desk_keeper.specs.declared.rows.Row.TheVariants.{User, Exercise, Extension, Submission, Graded, Order}
use Rattle.desk_keeper.specs.declared.tables.Tables.{Tables}
use Rattle.desk_keeper.specs.declared.tables.Sizes.{Sizes}
use Rattle.desk_keeper.specs.Rows.{with_row, with_rows, sizes_of, cut}

-- Each table has at least so many rows.
pub record Has (sizes : Sizes) (tables : Tables) : Type 0 where
  pub users : sizes.users ≤ length tables.users
  pub exercises : sizes.exercises ≤ length tables.exercises
  pub extensions : sizes.extensions ≤ length tables.extensions
  pub submissions : sizes.submissions ≤ length tables.submissions
  pub grades : sizes.grades ≤ length tables.grades
  pub orders : sizes.orders ≤ length tables.orders

longer : {T : Type 0} (n : ℕ) (rows : List T) (row : T) → n ≤ length rows → n ≤ length (rows ++ row ∷ [])
longer n rows row has = omega (arith, has, length-append rows (row ∷ []))

pub Has-more : (sizes : Sizes) (tables : Tables) (row : Row) → Has sizes tables → Has sizes (with_row tables row)
Has-more s t (User row) h = record { users = longer s.users t.users row h.users; exercises = h.exercises; extensions = h.extensions; submissions = h.submissions; grades = h.grades; orders = h.orders }
Has-more s t (Exercise row) h = record { users = h.users; exercises = longer s.exercises t.exercises row h.exercises; extensions = h.extensions; submissions = h.submissions; grades = h.grades; orders = h.orders }
Has-more s t (Extension row) h = record { users = h.users; exercises = h.exercises; extensions = longer s.extensions t.extensions row h.extensions; submissions = h.submissions; grades = h.grades; orders = h.orders }
Has-more s t (Submission row) h = record { users = h.users; exercises = h.exercises; extensions = h.extensions; submissions = longer s.submissions t.submissions row h.submissions; grades = h.grades; orders = h.orders }
Has-more s t (Graded row) h = record { users = h.users; exercises = h.exercises; extensions = h.extensions; submissions = h.submissions; grades = longer s.grades t.grades row h.grades; orders = h.orders }
Has-more s t (Order row) h = record { users = h.users; exercises = h.exercises; extensions = h.extensions; submissions = h.submissions; grades = h.grades; orders = longer s.orders t.orders row h.orders }

-- A row at an end is cut off again.
pub cut-more : (sizes : Sizes) (tables : Tables) (row : Row) → Has sizes tables → cut sizes (with_row tables row) ≡ cut sizes tables
cut-more s t (User row) h = ap (λ l. record (cut s t) { users = l }) (take-append-le s.users t.users (row ∷ []) h.users)
cut-more s t (Exercise row) h = ap (λ l. record (cut s t) { exercises = l }) (take-append-le s.exercises t.exercises (row ∷ []) h.exercises)
cut-more s t (Extension row) h = ap (λ l. record (cut s t) { extensions = l }) (take-append-le s.extensions t.extensions (row ∷ []) h.extensions)
cut-more s t (Submission row) h = ap (λ l. record (cut s t) { submissions = l }) (take-append-le s.submissions t.submissions (row ∷ []) h.submissions)
cut-more s t (Graded row) h = ap (λ l. record (cut s t) { grades = l }) (take-append-le s.grades t.grades (row ∷ []) h.grades)
cut-more s t (Order row) h = ap (λ l. record (cut s t) { orders = l }) (take-append-le s.orders t.orders (row ∷ []) h.orders)

pub Has-rows : (sizes : Sizes) (tables : Tables) (rows : List Row) → Has sizes tables → Has sizes (with_rows tables rows)
Has-rows s t [] h = h
Has-rows s t (row ∷ rows) h = Has-rows s (with_row t row) rows (Has-more s t row h)

pub cut-rows : (sizes : Sizes) (tables : Tables) (rows : List Row) → Has sizes tables → cut sizes (with_rows tables rows) ≡ cut sizes tables
cut-rows s t [] h = refl
cut-rows s t (row ∷ rows) h = cut-rows s (with_row t row) rows (Has-more s t row h) ∙ cut-more s t row h

pub Has-own : (tables : Tables) → Has (sizes_of tables) tables
Has-own t = record {
  users = omega arith;
  exercises = omega arith;
  extensions = omega arith;
  submissions = omega arith;
  grades = omega arith;
  orders = omega arith;
}

pub cut-own : (tables : Tables) → cut (sizes_of tables) tables ≡ tables
cut-own t = rw (take-length t.users, take-length t.exercises, take-length t.extensions, take-length t.submissions, take-length t.grades, take-length t.orders) refl

-- Cut to the old sizes, the tables are the old ones.
pub cut_back : (tables : Tables) (rows : List Row) → cut (sizes_of tables) (with_rows tables rows) ≡ tables
cut_back t rows = cut-rows (sizes_of t) t rows (Has-own t) ∙ cut-own t

pub taken_back : (old mid now : Tables) (sizes : Sizes) (rows : List Row) → sizes ≡ sizes_of old → mid ≡ with_rows old rows → now ≡ cut sizes mid → now ≡ old
taken_back old mid now sizes rows s m n = rw (n, s, m) (cut_back old rows)

pub with_rows-more : (tables : Tables) (rows more : List Row) → with_rows tables (rows ++ more) ≡ with_rows (with_rows tables rows) more
with_rows-more t [] more = refl
with_rows-more t (row ∷ rows) more = with_rows-more (with_row t row) rows more

-- The first rows, and then the next one.
pub with_rows-next : (tables : Tables) (rows : List Row) (i : ℕ) (row : Row) → i < length rows → row ≡ slice_index_or rows i row
    → with_rows tables (take (i + 1) rows) ≡ with_row (with_rows tables (take i rows)) row
with_rows-next t rows i row here is =
    let front : take (i + 1) rows ≡ take i rows ++ row ∷ [] = take_more rows i row here ∙ ap (λ (r : Row). take i rows ++ r ∷ []) (sym is) in
    rw front (with_rows-more t (take i rows) (row ∷ []))
