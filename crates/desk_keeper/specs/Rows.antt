-- Tables, and rows put last in their tables.
use Rattle.std.specs.Prelude.{List, [], ◌∷◌, ◌++◌, length, take}
use Rattle.desk_keeper.specs.declared.rows.Row.{Row}
use Rattle.desk_keeper.specs.declared.rows.Row.TheVariants.{User, Exercise, Extension, Submission, Graded, Order}
use Rattle.desk_keeper.specs.declared.tables.Tables.{Tables}
use Rattle.desk_keeper.specs.declared.tables.Sizes.{Sizes}

-- Tables without rows.
abbrev pub no_rows : Tables
no_rows = record { users = []; exercises = []; extensions = []; submissions = []; grades = []; orders = [] }

-- The tables with one row more, which stands last in its own table.
abbrev pub with_row : Tables → Row → Tables
with_row tables (User row) = record tables { users = tables.users ++ row ∷ [] }
with_row tables (Exercise row) = record tables { exercises = tables.exercises ++ row ∷ [] }
with_row tables (Extension row) = record tables { extensions = tables.extensions ++ row ∷ [] }
with_row tables (Submission row) = record tables { submissions = tables.submissions ++ row ∷ [] }
with_row tables (Graded row) = record tables { grades = tables.grades ++ row ∷ [] }
with_row tables (Order row) = record tables { orders = tables.orders ++ row ∷ [] }

-- The tables with each of the rows more, one after another.
abbrev pub with_rows : Tables → List Row → Tables
with_rows tables [] = tables
with_rows tables (row ∷ rows) = with_rows (with_row tables row) rows

-- How many rows each table has.
abbrev pub sizes_of : Tables → Sizes
sizes_of tables = record {
  users = length tables.users;
  exercises = length tables.exercises;
  extensions = length tables.extensions;
  submissions = length tables.submissions;
  grades = length tables.grades;
  orders = length tables.orders;
}

-- The first rows of each table, so many of them.
abbrev pub cut : Sizes → Tables → Tables
cut sizes tables = record {
  users = take sizes.users tables.users;
  exercises = take sizes.exercises tables.exercises;
  extensions = take sizes.extensions tables.extensions;
  submissions = take sizes.submissions tables.submissions;
  grades = take sizes.grades tables.grades;
  orders = take sizes.orders tables.orders;
}
