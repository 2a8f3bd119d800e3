-- Who a token is.
use Rattle.std.specs.Prelude.{ℕ, ◌+◌, ◌-◌, ◌^◌, min, Bool, true, false, ◌&&◌, nat_lt, List, [], ◌∷◌, Some, None, slice_get, if◌then◌else◌}
use Rattle.std.specs.Str.{bytes_eq}
use Rattle.std.specs.declared.option.Option.{Option}
use Rattle.desk_keeper.specs.declared.rows.Role.{Role}
use Rattle.desk_keeper.specs.declared.rows.Role.TheVariants.{Student, Teacher}
use Rattle.desk_keeper.specs.declared.rows.UserRow.{UserRow}
use Rattle.desk_keeper.specs.declared.tables.Tables.{Tables}
use Rattle.desk_machine.specs.declared.users.Known.{Known}

-- The role is a teacher's.
abbrev pub is_teacher : Role → Bool
is_teacher Teacher = true
is_teacher Student = false

-- The role is a student's.
abbrev pub is_student : Role → Bool
is_student Student = true
is_student Teacher = false

-- The number, as far as 32 bits go.
abbrev pub in_32_bits : ℕ → ℕ
in_32_bits n = min n (2 ^ 32 - 1)

-- The number and the role of the first of these users with the token, where the first of them has the number n.
abbrev pub known_from : ℕ → List UserRow → List ℕ → Option Known
known_from n [] token = None
known_from n (user ∷ users) token = if bytes_eq user.token token then Some (record { number = in_32_bits n; role = user.role }) else known_from (n + 1) users token

-- The number and the role of the user with the token. A user's number is its place in the table, from 1.
abbrev pub user_of : List UserRow → List ℕ → Option Known
user_of users token = known_from 1 users token

abbrev pub is_a_student : Option UserRow → Bool
is_a_student None = false
is_a_student (Some user) = is_student user.role

-- A student has the number.
abbrev pub has_student : List UserRow → ℕ → Bool
has_student users number = nat_lt 0 number && is_a_student (slice_get users (number - 1))
