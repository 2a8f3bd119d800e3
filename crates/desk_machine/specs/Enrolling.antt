-- Enrolling users.
use Rattle.std.specs.Prelude.{ℕ, ◌+◌, Bool, not, ◌&&◌, ◌||◌, nat_lt, List, [], ◌∷◌, ◌++◌, length, map, Result, Ok, Err, Some, None, if◌then◌else◌}
use Rattle.std.specs.Str.{bytes_eq}
use Rattle.std.specs.List.{list_any}
use Rattle.std.specs.declared.option.Option.{Option}
use Rattle.desk_forms.specs.Words.{token, user_name}
use Rattle.desk_keeper.specs.declared.rows.Role.{Role}
use Rattle.desk_keeper.specs.declared.rows.Role.TheVariants.{Student, Teacher}
use Rattle.desk_keeper.specs.declared.rows.UserRow.{UserRow}
use Rattle.desk_keeper.specs.declared.rows.Row.{Row}
use Rattle.desk_keeper.specs.declared.rows.Row.TheVariants.{User}
use Rattle.desk_machine.specs.declared.faults.RollFault.{RollFault}
use Rattle.desk_machine.specs.declared.faults.RollFault.TheVariants.{UnknownToken, Role as WrongRole, BadUser, TooManyUsers}
use Rattle.desk_machine.specs.declared.plans.Planned.{Planned}
use Rattle.desk_machine.specs.declared.users.Known.{Known}
use Rattle.desk_machine.specs.Plans.{says}
use Rattle.desk_machine.specs.Users.{in_32_bits, is_teacher, is_student}

-- The user's token is this one.
abbrev pub has_token : List ℕ → UserRow → Bool
has_token wanted user = bytes_eq user.token wanted

-- Both have one role.
abbrev pub same_role : Role → Role → Bool
same_role Student b = is_student b
same_role Teacher b = is_teacher b

-- The other user has this one's token, but another role or name.
abbrev pub clashes : UserRow → UserRow → Bool
clashes user other = bytes_eq other.token user.token && not (same_role other.role user.role && bytes_eq other.name user.name)

-- What is wrong with a user behind these in the list: no token (1), no name (2), the token of another user (3).
abbrev pub user_code : List UserRow → List UserRow → UserRow → Option ℕ
user_code kept earlier user = if not (token user.token) then Some 1 else if not (user_name user.name) then Some 2
    else if list_any (clashes user) kept || list_any (clashes user) earlier then Some 3 else None

-- The users of the list that are new: their tokens are neither kept nor stand earlier in the list.
abbrev pub new_behind : List UserRow → List UserRow → List UserRow → List UserRow
new_behind kept earlier [] = []
new_behind kept earlier (user ∷ users) = if list_any (has_token user.token) kept || list_any (has_token user.token) earlier
    then new_behind kept (earlier ++ user ∷ []) users
    else user ∷ new_behind kept (earlier ++ user ∷ []) users

-- The place and the code, where there is a code.
abbrev pub bad_or : ℕ → Option ℕ → Option (ℕ × ℕ) → Option (ℕ × ℕ)
bad_or place None later = later
bad_or place (Some code) later = Some (place, code)

-- The least user of the list, by its place from 1, with which something is wrong, and the least code of it.
abbrev pub bad_behind : List UserRow → List UserRow → List UserRow → Option (ℕ × ℕ)
bad_behind kept earlier [] = None
bad_behind kept earlier (user ∷ users) = bad_or (in_32_bits (length earlier + 1)) (user_code kept earlier user) (bad_behind kept (earlier ++ user ∷ []) users)

-- The rows of the new users, where there is room for them.
abbrev pub enrols : List UserRow → List Row → Planned (Result ℕ RollFault)
enrols kept [] = says (Ok 0)
enrols kept (row ∷ rows) = if nat_lt 100000 (length kept + length (row ∷ rows)) then says (Err (TooManyUsers 100000))
    else record { answer = Ok (length (row ∷ rows)); rows = row ∷ rows }

abbrev pub enrols_unless : Option (ℕ × ℕ) → List UserRow → List UserRow → Planned (Result ℕ RollFault)
enrols_unless (Some bad) kept users = says (Err (BadUser bad.0 bad.1))
enrols_unless None kept users = enrols kept (map User (new_behind kept [] users))

-- A teacher enrols the users.
abbrev pub plan_roll : Option Known → List UserRow → List UserRow → Planned (Result ℕ RollFault)
plan_roll None kept users = says (Err UnknownToken)
plan_roll (Some known) kept users = if is_teacher known.role then enrols_unless (bad_behind kept [] users) kept users else says (Err WrongRole)
