-- What a count of moved bytes says of the two ends.
use Rattle.std.specs.Prelude.{◌≡◌, ◌<◌, ◌↔◌, ℕ, List, [], length, Result, IfOk, IfSome}
use Rattle.std.specs.declared.option.Option.{Option}

-- A read into a room that isn't empty gives 0 exactly where no byte was left, if what is left is told.
abbrev pub ZeroIsTheEnd : {E : Type 0} → Option (List ℕ) → Result ℕ E → List ℕ → Type 0
ZeroIsTheEnd left result room = 0 < length room → IfOk result (λ n. IfSome left (λ bytes. (n ≡ 0) ↔ (bytes ≡ [])))

-- A write takes at least one byte of a piece that isn't empty.
abbrev pub TakesSome : {E : Type 0} → Result ℕ E → List ℕ → Type 0
TakesSome result piece = 0 < length piece → IfOk result (λ n. 0 < n)
