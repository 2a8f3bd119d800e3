-- A read from memory moves the front of what is left, and leaves the rest.
use Rattle.std.proofs.Common.{◌≡◌, ℕ, ◌+◌, ◌-◌, ◌≤◌, List, [], ◌++◌, length, take, drop, sym, ap, ◌∙◌, arith, take-append-drop, length-drop}
use Rattle.std.proofs.lemmas.List.{drop-drop, length-take-le, nil_from_length}
use Rattle.std.proofs.Math.Seq.{take-append_seam}

-- What was left at `at` is the front of the room that the read filled, and what is left after it.
pub front_and_rest : (left bytes seen room piece : List ℕ) (at n : ℕ) → drop at bytes ≡ left → seen ≡ bytes
    → piece ≡ take (at + n - at) (drop at seen) → n ≤ length bytes - at
    → left ≡ take n (piece ++ room) ++ drop (at + n) bytes
front_and_rest left bytes seen room piece at n is same moved fits =
    let n_is : at + n - at ≡ n = omega arith in
    let front : piece ≡ take n (drop at bytes) = rw (same, n_is) at moved in
    let count : length piece ≡ n = ap length front ∙ length-take-le n (drop at bytes) (omega (arith, length-drop at bytes)) in
    let filled : take n (piece ++ room) ≡ piece = ap (λ k. take k (piece ++ room)) (sym count) ∙ take-append_seam piece room in
    rw (filled, front, ← drop-drop n at bytes) (sym (take-append-drop n (drop at bytes) ∙ is))

-- Past the last byte nothing is left.
pub nothing_left : (bytes : List ℕ) (at : ℕ) → length bytes ≤ at → drop at bytes ≡ []
nothing_left bytes at past = nil_from_length (drop at bytes) (omega (arith, length-drop at bytes))

pub nothing_left_of : {X : Type 0} (xs : List X) (at : ℕ) → length xs ≤ at → drop at xs ≡ []
nothing_left_of xs at past = nil_from_length (drop at xs) (omega (arith, length-drop at xs))
