-- What the loops over a source and a sink keep.
use Rattle.std.proofs.Common.{◌≡◌, ℕ, ◌+◌, ◌-◌, ◌≤◌, List, length, take, drop, subst, length-drop}
use Rattle.std.proofs.Math.Seq.{take-add, take-length}
use Rattle.std.proofs.KnownBytes.{Appends-trans}
use Rattle.std.specs.declared.option.Option.{Option}
use Rattle.std.specs.Io.KnownBytes.{Consumes, Appends}

-- This text was read so far, from a source that is the same place still.
pub record ReadSoFar (Same : Type 0) (left left' : Option (List ℕ)) (before faults : ℕ) (text : List ℕ) : Type 0 where
  pub place : Same
  pub consumed : Consumes left left' text
  pub later : before ≤ faults
  pub fits : length text ≤ 262145

-- So many bytes of the text were written so far, to a sink that is the same place still.
pub record WrittenSoFar (Same : Type 0) (taken taken' : Option (List ℕ)) (before faults : ℕ) (text : List ℕ) (at : ℕ) : Type 0 where
  pub place : Same
  pub appended : Appends taken taken' (take at text)
  pub later : before ≤ faults
  pub within : at ≤ length text

-- A write of the next bytes goes on from where the last one ended.
pub write_more : (a b c : Option (List ℕ)) (text : List ℕ) (done n : ℕ) → Appends a b (take done text)
    → Appends b c (take n (take (length text - done) (drop done text))) → Appends a c (take (done + n) text)
write_more a b c text done n so_far more =
    let rest : take (length text - done) (drop done text) ≡ drop done text = rw (← length-drop done text) (take-length (drop done text)) in
    let next : Appends b c (take n (drop done text)) = subst (λ (l : List ℕ). Appends b c (take n l)) rest more in
    rw take-add (Appends-trans a b c (take done text) (take n (drop done text)) so_far next)
