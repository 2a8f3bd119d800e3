-- What holds of plays as text.
use Rattle.std.specs.Prelude.{◌≡◌, ℕ, List}
use Rattle.play_text.specs.declared.play.Play.{Play}
use Rattle.play_text.specs.declared.play.PlayFault.{PlayFault}
use Rattle.play_text.specs.PlayText.{SpellsPlay}
use Rattle.play_text.specs.PlayFaults.{IsFirstPlayFault}

-- The text is at most one play.
abbrev pub OnePlay : Type 0
OnePlay = (text : List ℕ) (p q : Play) → SpellsPlay text p → SpellsPlay text q → p ≡ q

-- Two faults at two places are one.
pub record IsSameFault (n m : ℕ) (f g : PlayFault) : Type 0 where
  pub place : n ≡ m
  pub is : f ≡ g

-- The text has at most one first fault.
abbrev pub OneFault : Type 0
OneFault = (text : List ℕ) (n m : ℕ) (f g : PlayFault) → IsFirstPlayFault text n f → IsFirstPlayFault text m g → IsSameFault n m f g

-- A text with a fault is no play.
abbrev pub NeverBoth : Type 0
NeverBoth = (text : List ℕ) (play : Play) (n : ℕ) (f : PlayFault) → SpellsPlay text play → IsFirstPlayFault text n f → ⊥
