-- What a compiled formula says: the value of its sentence, over the values of the letters.
use Rattle.std.specs.Prelude.{◌≡◌, ◌≤◌, ℕ, Bool, false, not, ◌&&◌, ◌||◌, List, map, length, get_or}
use Rattle.std.specs.List.{list_any, list_all}
use Rattle.fol_core.specs.declared.sent.Sent.{Sent}
use Rattle.fol_core.specs.Subst.{itself}
use Rattle.taut_con.specs.declared.formula.Formula.{Formula}
use Rattle.taut_con.specs.declared.formula.Formula.TheOpen.{Formula-F}
use Rattle.taut_con.specs.declared.formula.Formula.TheOpen as f
use Rattle.taut_con.specs.declared.formula.Formula.TheFolds.{fold-Formula}
use Rattle.taut_con.specs.Rows.{row_values}
use Rattle.taut_con.specs.Values.{agree, valuation, value}

-- One form of formula; a letter that has no value is false.
abbrev pub formula_step : List Bool → Formula-F Bool → Bool
formula_step bs (f.Letter i) = get_or bs i false
formula_step bs f.Falsum = false
formula_step bs (f.Not a) = not a
formula_step bs (f.And cs) = list_all itself cs
formula_step bs (f.Or cs) = list_any itself cs
formula_step bs (f.If a b) = not a || b
formula_step bs (f.Iff a b) = agree a b

-- The value of a formula over the values of the letters, which are numbered from 0.
abbrev pub formula_value : List Bool → Formula → Bool
formula_value bs = fold-Formula Bool (formula_step bs)

-- The formula stands for the sentence: whatever values these letters have, both have one value.
pub record StandsFor (ls : List Sent) (s : Sent) (f : Formula) : Type 0 where
  pub same : (bs : List Bool) → length bs ≤ length ls → formula_value bs f ≡ value (valuation ls bs) s

-- Each formula stands for the sentence in its place.
pub record StandForEach (ls : List Sent) (ss : List Sent) (fs : List Formula) : Type 0 where
  pub same : (bs : List Bool) → length bs ≤ length ls → map (formula_value bs) fs ≡ map (value (valuation ls bs)) ss

-- In row r of n letters each of the formulas is true, and the last one is false.
abbrev pub refutes_in_row : List Formula → Formula → ℕ → ℕ → Bool
refutes_in_row fs f n r = list_all (formula_value (row_values n r)) fs && not (formula_value (row_values n r) f)
