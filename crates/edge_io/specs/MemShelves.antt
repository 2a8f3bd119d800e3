-- What callers see of a shelf in memory.
use Rattle.std.specs.Prelude.{◌≡◌, ◌↔◌, ℕ, List, [], ◌∷◌, false, None, Some, Result, IsErrOf, IsTrue, if◌then◌else◌}
use Rattle.std.specs.Str.{bytes_eq}
use Rattle.std.specs.declared.option.Option.{Option}
use Rattle.edge_io.specs.Calls.{Tally, fails_next, one_more}
use Rattle.edge_io.specs.declared.mem_shelf.Labelled.{Labelled}
use Rattle.edge_io.specs.declared.shelf.ShelfFault.{ShelfFault}
use Rattle.edge_io.specs.declared.shelf.ShelfFault.TheVariants.{Failed}

-- The texts in the order in which they were put, and the calls.
pub record MemTexts : Type 0 where
  pub held : List Labelled
  pub calls : Tally

-- The text under the name: the first one that was put there.
abbrev pub text_under : List Labelled → List ℕ → Option (List ℕ)
text_under [] name = None
text_under (label ∷ labels) name = if bytes_eq label.name name then Some label.text else text_under labels name

-- One call was made; it failed exactly where it was listed to fail, and then counted as a failure.
pub record CountsGet {T : Type 0} (old new : Tally) (result : Result T ShelfFault) : Type 0 where
  pub same_list : new.fails ≡ old.fails
  pub one_call : new.made ≡ one_more old.made
  pub listed : IsErrOf result Failed ↔ IsTrue (fails_next old)
  pub no_fault : fails_next old ≡ false → new.failed ≡ old.failed
  pub one_fault : IsTrue (fails_next old) → new.failed ≡ one_more old.failed
