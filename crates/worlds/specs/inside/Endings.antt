-- Predicates by the last letter of their words.
use Rattle.std.specs.Prelude.{ℕ, ◌-◌, Bool, ◌==◌, get_or, length}
use Rattle.fol_core.specs.Word.{Word}
use Rattle.worlds.specs.declared.predicate.Predicate.{Predicate}
use Rattle.worlds.specs.Predicates.{word_of}

-- The last letter of a word; that is 0 where the word has none.
abbrev pub last_letter : Word → ℕ
last_letter word = get_or word (length word - 1) 0

-- The predicate's word ends in the letter.
abbrev pub ends_in : ℕ → Predicate → Bool
ends_in letter q = last_letter (word_of q) == letter
