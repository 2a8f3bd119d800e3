use Rattle.std.proofs.Common.{◌≡◌, drop}
use Rattle.std.specs.List.{find}
use Rattle.std.specs.Str.{bytes_eq}
use Rattle.worlds.specs.Predicates.{word_of}
use Rattle.worlds.proofs.predicate.first_of_word.Given as goal

abbrev pub invariant-loop-predicate : goal.invariant-loop-predicate
invariant-loop-predicate l = find (λ q. bytes_eq (word_of q) l.word) l.predicates ≡ find (λ q. bytes_eq (word_of q) l.word) (drop l.predicate-index l.predicates)
