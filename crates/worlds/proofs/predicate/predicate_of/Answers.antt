use Rattle.std.proofs.Common.{ap, ◌∙◌}
use Rattle.std.specs.List.{find}
use Rattle.std.specs.Str.{bytes_eq}
use Rattle.worlds.specs.Predicates.{word_of}
use Rattle.worlds.proofs.Ending.{found_among, none_found}
use Rattle.worlds.proofs.predicate.predicate_of.Goals as goal

pub returns-in-empty : goal.returns-in-empty
returns-in-empty c = record { value = none_found c.args.word.now c.in-empty.len_below }

pub returns-in-len1-up : goal.returns-in-len1-up
returns-in-len1-up c =
    record { value = c.first_of_word.ensures.value ∙ ap (find (λ q. bytes_eq (word_of q) c.args.word.now)) c.ending_in.ensures.value ∙ found_among c.args.word.now _ c.in-len1-up.len_at_least }
