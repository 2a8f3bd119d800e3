use Rattle.std.proofs.Common.{◌≡◌, ◌↔◌, IsTrue, subst}
use Rattle.fitch_file.proofs.Naming.{two_words_where, not_two_words}
use Rattle.fitch_file.proofs.rule_names.are_two_words.Goals as goal

pub returns-in-Some-after_blank : goal.returns-in-Some-after_blank
returns-in-Some-after_blank c =
    two_words_where c.args.first.now c.args.second.now c.args.text.now c.in-Some.tail.now c.in-Some-after_blank.rest.now c.is_word.result c.in-Some.ensures.value c.in-Some-after_blank.ensures.value
    (subst (λ t. IsTrue c.is_word.result ↔ (t ≡ c.args.second.now)) c.trim_start.ensures.value c.is_word.ensures)

pub returns-in-None-after_blank : goal.returns-in-None-after_blank
returns-in-None-after_blank c = (λ i. absurd (cc), λ h. absurd (not_two_words c.args.first.now c.args.second.now c.args.text.now c.in-Some.tail.now c.in-Some.ensures.value c.in-None-after_blank.ensures.value h))
