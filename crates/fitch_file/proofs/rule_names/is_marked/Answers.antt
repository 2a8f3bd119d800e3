use Rattle.std.proofs.Common.{◌≡◌, ◌↔◌, IsTrue, subst}
use Rattle.fitch_file.proofs.Naming.{marked_where}
use Rattle.fitch_file.proofs.rule_names.is_marked.Goals as goal

pub returns-in-Some : goal.returns-in-Some
returns-in-Some c =
    marked_where c.args.mark.now c.args.word.now c.args.text.now c.in-Some.tail.now c.is_word.result c.in-Some.ensures.value
    (subst (λ t. IsTrue c.is_word.result ↔ (t ≡ c.args.word.now)) c.trim_start.ensures.value c.is_word.ensures)
