use Rattle.texts.proofs.Searching.{first_cuts}
use Rattle.texts.proofs.cuts.cut.Goals as goal

pub returns-in-Some : goal.returns-in-Some
returns-in-Some c =
    let found = rw c.in-Some.is at c.memchr.ensures in
    record { value = first_cuts c.args.at c.args.text.now c.in-Some.place found.0 found.1 }
