-- The entries that the code's list of names and terms stands for.
use Rattle.std.proofs.Common.{◌≡◌, [], rules, Bor}
use Rattle.fol_core.specs.declared.sent.Term.{Term}
use Rattle.fol_core.specs.declared.sent.Term.TheVariants.{Name}
use Rattle.fol_core.specs.Word.{Word}
use Rattle.rules_quant.specs.declared.names.Names.{Names, the_lemmas}
use Rattle.rules_quant.specs.declared.names.Names.TheVariants as n
use Rattle.rules_quant.specs.Naming.{naming, entries}

pub no_entries : entries n.None ≡ []
no_entries = search (rules, the_lemmas)

pub known_entries : (x : Bor Word) (r : Bor Term) (rest : Bor Names) → entries (n.Known x r rest) ≡ naming x.now r.now (entries rest.now)
known_entries x r rest = search (rules, the_lemmas)

pub named_entries : (x m : Bor Word) (rest : Bor Names) → entries (n.Named x m rest) ≡ naming x.now (Name m.now) (entries rest.now)
named_entries x m rest = search (rules, the_lemmas)
