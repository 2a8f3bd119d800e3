-- What is put in for a variable.
use Rattle.fol_core.specs.declared.sent.Term.{Term}
use Rattle.fol_core.specs.declared.sent.Term.TheVariants.{Name}
use Rattle.fol_core.specs.declared.instance.Put.{Put}
use Rattle.fol_core.specs.declared.instance.Put.TheVariants as p

-- The term: the name, or the term itself.
abbrev pub put : Put → Term
put (p.Name n) = Name n.now
put (p.Term r) = r.now
