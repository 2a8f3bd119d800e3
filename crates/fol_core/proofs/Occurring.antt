-- What occurrence says of each form of sentence; of conjunctions and disjunctions see Forms.
use Rattle.std.proofs.Common.{◌≡◌, List, false, rules}
use Rattle.std.specs.Prelude.{◌||◌}
use Rattle.std.specs.List.{list_any}
use Rattle.fol_core.specs.declared.sent.Term.{Term}
use Rattle.fol_core.specs.declared.sent.Sent.{Sent, the_lemmas}
use Rattle.fol_core.specs.declared.sent.Sent.TheVariants as s
use Rattle.fol_core.specs.Word.{Word}
use Rattle.fol_core.specs.Subst.{occurs_in_term, occurs}

pub occurs_atom : (n : Word) (p : Word) (ts : List Term) → occurs n (s.Atom p ts) ≡ list_any (occurs_in_term n) ts
occurs_atom n p ts = search (rules, the_lemmas)

pub occurs_eq : (n : Word) (a b : Term) → occurs n (s.Eq a b) ≡ (occurs_in_term n a || occurs_in_term n b)
occurs_eq n a b = search (rules, the_lemmas)

pub occurs_bottom : (n : Word) → occurs n s.Bottom ≡ false
occurs_bottom n = search (rules, the_lemmas)

pub occurs_not : (n : Word) (p : Sent) → occurs n (s.Not p) ≡ occurs n p
occurs_not n p = search (rules, the_lemmas)

pub occurs_if : (n : Word) (p q : Sent) → occurs n (s.If p q) ≡ (occurs n p || occurs n q)
occurs_if n p q = search (rules, the_lemmas)

pub occurs_iff : (n : Word) (p q : Sent) → occurs n (s.Iff p q) ≡ (occurs n p || occurs n q)
occurs_iff n p q = search (rules, the_lemmas)

pub occurs_all : (n : Word) (y : Word) (p : Sent) → occurs n (s.All y p) ≡ occurs n p
occurs_all n y p = search (rules, the_lemmas)

pub occurs_ex : (n : Word) (y : Word) (p : Sent) → occurs n (s.Ex y p) ≡ occurs n p
occurs_ex n y p = search (rules, the_lemmas)
