-- What it says of each form of sentence that it is a statement: one equation a form.
use Rattle.std.proofs.Common.{◌≡◌, List, Bool, true, rules}
use Rattle.std.specs.Prelude.{◌&&◌, ◌∷◌, map, nat_le, length}
use Rattle.std.specs.List.{list_all}
use Rattle.fol_core.specs.declared.sent.Term.{Term}
use Rattle.fol_core.specs.declared.sent.Sent.{Sent, the_lemmas}
use Rattle.fol_core.specs.declared.sent.Sent.TheVariants as s
use Rattle.fol_core.specs.Word.{Word, is_ident}
use Rattle.fol_core.specs.Statements.{grounded, stated_under}

pub stated_atom : (p : Word) (ts : List Term) (bound : List Word) → stated_under (s.Atom p ts) bound ≡ (is_ident p && list_all (grounded bound) ts)
stated_atom p ts bound = search (rules, the_lemmas)

pub stated_eq : (a b : Term) (bound : List Word) → stated_under (s.Eq a b) bound ≡ (grounded bound a && grounded bound b)
stated_eq a b bound = search (rules, the_lemmas)

pub stated_bottom : (bound : List Word) → stated_under s.Bottom bound ≡ true
stated_bottom bound = search (rules, the_lemmas)

pub stated_not : (p : Sent) (bound : List Word) → stated_under (s.Not p) bound ≡ stated_under p bound
stated_not p bound = search (rules, the_lemmas)

pub stated_each_and : (ps : List Sent) (bound : List Word) → stated_under (s.And ps) bound ≡ (nat_le 2 (length (map stated_under ps)) && list_all (λ (g : List Word → Bool). g bound) (map stated_under ps))
stated_each_and ps bound = search (rules, the_lemmas)

pub stated_each_or : (ps : List Sent) (bound : List Word) → stated_under (s.Or ps) bound ≡ (nat_le 2 (length (map stated_under ps)) && list_all (λ (g : List Word → Bool). g bound) (map stated_under ps))
stated_each_or ps bound = search (rules, the_lemmas)

pub stated_if : (p q : Sent) (bound : List Word) → stated_under (s.If p q) bound ≡ (stated_under p bound && stated_under q bound)
stated_if p q bound = search (rules, the_lemmas)

pub stated_iff : (p q : Sent) (bound : List Word) → stated_under (s.Iff p q) bound ≡ (stated_under p bound && stated_under q bound)
stated_iff p q bound = search (rules, the_lemmas)

pub stated_all : (x : Word) (p : Sent) (bound : List Word) → stated_under (s.All x p) bound ≡ (is_ident x && stated_under p (x ∷ bound))
stated_all x p bound = search (rules, the_lemmas)

pub stated_ex : (x : Word) (p : Sent) (bound : List Word) → stated_under (s.Ex x p) bound ≡ (is_ident x && stated_under p (x ∷ bound))
stated_ex x p bound = search (rules, the_lemmas)
