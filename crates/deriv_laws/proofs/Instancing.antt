-- A quantified sentence has one variable and one matrix, so that its instances are fixed by it.
use Rattle.std.proofs.Common.{◌≡◌, [], ap, ap₂, sym, ◌∙◌, rules, IsTrue}
use Rattle.fol_core.specs.declared.sent.Sent.{Sent, out-Sent, the_lemmas}
use Rattle.fol_core.specs.declared.sent.Sent.TheOpen as f
use Rattle.fol_core.specs.declared.sent.Sent.TheVariants.{Bottom, All, Ex}
use Rattle.fol_core.specs.Word.{Word}
use Rattle.fol_core.specs.Subst.{subst_name, subst_closed_term}
use Rattle.fol_core.specs.Statements.{ground}
use Rattle.fol_core.specs.declared.sent.Term.{Term}

abbrev variable_of : Sent → Word
variable_of s = elim (out-Sent s) [ f.All x p ↦ x | f.Ex x p ↦ x | _ ↦ [] ]

abbrev matrix_of : Sent → Sent
matrix_of s = elim (out-Sent s) [ f.All x p ↦ p | f.Ex x p ↦ p | _ ↦ Bottom ]

variable_of_all : (x : Word) (p : Sent) → variable_of (All x p) ≡ x
variable_of_all x p = search (rules, the_lemmas)

variable_of_ex : (x : Word) (p : Sent) → variable_of (Ex x p) ≡ x
variable_of_ex x p = search (rules, the_lemmas)

matrix_of_all : (x : Word) (p : Sent) → matrix_of (All x p) ≡ p
matrix_of_all x p = search (rules, the_lemmas)

matrix_of_ex : (x : Word) (p : Sent) → matrix_of (Ex x p) ≡ p
matrix_of_ex x p = search (rules, the_lemmas)

all_alone : (x y : Word) (p r : Sent) → All x p ≡ All y r → (x ≡ y) × (p ≡ r)
all_alone x y p r e = (sym (variable_of_all x p) ∙ ap variable_of e ∙ variable_of_all y r, sym (matrix_of_all x p) ∙ ap matrix_of e ∙ matrix_of_all y r)

ex_alone : (x y : Word) (p r : Sent) → Ex x p ≡ Ex y r → (x ≡ y) × (p ≡ r)
ex_alone x y p r e = (sym (variable_of_ex x p) ∙ ap variable_of e ∙ variable_of_ex y r, sym (matrix_of_ex x p) ∙ ap matrix_of e ∙ matrix_of_ex y r)

pub all_by : (s q : Sent) (c x : Word) (p : Sent) → s ≡ All x p → ((y : Word) × (r : Sent) × (s ≡ All y r) × (q ≡ subst_name y c r)) → q ≡ subst_name x c p
all_by s q c x p e (y, r, f, g) = let w = all_alone x y p r (sym e ∙ f) in g ∙ ap₂ (λ z t. subst_name z c t) (sym w.0) (sym w.1)

pub all_by_some : (s q : Sent) (x : Word) (p : Sent) → s ≡ All x p → ((y : Word) × (r : Sent) × (a : Term) × IsTrue (ground a) × (s ≡ All y r) × (q ≡ subst_closed_term y a r)) → (a : Term) × IsTrue (ground a) × (q ≡ subst_closed_term x a p)
all_by_some s q x p e (y, r, a, k, f, g) = let w = all_alone x y p r (sym e ∙ f) in (a, k, g ∙ ap₂ (λ z t. subst_closed_term z a t) (sym w.0) (sym w.1))

pub ex_by_some : (s q : Sent) (x : Word) (p : Sent) → s ≡ Ex x p → ((y : Word) × (r : Sent) × (a : Term) × IsTrue (ground a) × (s ≡ Ex y r) × (q ≡ subst_closed_term y a r)) → (a : Term) × IsTrue (ground a) × (q ≡ subst_closed_term x a p)
ex_by_some s q x p e (y, r, a, k, f, g) = let w = ex_alone x y p r (sym e ∙ f) in (a, k, g ∙ ap₂ (λ z t. subst_closed_term z a t) (sym w.0) (sym w.1))
