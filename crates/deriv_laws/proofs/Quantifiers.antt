-- The laws of identity and the quantifiers.
use Rattle.std.proofs.Common.{◌≡◌, List, [], ◌∷◌, refl, ap₂, sym, ◌∙◌, subst, Some, IsTrue, Contains, false, rules}
use Rattle.std.specs.Prelude.{◌⊎◌, ◌&&◌}
use Rattle.fol_core.specs.declared.sent.Term.{Term}
use Rattle.fol_core.specs.declared.sent.Sent.{Sent, the_lemmas}
use Rattle.fol_core.specs.declared.sent.Sent.TheVariants.{Eq, All, Ex}
use Rattle.fol_core.specs.Word.{Word}
use Rattle.fol_core.specs.Statements.{statement, ground}
use Rattle.fol_core.specs.Subst.{occurs, subst_name, subst_closed_term}
use Rattle.fol_core.specs.Alike.{repl}
use Rattle.fol_core.proofs.Stating.{stated_eq}
use Rattle.fol_core.proofs.Instances.{all_instance}
use Rattle.deriv_laws.specs.declared.rule.Rule.TheVariants as r
use Rattle.deriv_laws.specs.Discharge.{discharged, instance_of_ex, without}
use Rattle.deriv_laws.specs.Eigen.{IsEigen, AreWithout}
use Rattle.deriv_laws.specs.Derivable.{Der}
use Rattle.deriv_laws.proofs.Lists.{all_turn}
use Rattle.deriv_laws.proofs.Members.{all_each}
use Rattle.deriv_laws.proofs.Building.{AllIn, PartsFrom, AreWithin, without_within, built, plain}
use Rattle.deriv_laws.proofs.Laws.{der_stated}

pub eq_intro : (gs : List Sent) (a : Term) → IsTrue (ground a) → Der gs (Eq a a)
eq_intro gs a k = plain gs [] r.EqIntro (Eq a a) (λ e. cc) refl (λ os. tt) tt (stated_eq a a [] ∙ ap₂ ◌&&◌ k k) (a, refl)

pub eq_elim : (gs : List Sent) (a b : Term) (p s : Sent) → Der gs (Eq a b) → Der gs p → IsTrue (repl a b p s) ⊎ IsTrue (repl b a p s) → IsTrue (statement s) → Der gs s
eq_elim gs a b p s h k w c = plain gs (Eq a b ∷ p ∷ []) r.EqElim s (λ e. cc) refl (λ os. tt) (h, (k, tt)) c (a, b, refl, w)

pub all_elim : (gs : List Sent) (x : Word) (a : Term) (p : Sent) → IsTrue (ground a) → Der gs (All x p) → Der gs (subst_closed_term x a p)
all_elim gs x a p k h = plain gs (All x p ∷ []) r.AllElim (subst_closed_term x a p) (λ e. cc) refl (λ os. tt) (h, tt) (all_instance x a p k (der_stated gs (All x p) h)) (x, p, a, k, refl, refl)

pub ex_intro : (gs : List Sent) (x : Word) (a : Term) (p : Sent) → IsTrue (ground a) → Der gs (subst_closed_term x a p) → IsTrue (statement (Ex x p)) → Der gs (Ex x p)
ex_intro gs x a p k h c = plain gs (subst_closed_term x a p ∷ []) r.ExIntro (Ex x p) (λ e. cc) refl (λ os. tt) (h, tt) c (x, p, a, k, refl, refl)

-- a constant that occurs in nothing given occurs in nothing that is open
free_within : (c : Word) (gs o : List Sent) → AreWithout c gs → AllIn gs o → AreWithout c o
free_within c gs o w h = all_turn (λ s. Contains gs s) (λ s. occurs c s ≡ false) (λ s i. all_each (λ z. occurs c z ≡ false) gs s w i) o h

all_eigen : (gs : List Sent) (c : Word) (q s : Sent) → AreWithout c gs → occurs c s ≡ false → (os : List (List Sent)) → AreWithin gs os [] → IsEigen r.AllIntro (Some c) (q ∷ []) os s
all_eigen gs c q s w f [] a = tt
all_eigen gs c q s w f (o ∷ []) a = (free_within c gs o w a.0, f)
all_eigen gs c q s w f (o ∷ o' ∷ os) a = tt

pub all_intro : (gs : List Sent) (c x : Word) (p : Sent) → AreWithout c gs → Der gs (subst_name x c p) → IsTrue (statement (All x p)) → occurs c (All x p) ≡ false → Der gs (All x p)
all_intro gs c x p w h k f = built gs r.AllIntro (Some c) (subst_name x c p ∷ []) (All x p) (λ e. cc) k (x, p, refl, refl) (all_eigen gs c (subst_name x c p) (All x p) w f) (h, tt)

ex_eigen : (gs : List Sent) (c : Word) (q t s : Sent) → AreWithout c gs → occurs c s ≡ false → occurs c q ≡ false →
    (os : List (List Sent)) → AreWithin gs os (discharged r.ExElim (Some c) (q ∷ t ∷ []) s) → IsEigen r.ExElim (Some c) (q ∷ t ∷ []) os s
ex_eigen gs c q t s w f g [] a = tt
ex_eigen gs c q t s w f g (o ∷ []) a = tt
ex_eigen gs c q t s w f g (o ∷ o' ∷ []) a = (free_within c gs (without (instance_of_ex c q) o') w (without_within gs (instance_of_ex c q) o' a.1.0), f, g)
ex_eigen gs c q t s w f g (o ∷ o' ∷ o'' ∷ os) a = tt

instance_of : (c x : Word) (p : Sent) → instance_of_ex c (Ex x p) ≡ subst_name x c p ∷ []
instance_of c x p = search (rules, the_lemmas)

pub ex_elim : (gs : List Sent) (c x : Word) (p s : Sent) → AreWithout c gs → Der gs (Ex x p) → Der (subst_name x c p ∷ gs) s → occurs c (Ex x p) ≡ false → occurs c s ≡ false → Der gs s
ex_elim gs c x p s w h k g f =
    built gs r.ExElim (Some c) (Ex x p ∷ s ∷ []) s (λ e. cc) (der_stated (subst_name x c p ∷ gs) s k) (x, p, refl, refl) (ex_eigen gs c (Ex x p) s s w f g)
    (subst (λ d. PartsFrom gs (Ex x p ∷ s ∷ []) ([] ∷ d ∷ [])) (sym (instance_of c x p)) (h, (k, tt)))
