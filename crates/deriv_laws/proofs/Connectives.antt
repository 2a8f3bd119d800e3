-- The laws of disjunction, negation, absurdity, the conditional and the biconditional.
use Rattle.std.proofs.Common.{◌≡◌, List, [], ◌∷◌, ◌++◌, map, length, replicate, refl, sym, ◌∙◌, subst, None, IsTrue, Contains, rules, inl, inr}
use Rattle.std.specs.List.{AllByRecursion}
use Rattle.std.proofs.lemmas.Bool.{and_from, and_parts}
use Rattle.fol_core.specs.declared.sent.Sent.{Sent, the_lemmas}
use Rattle.fol_core.specs.declared.sent.Sent.TheVariants.{Bottom, Not, Or, If, Iff}
use Rattle.fol_core.specs.Statements.{statement}
use Rattle.fol_core.proofs.Stating.{stated_bottom, stated_not, stated_if, stated_iff}
use Rattle.deriv_laws.specs.declared.rule.Rule.TheVariants as r
use Rattle.deriv_laws.specs.Discharge.{under_not, before_if, sides_of_iff, parts_of_or}
use Rattle.deriv_laws.specs.Derivable.{Der}
use Rattle.deriv_laws.proofs.Building.{PartsFrom, built, plain}
use Rattle.deriv_laws.proofs.Laws.{weaken_before, der_stated}

-- what each rule discharges, read off its sentence

pub under_of_not : (p : Sent) → under_not (Not p) ≡ p ∷ []
under_of_not p = search (rules, the_lemmas)

pub before_of_if : (p q : Sent) → before_if (If p q) ≡ p ∷ []
before_of_if p q = search (rules, the_lemmas)

sides_of : (p q : Sent) → sides_of_iff (Iff p q) ≡ p ∷ q ∷ []
sides_of p q = search (rules, the_lemmas)

parts_of : (ps : List Sent) → parts_of_or (Or ps) ≡ ps
parts_of ps = search (rules, the_lemmas)

pub or_intro : (gs parts : List Sent) (p : Sent) → Der gs p → Contains parts p → IsTrue (statement (Or parts)) → Der gs (Or parts)
or_intro gs parts p h i c = plain gs (p ∷ []) r.OrIntro (Or parts) (λ e. cc) refl (λ os. tt) (h, tt) c (parts, refl, i)

each_case : (gs parts : List Sent) (s : Sent) → AllByRecursion (λ q. Der (q ∷ gs) s) parts → PartsFrom gs (replicate (length parts) s) (map (λ q. q ∷ []) parts)
each_case gs [] s h = tt
each_case gs (q ∷ parts) s h = (h.0, each_case gs parts s h.1)

pub or_elim : (gs parts : List Sent) (s : Sent) → Der gs (Or parts) → AllByRecursion (λ q. Der (q ∷ gs) s) parts → IsTrue (statement s) → Der gs s
or_elim gs parts s h k c =
    built gs r.OrElim None (Or parts ∷ replicate (length parts) s) s (λ e. cc) c (parts, refl, refl) (λ os w. tt)
    (subst (λ qs. PartsFrom gs (Or parts ∷ replicate (length parts) s) ([] ∷ map (λ q. q ∷ []) qs)) (sym (parts_of parts)) (h, each_case gs parts s k))

pub not_intro : (gs : List Sent) (p : Sent) → Der (p ∷ gs) Bottom → IsTrue (statement p) → Der gs (Not p)
not_intro gs p h c =
    built gs r.NotIntro None (Bottom ∷ []) (Not p) (λ e. cc) (stated_not p [] ∙ c) (p, refl, refl) (λ os w. tt)
    (subst (λ d. PartsFrom gs (Bottom ∷ []) (d ∷ [])) (sym (under_of_not p)) (h, tt))

pub not_elim : (gs : List Sent) (s : Sent) → Der gs (Not (Not s)) → Der gs s
not_elim gs s h = plain gs (Not (Not s) ∷ []) r.NotElim s (λ e. cc) refl (λ os. tt) (h, tt) (sym (stated_not s []) ∙ sym (stated_not (Not s) []) ∙ der_stated gs (Not (Not s)) h) refl

pub bot_intro : (gs : List Sent) (p : Sent) → Der gs p → Der gs (Not p) → Der gs Bottom
bot_intro gs p h k = plain gs (p ∷ Not p ∷ []) r.BotIntro Bottom (λ e. cc) refl (λ os. tt) (h, (k, tt)) (stated_bottom []) (refl, refl)

pub bot_elim : (gs : List Sent) (s : Sent) → Der gs Bottom → IsTrue (statement s) → Der gs s
bot_elim gs s h c = plain gs (Bottom ∷ []) r.BotElim s (λ e. cc) refl (λ os. tt) (h, tt) c refl

pub if_intro : (gs : List Sent) (p q : Sent) → Der (p ∷ gs) q → IsTrue (statement p) → Der gs (If p q)
if_intro gs p q h c =
    built gs r.IfIntro None (q ∷ []) (If p q) (λ e. cc) (stated_if p q [] ∙ and_from _ _ c (der_stated (p ∷ gs) q h)) (p, refl) (λ os w. tt)
    (subst (λ d. PartsFrom gs (q ∷ []) (d ∷ [])) (sym (before_of_if p q)) (h, tt))

pub if_elim : (gs : List Sent) (p q : Sent) → Der gs (If p q) → Der gs p → Der gs q
if_elim gs p q h k = plain gs (If p q ∷ p ∷ []) r.IfElim q (λ e. cc) refl (λ os. tt) (h, (k, tt)) (and_parts _ _ (sym (stated_if p q []) ∙ der_stated gs (If p q) h)).1 refl

pub iff_intro : (gs : List Sent) (p q : Sent) → Der (p ∷ gs) q → Der (q ∷ gs) p → Der gs (Iff p q)
iff_intro gs p q h k =
    built gs r.IffIntro None (q ∷ p ∷ []) (Iff p q) (λ e. cc) (stated_iff p q [] ∙ and_from _ _ (der_stated (q ∷ gs) p k) (der_stated (p ∷ gs) q h)) refl (λ os w. tt)
    (subst (λ ds. PartsFrom gs (q ∷ p ∷ []) (map (λ d. d ∷ []) ds)) (sym (sides_of p q)) (h, (k, tt)))

pub iff_elim : (gs : List Sent) (p q : Sent) → Der gs (Iff p q) → Der gs p → Der gs q
iff_elim gs p q h k = plain gs (Iff p q ∷ p ∷ []) r.IffElim q (λ e. cc) refl (λ os. tt) (h, (k, tt)) (and_parts _ _ (sym (stated_iff p q []) ∙ der_stated gs (Iff p q) h)).1 (inl refl)

pub iff_back : (gs : List Sent) (p q : Sent) → Der gs (Iff p q) → Der gs q → Der gs p
iff_back gs p q h k = plain gs (Iff p q ∷ q ∷ []) r.IffElim p (λ e. cc) refl (λ os. tt) (h, (k, tt)) (and_parts _ _ (sym (stated_iff p q []) ∙ der_stated gs (Iff p q) h)).0 (inr refl)

-- What is derivable need not be given.
pub cut : (gs : List Sent) (p s : Sent) → Der gs p → Der (p ∷ gs) s → Der gs s
cut gs p s h k = if_elim gs p s (if_intro gs p s k (der_stated gs p h)) h

pub cuts : (gs ps : List Sent) (s : Sent) → AllByRecursion (λ p. Der gs p) ps → Der (ps ++ gs) s → Der gs s
cuts gs [] s h k = k
cuts gs (p ∷ ps) s h k = cuts gs ps s h.1 (cut (ps ++ gs) p s (weaken_before ps gs p h.0) k)
