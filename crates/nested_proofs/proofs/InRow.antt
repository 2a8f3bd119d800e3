-- Derivations along instances in a row.
use Rattle.std.proofs.Common.{ℕ, zero, suc, List, IsTrue, sym, subst}
use Rattle.fol_core.specs.declared.sent.Sent.{Sent}
use Rattle.fol_core.specs.declared.sent.Sent.TheVariants.{Ex}
use Rattle.fol_core.specs.Statements.{statement}
use Rattle.fol_core.specs.Subst.{subst_closed_term}
use Rattle.fol_core.proofs.Instances.{ex_instance}
use Rattle.deriv_laws.specs.Derivable.{Der}
use Rattle.deriv_laws.proofs.Quantifiers.{all_elim, ex_intro}
use Rattle.nested_proofs.specs.Rules.{AllInstance, ExInstance, InRow}

-- down a row of universal instances
pub all_row : (n : ℕ) (gs : List Sent) (q s : Sent) → Der gs q → InRow AllInstance n q s → Der gs s
all_row zero gs q s h w = subst (λ z. Der gs z) w h
all_row (suc n) gs q s h w =
    let i : AllInstance q w.0 = w.1 in
    let m : Der gs (subst_closed_term i.x i.a i.p) = all_elim gs i.x i.a i.p i.is_ground (subst (λ z. Der gs z) i.whole h) in
    all_row n gs w.0 s (subst (λ z. Der gs z) (sym i.instance) m) w.2

-- up a row of existential instances
pub ex_row : (n : ℕ) (gs : List Sent) (s q : Sent) → IsTrue (statement s) → Der gs q → InRow ExInstance n s q → Der gs s
ex_row zero gs s q c h w = subst (λ z. Der gs z) (sym w) h
ex_row (suc n) gs s q c h w =
    let i : ExInstance s w.0 = w.1 in
    let d : IsTrue (statement (Ex i.x i.p)) = subst (λ z. IsTrue (statement z)) i.whole c in
    let f : IsTrue (statement w.0) = subst (λ z. IsTrue (statement z)) (sym i.instance) (ex_instance i.x i.a i.p i.is_ground d) in
    let m : Der gs (subst_closed_term i.x i.a i.p) = subst (λ z. Der gs z) i.instance (ex_row n gs w.0 q f h w.2) in
    subst (λ z. Der gs z) (sym i.whole) (ex_intro gs i.x i.a i.p i.is_ground m d)
