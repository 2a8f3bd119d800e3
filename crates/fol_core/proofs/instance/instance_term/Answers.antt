use Rattle.std.proofs.Common.{◌≡◌, ◌∙◌, inl, inr, ◌⊎◌, Bor}
use Rattle.std.specs.Prelude.{MatchOption, Option, Some, None}
use Rattle.std.specs.Option.{option_copied}
use Rattle.fol_core.specs.declared.sent.Term.{Term}
use Rattle.fol_core.specs.Subst.{subst_closed_term}
use Rattle.fol_core.proofs.NamesAlone.{term_alone}
use Rattle.fol_core.proofs.instance.instance_term.Goals as goal

fits : (P : Term → Type 0) (o : Option (Bor Term)) (r : Option Term) (n : Term) → option_copied o ≡ r → (r ≡ Some n) ⊎ ((r ≡ None) × ((m : Term) → P m)) →
    MatchOption o ((m : Term) → P m) (λ term. term.now ≡ n)
fits P None r n k (inl e) = let w = k ∙ e in cc
fits P None r n k (inr (e, u)) = u
fits P (Some b) r n k (inl e) = let w = k ∙ e in cc
fits P (Some b) r n k (inr (e, u)) = let w = k ∙ e in cc

pub returns : goal.returns
returns c = record { alone = λ n h. fits (λ m. c.args.s.now ≡ subst_closed_term c.args.x.now m c.args.q.now) _ _ n c.instance_term_at.ensures.value (term_alone c.args.x.now n c.args.q.now c.args.s.now h); read = c.instance_term_at.ensures.value }
