-- A valid tree shows what is read off it.
use Rattle.std.proofs.Common.{◌≡◌, sym, subst, Result, Ok, Err, IfOk, Contains}
use Rattle.deriv_laws.specs.declared.tree.Tree.{Tree}
use Rattle.deriv_laws.specs.declared.tree.Concl.{Concl}
use Rattle.deriv_laws.specs.Trees.{concl, undischarged}
use Rattle.deriv_laws.specs.Valid.{IsValid}
use Rattle.deriv_laws.specs.Derivable.{Der}
use Rattle.deriv_laws.proofs.Members.{all_given}

pub shows : {E : Type 0} (r : Result Concl E) (t : Tree) → IsValid t → IfOk r (λ c. c.conclusion ≡ concl t) → IfOk r (λ c. c.assumptions ≡ undischarged t) → IfOk r (λ c. Der c.assumptions c.conclusion)
shows (Ok c) t v e f = record {
  tree = t;
  valid = v;
  concludes = sym e;
  within = all_given (λ s. Contains c.assumptions s) (undischarged t) (λ x h. subst (λ gs. Contains gs x) (sym f) h);
}
shows (Err e) t v h k = tt
