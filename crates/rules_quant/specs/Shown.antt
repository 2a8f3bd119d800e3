-- What a subproof about an arbitrary object shows, by its assumption and its conclusion.
use Rattle.std.specs.Prelude.{◌≡◌, ◌⊎◌, Option, Some, None}
use Rattle.fol_core.specs.declared.sent.Sent.{Sent}
use Rattle.fol_core.specs.declared.sent.Sent.TheVariants.{If, All, Ex}
use Rattle.fol_core.specs.Word.{Word}
use Rattle.fol_core.specs.Subst.{subst_name}
use Rattle.deriv_laws.specs.declared.line.Cite.{Cite}
use Rattle.deriv_laws.specs.declared.line.FlatLine.{FlatLine}
use Rattle.std.specs.Prelude.{List, [], ◌∷◌}
use Rattle.deriv_laws.specs.declared.rule.Rule.TheVariants as r
use Rattle.nested_proofs.specs.Scope.{Subproof}
use Rattle.nested_proofs.specs.Rules.{Follows}
use Rattle.nested_proofs.specs.ReadOff.{subproof_between}

-- The sentence that is there is the instance of q by c.
abbrev pub IsInstance : Option Sent → Sent → Word → Word → Type 0
IsInstance o q x c = o ≡ Some (subst_name x c q)

-- From the assumption's instance to the conclusion's, of a conditional.
abbrev pub IsConditional : Option Sent → Option Sent → Word → Word → Sent → Type 0
IsConditional hyp end c x p = (q : Sent) × (r : Sent) × (p ≡ If q r) × IsInstance hyp q x c × IsInstance end r x c

-- General proof without an assumption, or general conditional proof, of the matrix.
abbrev pub IsGeneral : Option Sent → Option Sent → Word → Word → Sent → Type 0
IsGeneral hyp end c x p = ((hyp ≡ None) × IsInstance end p x c) ⊎ IsConditional hyp end c x p

-- General proof of a universal sentence.
abbrev pub ShowsAll : Option Sent → Option Sent → Word → Sent → Type 0
ShowsAll hyp end c s = (x : Word) × (p : Sent) × (s ≡ All x p) × IsGeneral hyp end c x p

-- From the instance of an existential sentence to s.
abbrev pub ShowsFrom : Option Sent → Option Sent → Word → Sent → Sent → Type 0
ShowsFrom hyp end c p s = (x : Word) × (q : Sent) × (p ≡ Ex x q) × IsInstance hyp q x c × (end ≡ Some s)

-- The cited subproof is a general proof of s.
abbrev pub IsGeneralAt : List FlatLine → Cite → Sent → Type 0
IsGeneralAt lines c s = (b : Subproof) × (subproof_between lines c.first c.last ≡ Some b) × Follows r.AllIntro [] (b ∷ []) s

-- The cited subproof shows s from an instance of p.
abbrev pub IsFromInstanceAt : List FlatLine → Cite → Sent → Sent → Type 0
IsFromInstanceAt lines c p s = (b : Subproof) × (subproof_between lines c.first c.last ≡ Some b) × Follows r.ExElim (p ∷ []) (b ∷ []) s

-- By existential elimination s follows from the sentence and the subproof, which are there.
abbrev pub FollowsFrom : Option Sent → Option Subproof → Sent → Type 0
FollowsFrom o n s = (p : Sent) × (b : Subproof) × (o ≡ Some p) × (n ≡ Some b) × Follows r.ExElim (p ∷ []) (b ∷ []) s
