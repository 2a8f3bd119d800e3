-- What the definitions say of each form of term.
use Rattle.std.proofs.Common.{◌≡◌, List, map, ◌∙◌, ap, sym, rules}
use Rattle.std.specs.List.{list_all}
use Rattle.fol_core.specs.Word.{Word}
use Rattle.fol_core.specs.Subst.{itself}
use Rattle.fol_core.specs.declared.sent.Term.{Term, the_lemmas}
use Rattle.fol_core.specs.declared.sent.Term.TheVariants.{Var, Name, App}
use Rattle.worlds.specs.declared.block.Block.{Block}
use Rattle.world_truth.specs.Answers.{has_block}
use Rattle.worlds.specs.Assignments.{Assignment, number_at, variable_at, name_at, value_for}
use Rattle.world_truth.proofs.Parts.{all_itself}

pub number_var : (a : Assignment) (x : Word) → number_at a (Var x) ≡ variable_at a x
number_var a x = search (rules, the_lemmas)

pub number_name : (a : Assignment) (n : Word) → number_at a (Name n) ≡ name_at a n
number_name a n = search (rules, the_lemmas)

pub number_app : (a : Assignment) (g : Word) (ts : List Term) → number_at a (App g ts) ≡ value_for a.functions g (map (number_at a) ts)
number_app a g ts = search (rules, the_lemmas)

-- the number of a term of that form
pub is_variable : (a : Assignment) (t : Term) (x : Word) → t ≡ Var x → variable_at a x ≡ number_at a t
is_variable a t x e = sym (ap (number_at a) e ∙ number_var a x)

pub is_name : (a : Assignment) (t : Term) (n : Word) → t ≡ Name n → name_at a n ≡ number_at a t
is_name a t n e = sym (ap (number_at a) e ∙ number_name a n)

pub has_block_app : (w : List Block) (g : Word) (ts : List Term) → has_block w (App g ts) ≡ list_all (has_block w) ts
has_block_app w g ts = let e : has_block w (App g ts) ≡ list_all itself (map (has_block w) ts) = search (rules, the_lemmas) in e ∙ all_itself (has_block w) ts
