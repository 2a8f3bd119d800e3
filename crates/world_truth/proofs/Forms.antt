-- What the definitions say of each form of sentence: one equation a form.
use Rattle.std.proofs.Common.{◌≡◌, List, false, not, map, ◌∙◌, rules}
use Rattle.std.specs.Prelude.{◌||◌, ◌==◌}
use Rattle.std.specs.List.{list_any, list_all}
use Rattle.fol_core.specs.declared.sent.Sent.{Sent, the_lemmas}
use Rattle.fol_core.specs.declared.sent.Sent.TheVariants as s
use Rattle.fol_core.specs.declared.sent.Term.{Term}
use Rattle.fol_core.specs.Subst.{itself}
use Rattle.fol_core.specs.Word.{Word}
use Rattle.worlds.specs.declared.block.Block.{Block}
use Rattle.worlds.specs.Predicates.{predicate_of, is_true_of}
use Rattle.worlds.specs.Worlds.{numbers}
use Rattle.worlds.specs.Assignments.{Assignment, number_at, put, block_of}
use Rattle.worlds.specs.Truth.{val, val_under, are_alike}
use Rattle.world_truth.specs.Answers.{in_blocks, all_borne}
use Rattle.world_truth.proofs.Parts.{all_itself, all_applied, any_applied}

pub val_atom : (w : List Block) (a : Assignment) (p : Word) (ts : List Term) → val w a (s.Atom p ts) ≡ is_true_of (predicate_of p) (map (block_of w a) ts)
val_atom w a p ts = search (rules, the_lemmas)

pub val_eq : (w : List Block) (a : Assignment) (t u : Term) → val w a (s.Eq t u) ≡ (number_at a t == number_at a u)
val_eq w a t u = search (rules, the_lemmas)

pub val_bottom : (w : List Block) (a : Assignment) → val w a s.Bottom ≡ false
val_bottom w a = search (rules, the_lemmas)

pub val_not : (w : List Block) (a : Assignment) (p : Sent) → val w a (s.Not p) ≡ not (val w a p)
val_not w a p = search (rules, the_lemmas)

pub val_and : (w : List Block) (a : Assignment) (parts : List Sent) → val w a (s.And parts) ≡ list_all (val w a) parts
val_and w a parts = let e : val w a (s.And parts) ≡ list_all (λ g. g a) (map (val_under w) parts) = search (rules, the_lemmas) in e ∙ all_applied (val_under w) a parts

pub val_or : (w : List Block) (a : Assignment) (parts : List Sent) → val w a (s.Or parts) ≡ list_any (val w a) parts
val_or w a parts = let e : val w a (s.Or parts) ≡ list_any (λ g. g a) (map (val_under w) parts) = search (rules, the_lemmas) in e ∙ any_applied (val_under w) a parts

pub val_if : (w : List Block) (a : Assignment) (p q : Sent) → val w a (s.If p q) ≡ (not (val w a p) || val w a q)
val_if w a p q = search (rules, the_lemmas)

pub val_iff : (w : List Block) (a : Assignment) (p q : Sent) → val w a (s.Iff p q) ≡ are_alike (val w a p) (val w a q)
val_iff w a p q = search (rules, the_lemmas)

pub val_all : (w : List Block) (a : Assignment) (x : Word) (p : Sent) → val w a (s.All x p) ≡ list_all (λ k. val w (put x k a) p) (numbers w)
val_all w a x p = search (rules, the_lemmas)

pub val_ex : (w : List Block) (a : Assignment) (x : Word) (p : Sent) → val w a (s.Ex x p) ≡ list_any (λ k. val w (put x k a) p) (numbers w)
val_ex w a x p = search (rules, the_lemmas)

pub blocks_and : (parts : List Sent) → in_blocks (s.And parts) ≡ list_all in_blocks parts
blocks_and parts = let e : in_blocks (s.And parts) ≡ list_all itself (map in_blocks parts) = search (rules, the_lemmas) in e ∙ all_itself in_blocks parts

pub blocks_or : (parts : List Sent) → in_blocks (s.Or parts) ≡ list_all in_blocks parts
blocks_or parts = let e : in_blocks (s.Or parts) ≡ list_all itself (map in_blocks parts) = search (rules, the_lemmas) in e ∙ all_itself in_blocks parts

pub borne_and : (w : List Block) (parts : List Sent) → all_borne w (s.And parts) ≡ list_all (all_borne w) parts
borne_and w parts = let e : all_borne w (s.And parts) ≡ list_all itself (map (all_borne w) parts) = search (rules, the_lemmas) in e ∙ all_itself (all_borne w) parts

pub borne_or : (w : List Block) (parts : List Sent) → all_borne w (s.Or parts) ≡ list_all (all_borne w) parts
borne_or w parts = let e : all_borne w (s.Or parts) ≡ list_all itself (map (all_borne w) parts) = search (rules, the_lemmas) in e ∙ all_itself (all_borne w) parts
