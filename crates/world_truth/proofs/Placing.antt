-- Blocks given for variables, one by one.
use Rattle.std.proofs.Common.{◌≡◌, ℕ, ◌+◌, ◌<◌, List, [], ◌∷◌, ◌++◌, length, take, get_or, refl, sym, ap, ◌∙◌}
use Rattle.std.specs.Prelude.{if◌then◌else◌}
use Rattle.std.specs.Str.{bytes_eq}
use Rattle.std.proofs.lemmas.List.{take_more}
use Rattle.fol_core.specs.Word.{Word}
use Rattle.world_truth.specs.declared.answer.Place.{Place}
use Rattle.worlds.specs.declared.block.Block.{Block}
use Rattle.worlds.specs.Assignments.{Assignment, variable_at, name_at, put, own_names}
use Rattle.world_truth.specs.Places.{given}

given_last : (ps : List Place) (p : Place) (a : Assignment) → given (ps ++ p ∷ []) a ≡ put p.variable p.block (given ps a)
given_last [] p a = refl
given_last (q ∷ qs) p a = given_last qs p (put q.variable q.block a)

pub placed_step : (w : List Block) (ps : List Place) (i : ℕ) (p : Place) (x : Word) (n m : ℕ) → i < length ps → p ≡ get_or ps i p → n ≡ variable_at (given (take i ps) (own_names w)) x →
    m ≡ (if bytes_eq p.variable x then p.block else n) → m ≡ variable_at (given (take (i + 1) ps) (own_names w)) x
placed_step w ps i p x n m h e hn hm =
    hm ∙ ap (λ k. if bytes_eq p.variable x then p.block else k) hn
    ∙ sym (ap (λ a. variable_at a x) (ap (λ qs. given qs (own_names w)) (take_more ps i p h ∙ ap (λ q. take i ps ++ q ∷ []) (sym e)) ∙ given_last (take i ps) p (own_names w)))

-- no place stands for a name
pub given_name : (ps : List Place) (a : Assignment) (n : Word) → name_at (given ps a) n ≡ name_at a n
given_name [] a n = refl
given_name (q ∷ qs) a n = given_name qs (put q.variable q.block a) n
