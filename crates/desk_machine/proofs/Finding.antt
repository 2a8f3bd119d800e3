-- The first that passes, in two lists one after the other.
use Rattle.std.proofs.Common.{◌≡◌, ℕ, ◌+◌, ◌<◌, List, ◌++◌, length, get_or, drop, Bool, ap, sym, ◌∙◌}
use Rattle.std.specs.Prelude.{Some, None, flat_map}
use Rattle.std.proofs.lemmas.List.{drop_more}
use Rattle.desk_keeper.specs.declared.rows.OrderRow.{OrderRow}
use Rattle.desk_keeper.specs.declared.rows.SubmissionRow.{SubmissionRow}
use Rattle.desk_machine.specs.declared.jobs.Job.{Job}
use Rattle.desk_machine.specs.Jobs.{ordered_jobs}
use Rattle.std.specs.List.{find}
use Rattle.std.specs.Option.{option_or}
use Rattle.std.specs.declared.option.Option.{Option}
use Rattle.std.proofs.lemmas.List.Folds.{find-append}

-- It is in the first list.
pub found_in_first : {X : Type 0} (p : X → Bool) (xs ys : List X) (x : X) → find p xs ≡ Some x → find p (xs ++ ys) ≡ Some x
found_in_first p xs ys x e = find-append p xs ys ∙ ap (λ o. option_or o (find p ys)) e

-- It isn't in the first list.
pub found_in_second : {X : Type 0} (p : X → Bool) (xs ys : List X) → find p xs ≡ None → find p (xs ++ ys) ≡ find p ys
found_in_second p xs ys e = find-append p xs ys ∙ ap (λ o. option_or o (find p ys)) e

-- The jobs of an order, and then those of the later orders.
first_of : (ready : Job → Bool) (rows : List SubmissionRow) (orders : List OrderRow) (i : ℕ) (order : OrderRow) → i < length orders → order ≡ get_or orders i order →
    find ready (flat_map (λ o. ordered_jobs o 1 rows) (drop i orders))
    ≡ option_or (find ready (ordered_jobs order 1 rows)) (find ready (flat_map (λ o. ordered_jobs o 1 rows) (drop (i + 1) orders)))
first_of ready rows orders i order here is =
    ap (λ os. find ready (flat_map (λ o. ordered_jobs o 1 rows) os)) (drop_more orders i order here)
    ∙ find-append ready (ordered_jobs (get_or orders i order) 1 rows) (flat_map (λ o. ordered_jobs o 1 rows) (drop (i + 1) orders))
    ∙ ap (λ (o : OrderRow). option_or (find ready (ordered_jobs o 1 rows)) (find ready (flat_map (λ o. ordered_jobs o 1 rows) (drop (i + 1) orders)))) (sym is)

pub found_in_order : (ready : Job → Bool) (rows : List SubmissionRow) (orders : List OrderRow) (i : ℕ) (order : OrderRow) (job : Job) → i < length orders → order ≡ get_or orders i order →
    find ready (ordered_jobs order 1 rows) ≡ Some job → find ready (flat_map (λ o. ordered_jobs o 1 rows) (drop i orders)) ≡ Some job
found_in_order ready rows orders i order job here is e = first_of ready rows orders i order here is
    ∙ ap (λ (found : Option Job). option_or found (find ready (flat_map (λ o. ordered_jobs o 1 rows) (drop (i + 1) orders)))) e

pub not_in_order : (ready : Job → Bool) (rows : List SubmissionRow) (orders : List OrderRow) (i : ℕ) (order : OrderRow) → i < length orders → order ≡ get_or orders i order →
    find ready (ordered_jobs order 1 rows) ≡ None
    → find ready (flat_map (λ o. ordered_jobs o 1 rows) (drop i orders)) ≡ find ready (flat_map (λ o. ordered_jobs o 1 rows) (drop (i + 1) orders))
not_in_order ready rows orders i order here is e = first_of ready rows orders i order here is
    ∙ ap (λ (found : Option Job). option_or found (find ready (flat_map (λ o. ordered_jobs o 1 rows) (drop (i + 1) orders)))) e
