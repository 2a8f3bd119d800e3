use Rattle.std.proofs.Common.{◌≡◌, ◌∷◌, ap, sym, ◌∙◌, rules}
use Rattle.std.specs.List.{list_any}
use Rattle.deriv_laws.specs.Discharge.{alike}
use Rattle.deriv_laws.specs.declared.discharge.Dropped.{the_lemmas}
use Rattle.deriv_laws.specs.Dropped.{removed, sentences}
use Rattle.deriv_laws.proofs.Discharging.{dropped_first, dropped_later}
use Rattle.deriv_laws.proofs.discharge.+is_dropped.Goals as goal

pub returns-then-is_removed : goal.returns-then-is_removed
returns-then-is_removed t c =
    let all : sentences c.args.dropped.now ≡ removed c.in-More.d ∷ sentences c.in-More.rest.now = search (rules, the_lemmas) in
    record {
      value = c.if-is_removed.true ∙ dropped_first (removed c.in-More.d) c.args.s.now (sentences c.in-More.rest.now) (search rules) ∙ ap (λ ds. list_any (λ d. alike d c.args.s.now) ds) (sym all);
    }

pub returns-else-is_removed : goal.returns-else-is_removed
returns-else-is_removed t c =
    let all : sentences c.args.dropped.now ≡ removed c.in-More.d ∷ sentences c.in-More.rest.now = search (rules, the_lemmas) in
    record {
      value = c.is_dropped.ensures.value ∙ dropped_later (removed c.in-More.d) c.args.s.now (sentences c.in-More.rest.now) (search rules) ∙ ap (λ ds. list_any (λ d. alike d c.args.s.now) ds) (sym all);
    }
