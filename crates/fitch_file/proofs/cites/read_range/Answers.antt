use Rattle.std.proofs.Common.{◌≡◌, sym, subst}
use Rattle.fitch_file.specs.Cites.{IsRange, subproof_cite}
use Rattle.fitch_file.specs.Readers.{Finds}
use Rattle.deriv_laws.specs.declared.line.Cite.{Cite}
use Rattle.fitch_file.proofs.Citing.{no_range_front, no_range_back, no_range_order}
use Rattle.fitch_file.proofs.cites.read_range.Goals as goal

pub returns-in_err-first : goal.returns-in_err-first
returns-in_err-first c =
    subst (Finds (λ (x : Cite). IsRange c.args.text.now x.first x.last × (x ≡ subproof_cite x.first x.last))) (sym c.from_residual-in_err-first.ensures)
    (λ x h. no_range_front c.args.text.now c.in_ok-front.front.now c.in_ok-front.back.now x.first x.last c.in_ok-front.ensures.value c.in_err-first.ensures.value h.0)

pub returns-in_err-last : goal.returns-in_err-last
returns-in_err-last c =
    subst (Finds (λ (x : Cite). IsRange c.args.text.now x.first x.last × (x ≡ subproof_cite x.first x.last))) (sym c.from_residual-in_err-last.ensures)
    (λ x h. no_range_back c.args.text.now c.in_ok-front.front.now c.in_ok-front.back.now x.first x.last c.in_ok-front.ensures.value c.in_err-last.ensures.value h.0)

pub returns-then-first-last : goal.returns-then-first-last
returns-then-first-last c = λ x h.
    no_range_order c.args.text.now c.in_ok-front.front.now c.in_ok-front.back.now c.in_ok-first.first c.in_ok-last.last x.first x.last c.in_ok-front.ensures.value c.in_ok-first.ensures.value c.in_ok-last.ensures.value c.if-first-last.true h.0
