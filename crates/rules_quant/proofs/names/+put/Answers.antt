use Rattle.std.proofs.Common.{ap, sym, ◌∙◌}
use Rattle.std.specs.Prelude.{List, map}
use Rattle.fol_core.specs.declared.sent.Sent.{Sent}
use Rattle.fol_core.specs.declared.sent.Sent.TheVariants.{And, Or}
use Rattle.fol_core.proofs.Forms.{and_parts, or_parts}
use Rattle.rules_quant.specs.Naming.{put, entries}
use Rattle.rules_quant.proofs.Putting.{put_and, put_or}
use Rattle.rules_quant.proofs.names.+put.Goals as goal

pub is_put-returns-in-And-And : goal.is_put-returns-in-And-And
is_put-returns-in-And-And t c =
    let es = entries c.args.names.now in
    let whole = ap (λ (q : Sent). put q es) c.in-And-And.is-0 ∙ put_and c.in-And-And.a es in
    let part = c.as_slice-in-And-And-2.ensures.value in
    let from = ap (λ (qs : List Sent). map (λ q. put q es) qs) c.as_slice-in-And-And.ensures.value in
    record {
      value = (
        (λ h. c.in-And-And.is-1 ∙ ap And (sym part ∙ c.are_put.ensures.value.0 h ∙ from) ∙ sym whole),
        (λ h. c.are_put.ensures.value.1 (part ∙ and_parts (sym c.in-And-And.is-1 ∙ h ∙ whole) ∙ sym from)),
      );
    }

pub is_put-returns-in-Or-Or : goal.is_put-returns-in-Or-Or
is_put-returns-in-Or-Or t c =
    let es = entries c.args.names.now in
    let whole = ap (λ (q : Sent). put q es) c.in-Or-Or.is-0 ∙ put_or c.in-Or-Or.a es in
    let part = c.as_slice-in-Or-Or-2.ensures.value in
    let from = ap (λ (qs : List Sent). map (λ q. put q es) qs) c.as_slice-in-Or-Or.ensures.value in
    record {
      value = (
        (λ h. c.in-Or-Or.is-1 ∙ ap Or (sym part ∙ c.are_put-in-Or-Or.ensures.value.0 h ∙ from) ∙ sym whole),
        (λ h. c.are_put-in-Or-Or.ensures.value.1 (part ∙ or_parts (sym c.in-Or-Or.is-1 ∙ h ∙ whole) ∙ sym from)),
      );
    }
