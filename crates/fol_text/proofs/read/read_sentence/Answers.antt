-- Each refusal is the first one of the text, and what is read is what the text spells.
use Rattle.std.proofs.Common.{refl}
use Rattle.std.proofs.lemmas.Result.{err_from_is_err_and}
use Rattle.fol_text.proofs.Answering.{long_refused, byte_refused, stop_refused, unfit_refused, is_readable, exact_fault, exact_sentence}
use Rattle.fol_text.proofs.read.read_sentence.Goals as goal

pub returns-then-text-gt-MOST_BYTES-clause-refused : goal.returns-then-text-gt-MOST_BYTES-clause-refused
returns-then-text-gt-MOST_BYTES-clause-refused c = long_refused c.args.text.now c.if-text-gt-MOST_BYTES.true

pub returns-in_err-tokens-clause-exact : goal.returns-in_err-tokens-clause-exact
returns-in_err-tokens-clause-exact c =
    let p = err_from_is_err_and c.from_residual-in_err-tokens.result c.from_residual-in_err-tokens.ensures.1 in
    rw (p.1, p.2)
    (exact_fault c.args.text.now c.in_err-tokens.field-0.0 (byte_refused c.args.text.now c.in_err-tokens.field-0.0 c.if-text-gt-MOST_BYTES.false c.in_err-tokens.ensures.bad))

pub returns-in_err-tokens-clause-refused : goal.returns-in_err-tokens-clause-refused
returns-in_err-tokens-clause-refused c =
    let p = err_from_is_err_and c.from_residual-in_err-tokens.result c.from_residual-in_err-tokens.ensures.1 in
    rw (p.1, p.2) (byte_refused c.args.text.now c.in_err-tokens.field-0.0 c.if-text-gt-MOST_BYTES.false c.in_err-tokens.ensures.bad)

pub returns-in_err-sentence-clause-exact : goal.returns-in_err-sentence-clause-exact
returns-in_err-sentence-clause-exact c =
    let p = err_from_is_err_and c.from_residual-in_err-sentence.result c.from_residual-in_err-sentence.ensures.1 in
    rw (p.1, p.2)
    (exact_fault c.args.text.now c.in_err-sentence.field-0.0
    (stop_refused c.args.text.now c.in_ok-tokens.tokens c.as_slice.result.now c.in_err-sentence.field-0.0 c.if-text-gt-MOST_BYTES.false c.in_ok-tokens.ensures.tokens c.as_slice.ensures.value c.in_err-sentence.ensures.fault))

pub returns-in_err-sentence-clause-refused : goal.returns-in_err-sentence-clause-refused
returns-in_err-sentence-clause-refused c =
    let p = err_from_is_err_and c.from_residual-in_err-sentence.result c.from_residual-in_err-sentence.ensures.1 in
    rw (p.1, p.2)
    (stop_refused c.args.text.now c.in_ok-tokens.tokens c.as_slice.result.now c.in_err-sentence.field-0.0 c.if-text-gt-MOST_BYTES.false c.in_ok-tokens.ensures.tokens c.as_slice.ensures.value c.in_err-sentence.ensures.fault)

pub returns-in_err-fit-clause-exact : goal.returns-in_err-fit-clause-exact
returns-in_err-fit-clause-exact c =
    let p = err_from_is_err_and c.from_residual-in_err-fit.result c.from_residual-in_err-fit.ensures.1 in
    rw (p.1, p.2)
    (exact_fault c.args.text.now c.in_err-fit.field-0.0
    (unfit_refused c.args.text.now c.in_ok-tokens.tokens c.as_slice.result.now c.as_slice-2.result.now c.in_ok-sentence.sentence c.in_err-fit.field-0.0 c.if-text-gt-MOST_BYTES.false c.in_ok-tokens.ensures.tokens
    c.as_slice.ensures.value c.as_slice-2.ensures.value c.in_ok-sentence.ensures.read c.in_err-fit.ensures.fault))

pub returns-in_err-fit-clause-refused : goal.returns-in_err-fit-clause-refused
returns-in_err-fit-clause-refused c =
    let p = err_from_is_err_and c.from_residual-in_err-fit.result c.from_residual-in_err-fit.ensures.1 in
    rw (p.1, p.2)
    (unfit_refused c.args.text.now c.in_ok-tokens.tokens c.as_slice.result.now c.as_slice-2.result.now c.in_ok-sentence.sentence c.in_err-fit.field-0.0 c.if-text-gt-MOST_BYTES.false c.in_ok-tokens.ensures.tokens
    c.as_slice.ensures.value c.as_slice-2.ensures.value c.in_ok-sentence.ensures.read c.in_err-fit.ensures.fault)

pub returns-clause-exact : goal.returns-clause-exact
returns-clause-exact c =
    exact_sentence c.args.text.now c.in_ok-sentence.sentence
    (is_readable c.args.text.now c.in_ok-tokens.tokens c.as_slice.result.now c.in_ok-sentence.sentence c.if-text-gt-MOST_BYTES.false c.in_ok-tokens.ensures.tokens c.as_slice.ensures.value c.in_ok-sentence.ensures.read (c.in_ok-fit.ensures.fits refl))

pub returns-in-Some-clause-exact : goal.returns-in-Some-clause-exact
returns-in-Some-clause-exact c = exact_sentence c.args.text.now c.in-Some.found (rw c.in-Some.is at c.in_ok-found.ensures.read)
