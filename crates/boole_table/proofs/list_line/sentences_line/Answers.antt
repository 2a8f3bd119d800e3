use Rattle.std.proofs.Common.{◌≡◌, arith, sym, subst, ◌∙◌, IsTrue, true≢false}
use Rattle.boole_table.specs.Asked.{SuitSentences}
use Rattle.boole_table.specs.ListLines.{sentences_word, AreSentences}
use Rattle.boole_table.specs.Readers.{asked_by}
use Rattle.boole_table.proofs.Listing.{behind_once, sentences_once, found_sentences}
use Rattle.boole_table.proofs.Lining.{behind_fits}
use Rattle.boole_table.proofs.list_line.sentences_line.Goals as goal

pub returns-in_default : goal.returns-in_default
returns-in_default c = λ ss h. c.in_default.ensures.value h.text h.behind

pub read_sentences-requires : goal.read_sentences-requires
read_sentences-requires c = omega (arith, behind_fits sentences_word c.args.line.now c.in-Some.text.now c.in-Some.ensures.value, c.requires)

pub returns-else-suit_sentences : goal.returns-else-suit_sentences
returns-else-suit_sentences c = λ xs h.
    let t = behind_once sentences_word c.args.line.now h.text c.in-Some.text.now h.behind c.in-Some.ensures.value in
    let e : xs ≡ c.in-Some-2.sentences = sentences_once c.in-Some.text.now xs c.in-Some-2.sentences (subst (λ u. AreSentences u xs) t h.are) (found_sentences c.in-Some.text.now c.in_ok-sentences.field-0 c.in-Some-2.sentences c.in-Some-2.is c.in_ok-sentences.ensures) in
    let y : IsTrue c.suit_sentences.result = c.suit_sentences.ensures.1 (subst (SuitSentences (asked_by c.args.asked)) (e ∙ sym c.as_slice.ensures.value) h.suit) in
    true≢false (sym y ∙ c.if-suit_sentences.false)
