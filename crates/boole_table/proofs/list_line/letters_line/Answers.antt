use Rattle.std.proofs.Common.{◌≡◌, arith, sym, subst, ◌∙◌, IsTrue, true≢false}
use Rattle.boole_table.specs.Asked.{SuitLetters}
use Rattle.boole_table.specs.ListLines.{letters_word, AreLetters}
use Rattle.boole_table.specs.Readers.{asked_by}
use Rattle.boole_table.proofs.Listing.{behind_once, letters_once, found_letters}
use Rattle.boole_table.proofs.Lining.{behind_fits}
use Rattle.boole_table.proofs.list_line.letters_line.Goals as goal

pub returns-in_default : goal.returns-in_default
returns-in_default c = λ ls h. c.in_default.ensures.value h.text h.behind

pub read_letters-requires : goal.read_letters-requires
read_letters-requires c = omega (arith, behind_fits letters_word c.args.line.now c.in-Some.text.now c.in-Some.ensures.value, c.requires)

pub returns-else-suit_letters : goal.returns-else-suit_letters
returns-else-suit_letters c = λ xs h.
    let t = behind_once letters_word c.args.line.now h.text c.in-Some.text.now h.behind c.in-Some.ensures.value in
    let e : xs ≡ c.in-Some-2.letters = letters_once c.in-Some.text.now xs c.in-Some-2.letters (subst (λ u. AreLetters u xs) t h.are) (found_letters c.in-Some.text.now c.in_ok-letters.field-0 c.in-Some-2.letters c.in-Some-2.is c.in_ok-letters.ensures) in
    let y : IsTrue c.suit_letters.result = c.suit_letters.ensures.1 (subst (SuitLetters (asked_by c.args.asked)) (e ∙ sym c.as_slice.ensures.value) h.suit) in
    true≢false (sym y ∙ c.if-suit_letters.false)
