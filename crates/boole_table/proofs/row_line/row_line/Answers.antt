use Rattle.std.proofs.Common.{◌≡◌, sym, ap, ◌∙◌, length}
use Rattle.boole_table.specs.declared.table.TableRow.{TableRow}
use Rattle.boole_table.proofs.Rowing.{bytes_once, found_row}
use Rattle.boole_table.proofs.row_line.row_line.Goals.{else-len-letters-via-then-len-letters+else-len-sentences, else-len-letters-via-else-len-letters}
use Rattle.boole_table.proofs.row_line.row_line.Goals as goal

pub returns-then-len-sentences : goal.returns-then-len-sentences
returns-then-len-sentences c = record {
  begins = sym c.is_indented.ensures ∙ c.if-is_indented.false;
  bytes = found_row c.args.line.now c.in_ok-row.field-0 c.in-Some.row c.in-Some.is c.in_ok-row.ensures;
  letters_are = sym c.len.ensures.value ∙ c.if-len-letters.true;
  sentences_are = sym c.len-then-len-letters.ensures.value ∙ c.if-len-sentences.true;
}

pub returns-else-len-letters : goal.returns-else-len-letters
returns-else-len-letters c = λ row h.
    let e : c.in-Some.row ≡ row = bytes_once c.in-Some.row row (sym (found_row c.args.line.now c.in_ok-row.field-0 c.in-Some.row c.in-Some.is c.in_ok-row.ensures) ∙ h.bytes) in
    elim c.else-len-letters.branch [
      | else-len-letters-via-then-len-letters+else-len-sentences w ↦ w.if-len-sentences.false (w.len-then-len-letters.ensures.value ∙ ap (λ (r : TableRow). length r.sentences) e ∙ h.sentences_are)
      | else-len-letters-via-else-len-letters w ↦ w.if-len-letters.false (c.len.ensures.value ∙ ap (λ (r : TableRow). length r.letters) e ∙ h.letters_are)
    ]
