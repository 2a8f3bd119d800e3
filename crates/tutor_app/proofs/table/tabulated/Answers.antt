use Rattle.std.proofs.Common.{◌≡◌, length, sym, ◌∙◌}
use Rattle.boole_table.specs.declared.fault.TableFault.TheVariants.{TooManyLetters}
use Rattle.tutor_app.proofs.Tabulating.{none_listed, made_listed, letters_named}
use Rattle.tutor_app.proofs.table.tabulated.Goals as goal

pub returns-then-len-eq0 : goal.returns-then-len-eq0
returns-then-len-eq0 c =
    let none : length c.args.sentences.now ≡ 0 = sym c.len.ensures.value ∙ c.if-len-eq0.true in
    record { reply = none_listed c.args.sentences.now c.no_sentence_reply.result none c.no_sentence_reply.ensures.reply }

pub returns-in_ok-print_table-in-Ok : goal.returns-in_ok-print_table-in-Ok
returns-in_ok-print_table-in-Ok c =
    record { reply = made_listed c.args.sentences.now c.in-Ok.table c.in_ok-print_table-in-Ok.field-0 (λ e. c.if-len-eq0.false (c.len.ensures.value ∙ e)) c.in-Ok.ensures.made c.in-Ok.ensures.many c.in_ok-print_table-in-Ok.ensures.text }

pub returns-in-Err-TooManyLetters : goal.returns-in-Err-TooManyLetters
returns-in-Err-TooManyLetters c =
    let named : c.in-Err-TooManyLetters.field-0 ≡ TooManyLetters c.in-Err-TooManyLetters.count = cc in
    record { reply = letters_named c.args.sentences.now c.in-Err-TooManyLetters.field-0 c.in-Err-TooManyLetters.count c.letters_reply.result (λ e. c.if-len-eq0.false (c.len.ensures.value ∙ e)) named c.in-Err-TooManyLetters.ensures.few c.in-Err-TooManyLetters.ensures.many c.letters_reply.ensures.reply }
