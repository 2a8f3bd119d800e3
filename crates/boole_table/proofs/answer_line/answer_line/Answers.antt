use Rattle.boole_table.proofs.answer_line.answer_line.Goals as goal

pub returns-in_default : goal.returns-in_default
returns-in_default c = record { value = λ answer h. c.in_default.ensures.value h.text h.behind }
