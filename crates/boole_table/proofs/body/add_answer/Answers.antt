use Rattle.std.proofs.Common.{refl, inr, ◌≡◌, List, ℕ, ◌∷◌}
use Rattle.boole_table.proofs.TableOnce.{first_no_row, begins_first}
use Rattle.boole_table.proofs.body.add_answer.Goals as goal

pub returns-in-None-clause-refused : goal.returns-in-None-clause-refused
returns-in-None-clause-refused c =
    let b : (bs : List ℕ) × (c.args.line.now ≡ 97 ∷ bs) = begins_first c.args.line.now c.requires in
    inr (
      refl,
      record {
        no_row = λ row h. first_no_row c.args.form.letters c.args.form.sentences c.args.line.now b.0 row b.1 h.is;
        no_answer = λ answer h. c.in-None.ensures.value answer h.is;
      },
    )
