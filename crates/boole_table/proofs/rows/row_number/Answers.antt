use Rattle.std.proofs.Common.{◌≡◌, ◌+◌, ◌*◌, ◌^◌, ◌++◌, ◌∷◌, [], sym, ap, ap₂, ◌∙◌, arith, add-one}
use Rattle.std.proofs.Math.Nat.{pow-succ'}
use Rattle.fol_core.proofs.Parts.{map_more}
use Rattle.taut_con.specs.Values.{valuation}
use Rattle.boole_table.proofs.RowNumbers.{row_step}
use Rattle.boole_table.proofs.rows.row_number.Goals as goal

pub loop-letter-preserved : goal.loop-letter-preserved
loop-letter-preserved c =
    let p : 2 ^ (c.loop-letter.letter-index + 1) ≡ 2 * 2 ^ c.loop-letter.letter-index = ap (λ k. 2 ^ k) (add-one c.loop-letter.letter-index) ∙ pow-succ' 2 c.loop-letter.letter-index in
    record {
      below = omega (arith, c.half.ensures.below, c.loop-letter.invariant.below);
      row = row_step c.loop-letter.letter-index c.loop-letter.number c.half.result c.half.ensures.below
          ∙ ap₂ (λ xs b. xs ++ b ∷ []) c.loop-letter.invariant.row (c.half.ensures.value ∙ c.value_beside.ensures.value)
          ∙ sym (map_more (valuation c.args.columns.now c.args.values.now) c.args.letters.now c.loop-letter.letter-index c.letter-item.result c.loop-letter-test.true c.letter-item.is);
    }
