-- What the answer Yes shows.
use Rattle.std.specs.Prelude.{◌≡◌, IsTrue, List}
use Rattle.fol_core.specs.declared.sent.Sent.{Sent}
use Rattle.fol_core.specs.Statements.{statement, AreStatements}
use Rattle.deriv_laws.specs.Derivable.{Der}
use Rattle.taut_con.specs.declared.answer.TautAnswer.TheVariants.{Yes}
use Rattle.taut_con.specs.Answer.{taut_answer}

-- A goal that is a tautological consequence of premises is derivable from them by the rules of natural deduction, where
-- all are statements.
abbrev pub YesIsDerivable : Type 0
YesIsDerivable = (ps : List Sent) (g : Sent) → AreStatements ps → IsTrue (statement g) → taut_answer ps g ≡ Yes → Der ps g
