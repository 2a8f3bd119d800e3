use Rattle.std.proofs.Common.{[], ◌∷◌, refl, sym, inr}
use Rattle.std.proofs.lemmas.List.{append-nil}
use Rattle.fol_text.specs.Tokens.{placed}
use Rattle.fol_text.proofs.Lexed.{blank_passes, token_passes, none_is_bad}
use Rattle.fol_text.proofs.lexer.turn.Goals as goal

pub returns-in-Some-clause-passes : goal.returns-in-Some-clause-passes
returns-in-Some-clause-passes c =
    ([], (sym (append-nil c.args.found.now), blank_passes c.args.place c.args.rest.now c.in-Some.after.now c.in-Some.ensures.value))

pub returns-in_default-2-clause-bad : goal.returns-in_default-2-clause-bad
returns-in_default-2-clause-bad c =
    let none = rw c.in_default-2.is at c.in_ok-token.ensures.value in
    inr (refl, none_is_bad c.args.place c.args.rest.now c.requires c.in_default.ensures.value none)

pub returns-clause-passes : goal.returns-clause-passes
returns-clause-passes c =
    let found = rw c.in-Some-2.is at c.in_ok-token.ensures.value in
    (placed c.args.place c.in-Some-2.token ∷ [], (c.in_ok-add.ensures.ok, token_passes c.args.place c.args.rest.now c.in-Some-2.token c.in-Some-2.after.now found))
