use Rattle.std.proofs.Common.{refl}
use Rattle.fol_text.proofs.Lexed.{passed, shorter, all_lexed, no_bytes}
use Rattle.fol_text.proofs.lexer.tokens.Goals as goal

pub loop-rest-smaller : goal.loop-rest-smaller
loop-rest-smaller c =
    let (ks, (put, passes)) = c.in_ok-rest.ensures.passes in
    shorter passes

pub loop-rest-preserved : goal.loop-rest-preserved
loop-rest-preserved c =
    let (ks, (put, passes)) = c.in_ok-rest.ensures.passes in
    passed _ c.loop-rest.rest.now ks c.in_ok-rest.rest.now c.args.text.now c.loop-rest.found c.turn.new.found passes c.loop-rest.invariant refl put

pub returns-clause-tokens : goal.returns-clause-tokens
returns-clause-tokens c = all_lexed c.args.text.now c.loop-rest.found c.loop-rest.rest.now c.loop-rest.invariant (no_bytes c.loop-rest.rest.now c.is_empty.result c.is_empty.ensures c.loop-rest-test.false)
