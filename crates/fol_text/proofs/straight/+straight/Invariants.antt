use Rattle.std.proofs.Common.{◌≡◌, ◌≤◌, ◌+◌, ◌*◌, ℕ, length, Some}
use Rattle.fol_text.specs.declared.token.Token.{Token}
use Rattle.fol_text.specs.Tokens.{typed_sign}
use Rattle.fol_text.specs.Straight.{ChainRead}
use Rattle.fol_text.proofs.straight.+straight.Given as goal

abbrev pub decreases-chain : goal.decreases-chain
decreases-chain l = l.room * 4 + 2

abbrev pub decreases-existential : goal.decreases-existential
decreases-existential l = l.room * 4

abbrev pub decreases-group : goal.decreases-group
decreases-group l = l.room * 4

abbrev pub decreases-negation : goal.decreases-negation
decreases-negation l = l.room * 4

abbrev pub decreases-part : goal.decreases-part
decreases-part l = l.room * 4 + 1

abbrev pub decreases-sentence : goal.decreases-sentence
decreases-sentence l = l.room * 4 + 3

abbrev pub decreases-universal : goal.decreases-universal
decreases-universal l = l.room * 4

abbrev pub invariant-chain-loop : goal.invariant-chain-loop
invariant-chain-loop l = record {
  read : (k : Token) → typed_sign l.sign ≡ Some k → ChainRead k l.room l.fn.text l.fn.first l.parts l.rest;
  two : 2 ≤ length l.parts;
}
