-- The move takes an alternative, which is narrow, and the game keeps what it keeps.
use Rattle.std.proofs.Common.{◌+◌, ◌-◌, ◌∙◌, ◌≤◌, ap, sym, subst, get_or, ℕ, arith}
use Rattle.hintikka_game.specs.Positions.{nexts}
use Rattle.hintikka_game.specs.Plays.{IsAllowed}
use Rattle.hintikka_game.specs.Games.{turn_in}
use Rattle.hintikka_game.proofs.Running.{countable, keeps_on, narrow_next, takes_one}
use Rattle.hintikka_game.proofs.game.Game.advance.Goals as goal

pub alternative-requires-clause-first : goal.alternative-requires-clause-first
alternative-requires-clause-first c =
    let a = subst (λ g. IsAllowed (turn_in g) c.args.made) (sym c.self.view_is) c.requires.allowed in
    subst (λ (n : ℕ). 1 ≤ n) (sym c.taken.ensures.value) (takes_one _ _ _ _ _ _ c.self.invariant a).0

pub turn-requires : goal.turn-requires
turn-requires c =
    let a = subst (λ g. IsAllowed (turn_in g) c.args.made) (sym c.self.view_is) c.requires.allowed in
    record {
      narrow = narrow_next _ _ _ _ _ _ _ c.self.invariant a
          (c.in_ok-next.ensures.value ∙ ap (λ (n : ℕ). get_or (nexts c.self.inside.world.now c.self.inside.here) (n - 1) c.self.inside.here) c.taken.ensures.value);
    }

pub overflow_add-self-inside : goal.overflow_add-self-inside
overflow_add-self-inside c = omega (arith, countable _ _ _ _ _ c.self.invariant)

pub overflow_add-self : goal.overflow_add-self
overflow_add-self c = omega (arith, countable _ _ _ _ _ c.self.invariant, c.choices.ensures.few)

pub invariant_of-self-2 : goal.invariant_of-self-2
invariant_of-self-2 c =
    let a = subst (λ g. IsAllowed (turn_in g) c.args.made) (sym c.self.view_is) c.requires.allowed in
    keeps_on _ _ _ _ _ _ _ _ _ _ _ _ c.self.invariant a
    (c.in_ok-next.ensures.value ∙ ap (λ (n : ℕ). get_or (nexts c.self.inside.world.now c.self.inside.here) (n - 1) c.self.inside.here) c.taken.ensures.value)
    c.in_ok-turn.ensures.value c.in_ok-add.ensures.ok c.is_losing-losing.ensures.value c.or_losing-self-inside.ensures.value
    (ap (λ (n : ℕ). c.self.inside.chosen + n) c.choices.ensures.value)
