-- How many lines the propositional rules go by, where they go by lines alone.
use Rattle.std.specs.Prelude.{Bool, true, false}
use Rattle.deriv_laws.specs.declared.rule.Rule.{Rule}
use Rattle.deriv_laws.specs.declared.rule.Rule.TheVariants as r

-- The rule goes by one line.
abbrev pub is_from_one : Rule → Bool
is_from_one r.Reit = true
is_from_one r.AndElim = true
is_from_one r.OrIntro = true
is_from_one r.NotElim = true
is_from_one r.BotElim = true
is_from_one _ = false

-- The rule goes by two lines, which stand in either order.
abbrev pub is_from_two : Rule → Bool
is_from_two r.BotIntro = true
is_from_two r.IfElim = true
is_from_two r.IffElim = true
is_from_two _ = false
