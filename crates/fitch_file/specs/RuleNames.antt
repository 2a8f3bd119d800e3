-- The names of the rules, as they are read and as they are printed.
use Rattle.std.specs.Prelude.{◌≡◌, ℕ, List, [], ◌∷◌, ◌++◌, codes, ◌⊎◌}
use Rattle.texts.specs.Blanks.{BeginsBlank, after_blanks}
use Rattle.deriv_laws.specs.declared.rule.Rule.{Rule}
use Rattle.deriv_laws.specs.declared.rule.Rule.TheVariants as r
use Rattle.fitch_file.specs.declared.rule_names.Sign.{Sign}
use Rattle.fitch_file.specs.declared.rule_names.Sign.TheVariants as sign
use Rattle.fitch_file.specs.declared.rule_names.RuleWord.{RuleWord}
use Rattle.fitch_file.specs.declared.rule_names.RuleWord.TheVariants as word
use Rattle.fitch_file.specs.declared.rule_names.RuleName.{RuleName}
use Rattle.fitch_file.specs.declared.rule_names.RuleName.TheVariants.{OneWord, Consequence, Introduction, Elimination}

-- How each rule is named.
abbrev pub name_of : Rule → RuleName
name_of r.Premise = OneWord word.Premise
name_of r.Assume = OneWord word.Assume
name_of r.BoxOnly = OneWord word.Box
name_of r.Reit = OneWord word.Reit
name_of r.AndIntro = Introduction sign.And
name_of r.AndElim = Elimination sign.And
name_of r.OrIntro = Introduction sign.Or
name_of r.OrElim = Elimination sign.Or
name_of r.NotIntro = Introduction sign.Not
name_of r.NotElim = Elimination sign.Not
name_of r.BotIntro = Introduction sign.Falsum
name_of r.BotElim = Elimination sign.Falsum
name_of r.IfIntro = Introduction sign.If
name_of r.IfElim = Elimination sign.If
name_of r.IffIntro = Introduction sign.Iff
name_of r.IffElim = Elimination sign.Iff
name_of r.EqIntro = Introduction sign.Equals
name_of r.EqElim = Elimination sign.Equals
name_of r.AllIntro = Introduction sign.All
name_of r.AllElim = Elimination sign.All
name_of r.ExIntro = Introduction sign.Exists
name_of r.ExElim = Elimination sign.Exists
name_of r.TautCon = Consequence word.Taut
name_of r.FoCon = Consequence word.Fo
name_of r.AnaCon = Consequence word.Ana

-- The words of the names.
abbrev pub word_text : RuleWord → List ℕ
word_text word.Premise = codes "Premise"
word_text word.Assume = codes "Assume"
word_text word.Box = codes "Box"
word_text word.Reit = codes "Reit"
word_text word.Taut = codes "Taut"
word_text word.Fo = codes "FO"
word_text word.Ana = codes "Ana"

-- Each sign as it is typed.
abbrev pub typed : Sign → ℕ
typed sign.Not = 126
typed sign.And = 38
typed sign.Or = 124
typed sign.If = 36
typed sign.Iff = 37
typed sign.All = 64
typed sign.Exists = 47
typed sign.Falsum = 94
typed sign.Equals = 61

-- Each sign as the logician's symbol in UTF-8: ¬ ∧ ∨ → ↔ ∀ ∃ ⊥ and =.
abbrev pub symbol : Sign → List ℕ
symbol sign.Not = 194 ∷ 172 ∷ []
symbol sign.And = 226 ∷ 136 ∷ 167 ∷ []
symbol sign.Or = 226 ∷ 136 ∷ 168 ∷ []
symbol sign.If = 226 ∷ 134 ∷ 146 ∷ []
symbol sign.Iff = 226 ∷ 134 ∷ 148 ∷ []
symbol sign.All = 226 ∷ 136 ∷ 128 ∷ []
symbol sign.Exists = 226 ∷ 136 ∷ 131 ∷ []
symbol sign.Falsum = 226 ∷ 138 ∷ 165 ∷ []
symbol sign.Equals = 61 ∷ []

-- The text is the first word, one or more blanks, and the second word.
pub record AreTwoWords (first second text : List ℕ) : Type 0 where
  pub tail : List ℕ
  pub rest : List ℕ
  pub begins : text ≡ first ++ tail
  pub parted : BeginsBlank tail rest
  pub ends : after_blanks rest ≡ second

-- The text is these bytes, blanks or none, and the word.
pub record IsMarked (mark word text : List ℕ) : Type 0 where
  pub tail : List ℕ
  pub begins : text ≡ mark ++ tail
  pub ends : after_blanks tail ≡ word

-- The text is the sign in either set, blanks or none, and the word.
abbrev pub IsSigned : Sign → List ℕ → List ℕ → Type 0
IsSigned s word text = IsMarked (typed s ∷ []) word text ⊎ IsMarked (symbol s) word text

-- The text is the name.
abbrev pub IsName : RuleName → List ℕ → Type 0
IsName (OneWord w) text = text ≡ word_text w
IsName (Consequence w) text = AreTwoWords (word_text w) (codes "Con") text
IsName (Introduction s) text = IsSigned s (codes "Intro") text
IsName (Elimination s) text = IsSigned s (codes "Elim") text

-- The text is the rule's name.
abbrev pub IsRuleName : List ℕ → Rule → Type 0
IsRuleName text rule = IsName (name_of rule) text
