-- The tests of names, as the code makes them, and that no two rules have one name.
use Rattle.std.proofs.Common.{◌≡◌, ℕ, List, [], ◌∷◌, ◌++◌, sym, ap, subst, ◌∙◌, ◌↔◌, IsTrue, Bool, get_or, drop, inl, inr}
use Rattle.std.specs.Prelude.{◌==◌, ◌&&◌, if◌then◌else◌}
use Rattle.std.specs.List.{AllByRecursion}
use Rattle.std.proofs.lemmas.List.{append_cancel_left}
use Rattle.texts.specs.Blanks.{BeginsBlank, after_blanks}
use Rattle.deriv_laws.specs.declared.rule.Rule.{Rule}
use Rattle.deriv_laws.specs.declared.rule.Rule.TheVariants as r
use Rattle.fitch_file.specs.RuleNames.{IsMarked, AreTwoWords, IsRuleName}

pub marked_where : (mark word text tail : List ℕ) (b : Bool) → text ≡ mark ++ tail → IsTrue b ↔ (after_blanks tail ≡ word) → IsTrue b ↔ IsMarked mark word text
marked_where mark word text tail b e k = (
  λ i. record { tail = tail; begins = e; ends = k.0 i },
  λ h. k.1 (subst (λ t. after_blanks t ≡ word) (append_cancel_left mark h.tail tail (sym h.begins ∙ e)) h.ends),
)

rest_once : (tail rest rest' : List ℕ) → BeginsBlank tail rest → BeginsBlank tail rest' → rest ≡ rest'
rest_once tail rest rest' h k = let e : h.blank ∷ rest ≡ k.blank ∷ rest' = sym h.begins ∙ k.begins in cc

pub two_words_where : (first second text tail rest : List ℕ) (b : Bool) → text ≡ first ++ tail → BeginsBlank tail rest → IsTrue b ↔ (after_blanks rest ≡ second) → IsTrue b ↔ AreTwoWords first second text
two_words_where first second text tail rest b e p k = (
  λ i. record { tail = tail; rest = rest; begins = e; parted = p; ends = k.0 i },
  λ h.
      let t : h.tail ≡ tail = append_cancel_left first h.tail tail (sym h.begins ∙ e) in
      let r : h.rest ≡ rest = rest_once tail h.rest rest (subst (λ x. BeginsBlank x h.rest) t h.parted) p in
      k.1 (subst (λ x. after_blanks x ≡ second) r h.ends),
)

pub not_two_words : (first second text tail : List ℕ) → text ≡ first ++ tail → ((rest : List ℕ) → BeginsBlank tail rest → ⊥) → AreTwoWords first second text → ⊥
not_two_words first second text tail e none h =
    none h.rest (subst (λ x. BeginsBlank x h.rest) (append_cancel_left first h.tail tail (sym h.begins ∙ e)) h.parted)

-- the rule of a mark, by the first letter of the word behind it
abbrev by_word : Rule → Rule → List ℕ → Rule
by_word intro elimination word = if get_or word 0 0 == 73 then intro else elimination

-- the one rule that a text can name, by its first bytes
abbrev marked : ℕ → ℕ → ℕ → List ℕ → Rule
marked b c d text =
    if b == 38 then by_word r.AndIntro r.AndElim (after_blanks (drop 1 text))
    else (if b == 124 then by_word r.OrIntro r.OrElim (after_blanks (drop 1 text))
    else (if b == 126 then by_word r.NotIntro r.NotElim (after_blanks (drop 1 text))
    else (if b == 94 then by_word r.BotIntro r.BotElim (after_blanks (drop 1 text))
    else (if b == 36 then by_word r.IfIntro r.IfElim (after_blanks (drop 1 text))
    else (if b == 37 then by_word r.IffIntro r.IffElim (after_blanks (drop 1 text))
    else (if b == 61 then by_word r.EqIntro r.EqElim (after_blanks (drop 1 text))
    else (if b == 64 then by_word r.AllIntro r.AllElim (after_blanks (drop 1 text))
    else (if b == 47 then by_word r.ExIntro r.ExElim (after_blanks (drop 1 text))
    else (if b == 194 then by_word r.NotIntro r.NotElim (after_blanks (drop 2 text))
    else (if c == 136 && d == 167 then by_word r.AndIntro r.AndElim (after_blanks (drop 3 text))
    else (if c == 136 && d == 168 then by_word r.OrIntro r.OrElim (after_blanks (drop 3 text))
    else (if c == 138 && d == 165 then by_word r.BotIntro r.BotElim (after_blanks (drop 3 text))
    else (if c == 134 && d == 146 then by_word r.IfIntro r.IfElim (after_blanks (drop 3 text))
    else (if c == 134 && d == 148 then by_word r.IffIntro r.IffElim (after_blanks (drop 3 text))
    else (if c == 136 && d == 128 then by_word r.AllIntro r.AllElim (after_blanks (drop 3 text))
    else (if c == 136 && d == 131 then by_word r.ExIntro r.ExElim (after_blanks (drop 3 text))
    else r.Reit))))))))))))))))

abbrev decoded : List ℕ → Rule
decoded text =
    if get_or text 0 0 == 80 then r.Premise
    else (if get_or text 0 0 == 66 then r.BoxOnly
    else (if get_or text 0 0 == 82 then r.Reit
    else (if get_or text 0 0 == 84 then r.TautCon
    else (if get_or text 0 0 == 70 then r.FoCon
    else (if get_or text 0 0 == 65 then (if get_or text 1 0 == 115 then r.Assume else r.AnaCon)
    else marked (get_or text 0 0) (get_or text 1 0) (get_or text 2 0) text)))))

named_decodes : (rule : Rule) (text : List ℕ) → IsRuleName text rule → decoded text ≡ rule
named_decodes r.Premise text h = ap decoded h
named_decodes r.Assume text h = ap decoded h
named_decodes r.BoxOnly text h = ap decoded h
named_decodes r.Reit text h = ap decoded h
named_decodes r.TautCon text h = ap decoded h.begins
named_decodes r.FoCon text h = ap decoded h.begins
named_decodes r.AnaCon text h = ap decoded h.begins
named_decodes r.AndIntro text (inl h) = ap decoded h.begins ∙ ap (by_word r.AndIntro r.AndElim) h.ends
named_decodes r.AndIntro text (inr h) = ap decoded h.begins ∙ ap (by_word r.AndIntro r.AndElim) h.ends
named_decodes r.AndElim text (inl h) = ap decoded h.begins ∙ ap (by_word r.AndIntro r.AndElim) h.ends
named_decodes r.AndElim text (inr h) = ap decoded h.begins ∙ ap (by_word r.AndIntro r.AndElim) h.ends
named_decodes r.OrIntro text (inl h) = ap decoded h.begins ∙ ap (by_word r.OrIntro r.OrElim) h.ends
named_decodes r.OrIntro text (inr h) = ap decoded h.begins ∙ ap (by_word r.OrIntro r.OrElim) h.ends
named_decodes r.OrElim text (inl h) = ap decoded h.begins ∙ ap (by_word r.OrIntro r.OrElim) h.ends
named_decodes r.OrElim text (inr h) = ap decoded h.begins ∙ ap (by_word r.OrIntro r.OrElim) h.ends
named_decodes r.NotIntro text (inl h) = ap decoded h.begins ∙ ap (by_word r.NotIntro r.NotElim) h.ends
named_decodes r.NotIntro text (inr h) = ap decoded h.begins ∙ ap (by_word r.NotIntro r.NotElim) h.ends
named_decodes r.NotElim text (inl h) = ap decoded h.begins ∙ ap (by_word r.NotIntro r.NotElim) h.ends
named_decodes r.NotElim text (inr h) = ap decoded h.begins ∙ ap (by_word r.NotIntro r.NotElim) h.ends
named_decodes r.BotIntro text (inl h) = ap decoded h.begins ∙ ap (by_word r.BotIntro r.BotElim) h.ends
named_decodes r.BotIntro text (inr h) = ap decoded h.begins ∙ ap (by_word r.BotIntro r.BotElim) h.ends
named_decodes r.BotElim text (inl h) = ap decoded h.begins ∙ ap (by_word r.BotIntro r.BotElim) h.ends
named_decodes r.BotElim text (inr h) = ap decoded h.begins ∙ ap (by_word r.BotIntro r.BotElim) h.ends
named_decodes r.IfIntro text (inl h) = ap decoded h.begins ∙ ap (by_word r.IfIntro r.IfElim) h.ends
named_decodes r.IfIntro text (inr h) = ap decoded h.begins ∙ ap (by_word r.IfIntro r.IfElim) h.ends
named_decodes r.IfElim text (inl h) = ap decoded h.begins ∙ ap (by_word r.IfIntro r.IfElim) h.ends
named_decodes r.IfElim text (inr h) = ap decoded h.begins ∙ ap (by_word r.IfIntro r.IfElim) h.ends
named_decodes r.IffIntro text (inl h) = ap decoded h.begins ∙ ap (by_word r.IffIntro r.IffElim) h.ends
named_decodes r.IffIntro text (inr h) = ap decoded h.begins ∙ ap (by_word r.IffIntro r.IffElim) h.ends
named_decodes r.IffElim text (inl h) = ap decoded h.begins ∙ ap (by_word r.IffIntro r.IffElim) h.ends
named_decodes r.IffElim text (inr h) = ap decoded h.begins ∙ ap (by_word r.IffIntro r.IffElim) h.ends
named_decodes r.EqIntro text (inl h) = ap decoded h.begins ∙ ap (by_word r.EqIntro r.EqElim) h.ends
named_decodes r.EqIntro text (inr h) = ap decoded h.begins ∙ ap (by_word r.EqIntro r.EqElim) h.ends
named_decodes r.EqElim text (inl h) = ap decoded h.begins ∙ ap (by_word r.EqIntro r.EqElim) h.ends
named_decodes r.EqElim text (inr h) = ap decoded h.begins ∙ ap (by_word r.EqIntro r.EqElim) h.ends
named_decodes r.AllIntro text (inl h) = ap decoded h.begins ∙ ap (by_word r.AllIntro r.AllElim) h.ends
named_decodes r.AllIntro text (inr h) = ap decoded h.begins ∙ ap (by_word r.AllIntro r.AllElim) h.ends
named_decodes r.AllElim text (inl h) = ap decoded h.begins ∙ ap (by_word r.AllIntro r.AllElim) h.ends
named_decodes r.AllElim text (inr h) = ap decoded h.begins ∙ ap (by_word r.AllIntro r.AllElim) h.ends
named_decodes r.ExIntro text (inl h) = ap decoded h.begins ∙ ap (by_word r.ExIntro r.ExElim) h.ends
named_decodes r.ExIntro text (inr h) = ap decoded h.begins ∙ ap (by_word r.ExIntro r.ExElim) h.ends
named_decodes r.ExElim text (inl h) = ap decoded h.begins ∙ ap (by_word r.ExIntro r.ExElim) h.ends
named_decodes r.ExElim text (inr h) = ap decoded h.begins ∙ ap (by_word r.ExIntro r.ExElim) h.ends

pub name_once : (p q : Rule) (text : List ℕ) → IsRuleName text p → IsRuleName text q → p ≡ q
name_once p q text h k = sym (named_decodes p text h) ∙ named_decodes q text k

-- what holds of each rule in the table holds of every rule
abbrev pub table : List Rule
table = r.Premise ∷ r.Assume ∷ r.BoxOnly ∷ r.Reit ∷ r.AndIntro ∷ r.AndElim ∷ r.OrIntro ∷ r.OrElim ∷ r.NotIntro ∷ r.NotElim ∷ r.BotIntro ∷ r.BotElim ∷ r.IfIntro ∷ r.IfElim ∷ r.IffIntro ∷ r.IffElim ∷ r.EqIntro ∷ r.EqElim ∷ r.AllIntro ∷ r.AllElim ∷ r.ExIntro ∷ r.ExElim ∷ r.TautCon ∷ r.FoCon ∷ r.AnaCon ∷ []

pub each_in_table : (P : Rule → Type 0) → AllByRecursion P table → (rule : Rule) → P rule
each_in_table P h r.Premise = h.0
each_in_table P h r.Assume = h.1.0
each_in_table P h r.BoxOnly = h.1.1.0
each_in_table P h r.Reit = h.1.1.1.0
each_in_table P h r.AndIntro = h.1.1.1.1.0
each_in_table P h r.AndElim = h.1.1.1.1.1.0
each_in_table P h r.OrIntro = h.1.1.1.1.1.1.0
each_in_table P h r.OrElim = h.1.1.1.1.1.1.1.0
each_in_table P h r.NotIntro = h.1.1.1.1.1.1.1.1.0
each_in_table P h r.NotElim = h.1.1.1.1.1.1.1.1.1.0
each_in_table P h r.BotIntro = h.1.1.1.1.1.1.1.1.1.1.0
each_in_table P h r.BotElim = h.1.1.1.1.1.1.1.1.1.1.1.0
each_in_table P h r.IfIntro = h.1.1.1.1.1.1.1.1.1.1.1.1.0
each_in_table P h r.IfElim = h.1.1.1.1.1.1.1.1.1.1.1.1.1.0
each_in_table P h r.IffIntro = h.1.1.1.1.1.1.1.1.1.1.1.1.1.1.0
each_in_table P h r.IffElim = h.1.1.1.1.1.1.1.1.1.1.1.1.1.1.1.0
each_in_table P h r.EqIntro = h.1.1.1.1.1.1.1.1.1.1.1.1.1.1.1.1.0
each_in_table P h r.EqElim = h.1.1.1.1.1.1.1.1.1.1.1.1.1.1.1.1.1.0
each_in_table P h r.AllIntro = h.1.1.1.1.1.1.1.1.1.1.1.1.1.1.1.1.1.1.0
each_in_table P h r.AllElim = h.1.1.1.1.1.1.1.1.1.1.1.1.1.1.1.1.1.1.1.0
each_in_table P h r.ExIntro = h.1.1.1.1.1.1.1.1.1.1.1.1.1.1.1.1.1.1.1.1.0
each_in_table P h r.ExElim = h.1.1.1.1.1.1.1.1.1.1.1.1.1.1.1.1.1.1.1.1.1.0
each_in_table P h r.TautCon = h.1.1.1.1.1.1.1.1.1.1.1.1.1.1.1.1.1.1.1.1.1.1.0
each_in_table P h r.FoCon = h.1.1.1.1.1.1.1.1.1.1.1.1.1.1.1.1.1.1.1.1.1.1.1.0
each_in_table P h r.AnaCon = h.1.1.1.1.1.1.1.1.1.1.1.1.1.1.1.1.1.1.1.1.1.1.1.1.0
