-- What the cites of a line add to what is read off the lines.
use Rattle.std.proofs.Common.{◌≡◌, ℕ, suc, ◌+◌, ◌<◌, Bool, true, false, List, [], ◌∷◌, length, get_or, drop, refl, sym, ap, subst, ◌∙◌, arith, cond, Option, Some, None, filter, drop-cons, IsTrue, ◌↔◌}
use Rattle.std.specs.Prelude.{not, option_to_list}
use Rattle.fol_core.specs.declared.sent.Sent.{Sent}
use Rattle.deriv_laws.specs.declared.rule.Rule.{Rule}
use Rattle.deriv_laws.specs.declared.line.Cite.{Cite}
use Rattle.deriv_laws.specs.declared.line.FlatLine.{FlatLine}
use Rattle.nested_proofs.specs.Scope.{Subproof, prepend}
use Rattle.nested_proofs.specs.Rules.{Follows}
use Rattle.nested_proofs.specs.CiteTests.{lines_cited, subproofs_cited}
use Rattle.nested_proofs.specs.ReadOff.{stated_at, subproof_between, sentences_read, subproofs_read}

-- the cites from the i-th on
pub from_index : (cs : List Cite) (i : ℕ) (d : Cite) → i < length cs → drop i cs ≡ get_or cs i d ∷ drop (i + 1) cs
from_index cs i d h = drop-cons cs i d h ∙ ap (λ k. get_or cs i d ∷ drop k cs) (let e : suc i ≡ i + 1 = omega arith in e)

-- without cited lines there are no cited sentences
pub no_sentences : (ls : List FlatLine) (cs : List Cite) → lines_cited cs ≡ 0 → sentences_read ls cs ≡ []
no_sentences ls [] e = refl
no_sentences ls (c ∷ cs) e = go c.sub e (λ f. no_sentences ls cs f)
  where
    go : (b : Bool) → length (cond (not b) (c ∷ filter (λ x. not x.sub) cs) (filter (λ x. not x.sub) cs)) ≡ 0 → (lines_cited cs ≡ 0 → sentences_read ls cs ≡ []) → cond b (sentences_read ls cs) (prepend (stated_at ls c.first) (sentences_read ls cs)) ≡ []
    go true e f = f e
    go false e f = absurd (omega (arith, e))

-- without cited subproofs there are none to be read
pub no_subproofs : (ls : List FlatLine) (cs : List Cite) → subproofs_cited cs ≡ 0 → subproofs_read ls cs ≡ []
no_subproofs ls [] e = refl
no_subproofs ls (c ∷ cs) e = go c.sub e (λ f. no_subproofs ls cs f)
  where
    go : (b : Bool) → length (cond b (c ∷ filter (λ x. x.sub) cs) (filter (λ x. x.sub) cs)) ≡ 0 → (subproofs_cited cs ≡ 0 → subproofs_read ls cs ≡ []) → cond b (prepend (subproof_between ls c.first c.last) (subproofs_read ls cs)) (subproofs_read ls cs) ≡ []
    go false e f = f e
    go true e f = absurd (omega (arith, e))

-- the one cited line that is left is the first one
pub only_sentence : (ls : List FlatLine) (cs : List Cite) (i : ℕ) (d : Cite) → i < length cs → lines_cited (drop i cs) ≡ 1 → (get_or cs i d).sub ≡ false → sentences_read ls (drop i cs) ≡ option_to_list (stated_at ls (get_or cs i d).first)
only_sentence ls cs i d h one n =
    let c : Cite = get_or cs i d in
    ap (sentences_read ls) (from_index cs i d h)
    ∙ go c.sub n (subst (λ xs. lines_cited xs ≡ 1) (from_index cs i d h) one)
  where
    listed : (o : Option Sent) → prepend o [] ≡ option_to_list o
    listed None = refl
    listed (Some x) = refl

    go : (b : Bool) → b ≡ false → length (cond (not b) (get_or cs i d ∷ filter (λ x. not x.sub) (drop (i + 1) cs)) (filter (λ x. not x.sub) (drop (i + 1) cs))) ≡ 1 →
        cond b (sentences_read ls (drop (i + 1) cs)) (prepend (stated_at ls (get_or cs i d).first) (sentences_read ls (drop (i + 1) cs))) ≡ option_to_list (stated_at ls (get_or cs i d).first)
    go true n e = cc
    go false n e = ap (prepend (stated_at ls (get_or cs i d).first)) (no_sentences ls (drop (i + 1) cs) (omega (arith, e))) ∙ listed (stated_at ls (get_or cs i d).first)

-- two cited lines, and no subproof
pub two_cited : (one other : Cite) → subproofs_cited (one ∷ other ∷ []) ≡ 0 → (one.sub ≡ false) × (other.sub ≡ false)
two_cited one other = go one.sub other.sub
  where
    go : (a b : Bool) → length (cond a (one ∷ cond b (other ∷ []) []) (cond b (other ∷ []) [])) ≡ 0 → (a ≡ false) × (b ≡ false)
    go false false e = (refl, refl)
    go true b e = absurd (omega (arith, e))
    go false true e = absurd (omega (arith, e))

-- the sentences of two cited lines
pub two_read : (ls : List FlatLine) (cs : List Cite) (one other : Cite) → cs ≡ one ∷ other ∷ [] → subproofs_cited cs ≡ 0 → sentences_read ls cs ≡ prepend (stated_at ls one.first) (prepend (stated_at ls other.first) [])
two_read ls cs one other e n = ap (sentences_read ls) e ∙ go one.sub other.sub (two_cited one other (subst (λ xs. subproofs_cited xs ≡ 0) e n))
  where
    go : (u v : Bool) → (u ≡ false) × (v ≡ false) → cond u (cond v [] (prepend (stated_at ls other.first) [])) (prepend (stated_at ls one.first) (cond v [] (prepend (stated_at ls other.first) []))) ≡ prepend (stated_at ls one.first) (prepend (stated_at ls other.first) [])
    go false false q = refl
    go true v q = let x = q.0 in cc
    go false true q = let x = q.1 in cc

-- what is tested of equal lists
pub read_as : (rule : Rule) (ps qs : List Sent) (bs cs : List Subproof) (s : Sent) (b : Bool) → ps ≡ qs → bs ≡ cs → IsTrue b ↔ Follows rule qs cs s → IsTrue b ↔ Follows rule ps bs s
read_as rule ps qs bs cs s b e f h = subst (λ xs. IsTrue b ↔ Follows rule xs bs s) (sym e) (subst (λ ys. IsTrue b ↔ Follows rule qs ys s) (sym f) h)
