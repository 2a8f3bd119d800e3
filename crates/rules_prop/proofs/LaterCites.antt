-- What the first of some cites, and the others, add to what is cited.
use Rattle.std.proofs.Common.{◌≡◌, ℕ, suc, ◌+◌, ◌<◌, Bool, true, false, List, [], ◌∷◌, length, get_or, drop, refl, sym, ap, subst, ◌∙◌, arith, cond, Option, Some, None, Contains, filter, drop-cons}
use Rattle.std.specs.Prelude.{not, option_to_list}
use Rattle.fol_core.specs.declared.sent.Sent.{Sent}
use Rattle.deriv_laws.specs.declared.line.Cite.{Cite}
use Rattle.deriv_laws.specs.declared.line.FlatLine.{FlatLine}
use Rattle.deriv_laws.proofs.Members.{contains_there, contains_cases}
use Rattle.nested_proofs.specs.Scope.{Subproof, prepend}
use Rattle.nested_proofs.specs.Rules.{Goes}
use Rattle.nested_proofs.specs.CiteTests.{lines_cited, subproofs_cited}
use Rattle.nested_proofs.proofs.ReadCites.{from_index}
use Rattle.nested_proofs.specs.ReadOff.{stated_at, subproof_between, sentences_read, subproofs_read}
use Rattle.rules_prop.specs.Shown.{GoesAt, SomeGoes}

-- a sentence that the first cite doesn't state is among those of the others, if at all
later_sentence : (ls : List FlatLine) (c : Cite) (cs : List Cite) (s : Sent) → ((c.sub ≡ false) × (stated_at ls c.first ≡ Some s) → ⊥) →
    (Contains (sentences_read ls (c ∷ cs)) s → Contains (sentences_read ls cs) s) × (Contains (sentences_read ls cs) s → Contains (sentences_read ls (c ∷ cs)) s)
later_sentence ls c cs s n = go c.sub refl (stated_at ls c.first) refl
  where
    go : (b : Bool) → c.sub ≡ b → (o : Option Sent) → stated_at ls c.first ≡ o →
        (Contains (cond b (sentences_read ls cs) (prepend o (sentences_read ls cs))) s → Contains (sentences_read ls cs) s) × (Contains (sentences_read ls cs) s → Contains (cond b (sentences_read ls cs) (prepend o (sentences_read ls cs))) s)
    go true q o r = (λ h. h, λ h. h)
    go false q None r = (λ h. h, λ h. h)
    go false q (Some t) r = (
      λ h. contains_cases (Contains (sentences_read ls cs) s) t s (sentences_read ls cs) (λ e. absurd (n (q, r ∙ ap Some e))) (λ i. i) h,
      λ h. contains_there t s (sentences_read ls cs) h,
    )

-- the same at an index
pub sentence_on : (ls : List FlatLine) (cs : List Cite) (i : ℕ) (d : Cite) (s : Sent) → i < length cs → (((get_or cs i d).sub ≡ false) × (stated_at ls (get_or cs i d).first ≡ Some s) → ⊥) →
    (Contains (sentences_read ls (drop i cs)) s → Contains (sentences_read ls (drop (i + 1) cs)) s) × (Contains (sentences_read ls (drop (i + 1) cs)) s → Contains (sentences_read ls (drop i cs)) s)
sentence_on ls cs i d s h n =
    subst (λ xs. (Contains (sentences_read ls xs) s → Contains (sentences_read ls (drop (i + 1) cs)) s) × (Contains (sentences_read ls (drop (i + 1) cs)) s → Contains (sentences_read ls xs) s)) (sym (from_index cs i d h)) (later_sentence ls (get_or cs i d) (drop (i + 1) cs) s n)
