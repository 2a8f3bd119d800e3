-- The last line outside all subproofs, by the depths of flat lines.
use Rattle.std.proofs.Common.{◌≡◌, ℕ, suc, ◌+◌, List, [], ◌∷◌, ◌++◌, length, length-append, refl, ap, ap₂, sym, ◌∙◌, arith, cond, Bool, true, false, Option, None, append_assoc}
use Rattle.std.specs.Prelude.{◌==◌}
use Rattle.std.specs.List.{AllByRecursion}
use Rattle.std.proofs.lemmas.Bool.{ne_eqb}
use Rattle.fol_core.specs.declared.sent.Sent.{Sent}
use Rattle.deriv_laws.specs.declared.line.FlatLine.{FlatLine}
use Rattle.nested_proofs.specs.Items.{Items, Done, Step, Sub, size, flatten, AreProper, opening_line}
use Rattle.nested_proofs.specs.Levels.{last_at}
use Rattle.nested_proofs.specs.Placed.{last_of}
use Rattle.nested_proofs.proofs.Levels.{Deep, deep, depth_opening, flat_size}
use Rattle.nested_proofs.proofs.SubproofLevels.{last_same}
use Rattle.proof_check.specs.Judged.{last_number}
use Rattle.proof_check.specs.Readers.{last_outside, sentence_of}

-- lines inside subproofs are passed over
passed_over : (k before : ℕ) (ls more : List FlatLine) → AllByRecursion (Deep 2) ls → last_outside k before (ls ++ more) ≡ last_outside (k + length ls) before more
passed_over k before [] more h = ap (λ n. last_outside n before more) (let e : k ≡ k + 0 = omega arith in e)
passed_over k before (l ∷ ls) more h =
    ap (λ b. last_outside (k + 1) (cond b k before) (ls ++ more)) (ne_eqb l.depth 1 (λ e. absurd (omega (arith, h.0.1, e))))
    ∙ passed_over (k + 1) before ls more h.1
    ∙ ap (λ n. last_outside n before more) (let e : k + 1 + length ls ≡ k + length (l ∷ ls) = omega arith in e)

-- the number of the last step outside all subproofs
pub number_outside : (k before : ℕ) (p : Items) → AreProper p → last_outside k before (flatten 1 p) ≡ last_number k before p
number_outside k before Done o = refl
number_outside k before (Step s rule cites rest) o = number_outside (k + 1) k rest o.1
number_outside k before (Sub op body rest) o =
    ap (λ b. last_outside (k + 1) (cond b k before) (flatten 2 body ++ flatten 1 rest)) (ne_eqb (opening_line 2 op).depth 1 (λ e. absurd (omega (arith, e, depth_opening 2 op))))
    ∙ passed_over (k + 1) before (flatten 2 body) (flatten 1 rest) (deep 2 2 body (omega arith) o.0)
    ∙ ap (λ n. last_outside (k + 1 + n) before (flatten 1 rest)) (flat_size 2 body)
    ∙ number_outside (k + 1 + size body) before rest o.1

-- the sentence of the line behind the front lines
sentence_behind : (front : List FlatLine) (l : FlatLine) (more : List FlatLine) → sentence_of (front ++ l ∷ more) (suc (length front)) ≡ l.sentence
sentence_behind [] l more = refl
sentence_behind (x ∷ front) l more = sentence_behind front l more

one_more_front : (front : List FlatLine) (l : FlatLine) (ls : List FlatLine) → front ++ l ∷ ls ≡ (front ++ l ∷ []) ++ ls
one_more_front front l ls = sym (append_assoc front (l ∷ []) ls)

-- the sentence of the last line outside so far, once one more line is looked at
one_more : (front : List FlatLine) (l : FlatLine) (ls : List FlatLine) (n : ℕ) (before : Option Sent) (b : Bool) → sentence_of (front ++ l ∷ ls) n ≡ before →
    sentence_of ((front ++ l ∷ []) ++ ls) (cond b (suc (length front)) n) ≡ cond b l.sentence before
one_more front l ls n before true e = ap (λ xs. sentence_of xs (suc (length front))) (sym (one_more_front front l ls)) ∙ sentence_behind front l ls
one_more front l ls n before false e = ap (λ xs. sentence_of xs n) (sym (one_more_front front l ls)) ∙ e

-- the sentence of the last line outside all subproofs, of lines behind front lines
sentence_at_end : (front ls : List FlatLine) (n : ℕ) (before : Option Sent) → sentence_of (front ++ ls) n ≡ before →
    sentence_of (front ++ ls) (last_outside (suc (length front)) n ls) ≡ last_at 1 before ls
sentence_at_end front [] n before e = e
sentence_at_end front (l ∷ ls) n before e =
    let m : ℕ = cond (l.depth == 1) (suc (length front)) n in
    ap₂ (λ xs k. sentence_of xs (last_outside k m ls)) (one_more_front front l ls) (let f : suc (length front) + 1 ≡ suc (length (front ++ l ∷ [])) = omega (arith, length-append front (l ∷ [])) in f)
    ∙ sentence_at_end (front ++ l ∷ []) ls m (cond (l.depth == 1) l.sentence before) (one_more front l ls n before (l.depth == 1) e)

-- the last sentence outside all subproofs is that of the line with the last number
pub sentence_outside : (p : Items) → AreProper p → sentence_of (flatten 1 p) (last_outside 1 0 (flatten 1 p)) ≡ last_of None p
sentence_outside p o = sentence_at_end [] (flatten 1 p) 0 None refl ∙ last_same 1 None p o

-- both, of lines that are those of the nested proof
pub last_sentence : (lines first second : List FlatLine) (p : Items) (n : ℕ) → AreProper p → lines ≡ flatten 1 p → first ≡ lines → second ≡ lines → n ≡ last_outside 1 0 first → sentence_of second n ≡ last_of None p
last_sentence lines first second p n o e f g h = ap₂ sentence_of (g ∙ e) (h ∙ ap (last_outside 1 0) (f ∙ e)) ∙ sentence_outside p o

pub last_is : (lines first : List FlatLine) (p : Items) (n : ℕ) → AreProper p → lines ≡ flatten 1 p → first ≡ lines → n ≡ last_outside 1 0 first → n ≡ last_number 1 0 p
last_is lines first p n o e f h = h ∙ ap (last_outside 1 0) (f ∙ e) ∙ number_outside 1 0 p o
