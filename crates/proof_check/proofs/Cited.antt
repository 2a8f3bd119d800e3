-- The sentences that a step by tautological consequence cites.
use Rattle.std.proofs.Common.{◌≡◌, ℕ, ◌+◌, ◌*◌, ◌-◌, ◌<◌, ◌≤◌, Bool, true, false, List, [], ◌∷◌, ◌++◌, length, map, take, get_or, refl, ap, sym, subst, ◌∙◌, cond, Option, Some, None, Result, Ok, Err, arith}
use Rattle.std.specs.Prelude.{slice_get, nat_lt, IfSome}
use Rattle.std.specs.List.{AllByRecursion}
use Rattle.std.proofs.lemmas.Bool.{ltb-false}
use Rattle.std.proofs.lemmas.List.{take_more}
use Rattle.fol_core.specs.declared.sent.Sent.{Sent}
use Rattle.fol_core.specs.declared.sent.SentFault.{SentFault}
use Rattle.fol_core.specs.declared.sent.SentFault.TheVariants.{TooDeep, TooMany}
use Rattle.fol_core.specs.Size.{total, nodes, depth, within_limits}
use Rattle.deriv_laws.specs.declared.rule.Rule.{Rule}
use Rattle.deriv_laws.specs.declared.rule.Rule.TheVariants as r
use Rattle.deriv_laws.specs.declared.line.Cite.{Cite}
use Rattle.deriv_laws.specs.declared.line.FlatLine.{FlatLine}
use Rattle.nested_proofs.specs.Limits.{AreLines, IsLineForm}
use Rattle.nested_proofs.specs.AtLine.{AtLine}
use Rattle.nested_proofs.specs.CiteTests.{cites_fault, is_inferred}
use Rattle.nested_proofs.specs.Scope.{prepend}
use Rattle.nested_proofs.specs.ReadOff.{stated_at, stated_by, sentences_read}
use Rattle.nested_proofs.proofs.Reading.{where_agrees, at_each, line_at}
use Rattle.nested_proofs.proofs.AtCited.{HasCites, FindsAsRead, line_placed, cites_passed, finds_as_read}
use Rattle.taut_con.specs.Answer.{taut_answer}
use Rattle.proof_check.specs.declared.verdict.LineFault.{LineFault}
use Rattle.proof_check.specs.Failing.{is_tautological, taut_fault}
use Rattle.proof_check.proofs.LineFaults.{stated, shape_at}
use Rattle.proof_check.specs.Readers.{IsTableFault, StatesFit}

inferred : (rule : Rule) → is_tautological rule ≡ true → is_inferred rule ≡ true
inferred r.TautCon e = refl
inferred rule e = cc

-- what the caller has shown of the cites of line j
pub cites_at : (ls : List FlatLine) (j : ℕ) (y : FlatLine) → AreLines ls → 0 < j → j ≤ length ls → y ≡ get_or ls (j - 1) y → AtLine ls j (λ x. is_tautological x.line.rule ≡ true) →
    AtLine ls j (λ x. cites_fault x.line.rule x.around.scope x.line.cites ≡ None) → HasCites ls j y
cites_at ls j y w low high e t c =
    let found : slice_get ls (j - 1) ≡ Some y = line_at ls j y low high e in
    let x = line_placed ls j (λ x. is_tautological x.line.rule ≡ true) w low high t in
    let z = line_placed ls j (λ x. cites_fault x.line.rule x.around.scope x.line.cites ≡ None) w low high c in
    let same : x.0.line ≡ y = (let f : Some x.0.line ≡ Some y = sym x.1.line ∙ found in cc) in
    cites_passed ls j z.0 y w high found (inferred y.rule (subst (λ (l : FlatLine). is_tautological l.rule ≡ true) same x.2)) z.1 z.2

-- the truth table of what is read off the lines is that of what the cites find
pub table_at : (ls : List FlatLine) (j : ℕ) (y : FlatLine) (s : Sent) (f : Option LineFault) → AreLines ls → j ≤ length ls → HasCites ls j y → y.sentence ≡ Some s → f ≡ taut_fault (taut_answer (sentences_read ls y.cites) s) → AtLine ls j (λ x. IsTableFault x f)
table_at ls j y s f w high h e i = where_agrees ls j (λ x. IsTableFault x f) (λ x a.
    let t : FindsAsRead ls y x = finds_as_read ls j x y w high h a in
    (s, ap (λ (l : FlatLine). l.sentence) t.same_line ∙ e, i ∙ ap (λ ps. taut_fault (taut_answer ps s)) (sym t.sentences)))

-- a sentence within the limits has at most 400 nodes
limited : (n : ℕ) (deep many : Bool) → nat_lt 400 n ≡ many → ◌≡◌ {A = Result (Unit {0}) SentFault} (cond deep (Err TooDeep) (cond many (Err TooMany) (Ok tt))) (Ok tt) → n ≤ 400
limited n true many h f = cc
limited n false true h f = cc
limited n false false h f = ltb-false 400 n h

pub within_nodes : (s : Sent) → within_limits s ≡ Ok tt → nodes s ≤ 400
within_nodes s e = limited (nodes s) (nat_lt 60 (depth s)) (nat_lt 400 (nodes s)) refl e

-- the line's sentence, where it has one
fit_sentence : (o : Option Sent) → IfSome o (λ s. within_limits s ≡ Ok tt) → (s : Sent) → o ≡ Some s → nodes s ≤ 400
fit_sentence None h s e = cc
fit_sentence (Some t) h s e = let i : t ≡ s = cc in subst (λ u. nodes u ≤ 400) i (within_nodes t h)

pub stated_few : (ls : List FlatLine) (k : ℕ) (y : FlatLine) (s : Sent) → AllByRecursion StatesFit ls → slice_get ls k ≡ Some y → y.sentence ≡ Some s → nodes s ≤ 400
stated_few ls k y s h e i = fit_sentence y.sentence (at_each StatesFit ls k y h e) s i

-- at most 400 nodes a cite
one_few : (ls : List FlatLine) (o : Option FlatLine) (rest : List Sent) (n : ℕ) → ((y : FlatLine) → o ≡ Some y → StatesFit y) → total (map nodes rest) ≤ n → total (map nodes (prepend (stated_by o) rest)) ≤ 400 + n
one_few ls None rest n h k = omega (arith, k)
one_few ls (Some y) rest n h k = go y.sentence (h y refl)
  where
    go : (o : Option Sent) → IfSome o (λ s. within_limits s ≡ Ok tt) → total (map nodes (prepend o rest)) ≤ 400 + n
    go None f = omega (arith, k)
    go (Some s) f = omega (arith, k, within_nodes s f)

pub cited_few : (ls : List FlatLine) (cs : List Cite) → AllByRecursion StatesFit ls → total (map nodes (sentences_read ls cs)) ≤ 400 * length cs
cited_few ls [] h = omega arith
cited_few ls (c ∷ cs) h = go c.sub (cited_few ls cs h)
  where
    go : (b : Bool) → total (map nodes (sentences_read ls cs)) ≤ 400 * length cs → total (map nodes (cond b (sentences_read ls cs) (prepend (stated_at ls c.first) (sentences_read ls cs)))) ≤ 400 * length (c ∷ cs)
    go true later = omega (arith, later)
    go false later =
        let one = one_few ls (slice_get ls (c.first - 1)) (sentences_read ls cs) (400 * length cs) (λ y e. at_each StatesFit ls (c.first - 1) y h e) later in
        omega (arith, one)

-- the cites of a line are at most 64
pub few_cites : (ls : List FlatLine) (k : ℕ) (y : FlatLine) → AreLines ls → slice_get ls k ≡ Some y → length y.cites ≤ 64
few_cites ls k y w e = (at_each IsLineForm ls k y w.forms e).cites.few

-- the cited sentences and the line's own have few nodes together
more_nodes : (ps : List Sent) (s : Sent) → total (map nodes (ps ++ s ∷ [])) ≡ total (map nodes ps) + nodes s
more_nodes [] s = omega arith
more_nodes (p ∷ ps) s = omega (arith, more_nodes ps s)

pub small_in_all : (ls : List FlatLine) (cs : List Cite) (ps : List Sent) (s : Sent) → AllByRecursion StatesFit ls → length cs ≤ 64 → ps ≡ sentences_read ls cs → nodes s ≤ 400 → total (map nodes (ps ++ s ∷ [])) < 4294967296
small_in_all ls cs ps s h few e k = omega (arith, more_nodes ps s, ap (λ xs. total (map nodes xs)) e, cited_few ls cs h, few, k)

-- a line by this rule has a sentence
pub no_statement : (ls : List FlatLine) (j : ℕ) (y : FlatLine) (f : Option LineFault) → AreLines ls → 0 < j → j ≤ length ls → y ≡ get_or ls (j - 1) y → AtLine ls j (λ x. is_tautological x.line.rule ≡ true) →
    ((s : Sent) → y.sentence ≡ Some s → ⊥) → AtLine ls j (λ x. IsTableFault x f)
no_statement ls j y f w low high e t n =
    let x = line_placed ls j (λ x. is_tautological x.line.rule ≡ true) w low high t in
    let found : slice_get ls (j - 1) ≡ Some y = line_at ls j y low high e in
    let same : x.0.line ≡ y = (let g : Some x.0.line ≡ Some y = sym x.1.line ∙ found in cc) in
    let i : is_inferred y.rule ≡ true = inferred y.rule (subst (λ (l : FlatLine). is_tautological l.rule ≡ true) same x.2) in
    let s = stated y y.rule (shape_at ls j y w.well_nested low high e) (λ b. let g = subst (λ rule. is_inferred rule ≡ true) b i in cc) in
    absurd (n s.0 s.1)

-- what is read of the cites one after the other
read_each : (ls : List FlatLine) (cs ds : List Cite) → sentences_read ls (cs ++ ds) ≡ sentences_read ls cs ++ sentences_read ls ds
read_each ls [] ds = refl
read_each ls (c ∷ cs) ds = go c.sub (stated_at ls c.first) (read_each ls cs ds)
  where
    go : (b : Bool) (o : Option Sent) → sentences_read ls (cs ++ ds) ≡ sentences_read ls cs ++ sentences_read ls ds →
        cond b (sentences_read ls (cs ++ ds)) (prepend o (sentences_read ls (cs ++ ds))) ≡ cond b (sentences_read ls cs) (prepend o (sentences_read ls cs)) ++ sentences_read ls ds
    go true o e = e
    go false None e = e
    go false (Some s) e = ap (λ xs. s ∷ xs) e

pub one_more_read : (ls : List FlatLine) (cs : List Cite) (i : ℕ) (c : Cite) (old new : List Sent) → i < length cs → old ≡ sentences_read ls (take i cs) → new ≡ old ++ sentences_read ls (get_or cs i c ∷ []) → new ≡ sentences_read ls (take (i + 1) cs)
one_more_read ls cs i c old new h e k = k ∙ ap (λ xs. xs ++ sentences_read ls (get_or cs i c ∷ [])) e ∙ sym (ap (sentences_read ls) (take_more cs i c h) ∙ read_each ls (take i cs) (get_or cs i c ∷ []))
