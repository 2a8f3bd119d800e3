-- A compiled formula stands for its sentence, form by form.
use Rattle.std.proofs.Common.{◌≡◌, ℕ, zero, suc, ◌+◌, ◌<◌, ◌≤◌, List, [], ◌∷◌, ◌++◌, length, get_or, take, map, refl, ap, ap₂, sym, ◌∙◌, Bool, false, rules, arith}
use Rattle.std.specs.Prelude.{not, ◌&&◌, ◌||◌, cond, filter}
use Rattle.std.specs.List.{list_any, list_all, range_with_len}
use Rattle.std.proofs.lemmas.List.{map-append}
use Rattle.fol_core.specs.declared.sent.Sent.{Sent}
use Rattle.fol_core.specs.declared.sent.Sent.TheVariants as s
use Rattle.fol_core.specs.Subst.{itself}
use Rattle.fol_core.proofs.Parts.{any_itself, all_itself, map_more}
use Rattle.taut_con.specs.declared.formula.Formula.{Formula, the_lemmas}
use Rattle.taut_con.specs.declared.formula.Formula.TheVariants as f
use Rattle.taut_con.specs.Rows.{row_values, rows}
use Rattle.taut_con.specs.Values.{agree, valuation, value}
use Rattle.taut_con.specs.Answer.{is_countermodel}
use Rattle.taut_con.specs.Compiled.{formula_value, StandsFor, StandForEach, refutes_in_row}
use Rattle.taut_con.proofs.Equations.{value_bottom, value_not, value_and, value_or, value_if, value_iff}
use Rattle.taut_con.proofs.Placing.{place, valued_by_place}

formula_letter : (bs : List Bool) (i : ℕ) → formula_value bs (f.Letter i) ≡ get_or bs i false
formula_letter bs i = search (rules, the_lemmas)

formula_falsum : (bs : List Bool) → formula_value bs f.Falsum ≡ false
formula_falsum bs = search (rules, the_lemmas)

formula_not : (bs : List Bool) (p : Formula) → formula_value bs (f.Not p) ≡ not (formula_value bs p)
formula_not bs p = search (rules, the_lemmas)

pub formula_and : (bs : List Bool) (ps : List Formula) → formula_value bs (f.And ps) ≡ list_all (formula_value bs) ps
formula_and bs ps = let e : formula_value bs (f.And ps) ≡ list_all itself (map (formula_value bs) ps) = search (rules, the_lemmas) in e ∙ all_itself (formula_value bs) ps

pub formula_or : (bs : List Bool) (ps : List Formula) → formula_value bs (f.Or ps) ≡ list_any (formula_value bs) ps
formula_or bs ps = let e : formula_value bs (f.Or ps) ≡ list_any itself (map (formula_value bs) ps) = search (rules, the_lemmas) in e ∙ any_itself (formula_value bs) ps

formula_if : (bs : List Bool) (p q : Formula) → formula_value bs (f.If p q) ≡ (not (formula_value bs p) || formula_value bs q)
formula_if bs p q = search (rules, the_lemmas)

formula_iff : (bs : List Bool) (p q : Formula) → formula_value bs (f.Iff p q) ≡ agree (formula_value bs p) (formula_value bs q)
formula_iff bs p q = search (rules, the_lemmas)

-- a sentence that is a letter
pub for_letter : (ls : List Sent) (p : Sent) (i : ℕ) → ((v : Sent → Bool) → value v p ≡ v p) → i ≡ place ls p → StandsFor ls p (f.Letter i)
for_letter ls p i k e = record { same = λ bs w. formula_letter bs i ∙ ap (λ j. get_or bs j false) e ∙ sym (valued_by_place ls bs p w) ∙ sym (k (valuation ls bs)) }

pub for_bottom : (ls : List Sent) → StandsFor ls s.Bottom f.Falsum
for_bottom ls = record { same = λ bs w. formula_falsum bs ∙ sym (value_bottom (valuation ls bs)) }

pub for_not : (ls : List Sent) (p : Sent) (a : Formula) → StandsFor ls p a → StandsFor ls (s.Not p) (f.Not a)
for_not ls p a h = record { same = λ bs w. formula_not bs a ∙ ap not (h.same bs w) ∙ sym (value_not (valuation ls bs) p) }

pub for_and : (ls ps : List Sent) (cs : List Formula) → StandForEach ls ps cs → StandsFor ls (s.And ps) (f.And cs)
for_and ls ps cs h = record { same = λ bs w. formula_and bs cs ∙ sym (all_itself (formula_value bs) cs) ∙ ap (λ xs. list_all itself xs) (h.same bs w) ∙ all_itself (value (valuation ls bs)) ps ∙ sym (value_and (valuation ls bs) ps) }

pub for_or : (ls ps : List Sent) (cs : List Formula) → StandForEach ls ps cs → StandsFor ls (s.Or ps) (f.Or cs)
for_or ls ps cs h = record { same = λ bs w. formula_or bs cs ∙ sym (any_itself (formula_value bs) cs) ∙ ap (λ xs. list_any itself xs) (h.same bs w) ∙ any_itself (value (valuation ls bs)) ps ∙ sym (value_or (valuation ls bs) ps) }

pub for_if : (ls : List Sent) (p q : Sent) (a b : Formula) → StandsFor ls p a → StandsFor ls q b → StandsFor ls (s.If p q) (f.If a b)
for_if ls p q a b h k = record { same = λ bs w. formula_if bs a b ∙ ap₂ (λ x y. not x || y) (h.same bs w) (k.same bs w) ∙ sym (value_if (valuation ls bs) p q) }

pub for_iff : (ls : List Sent) (p q : Sent) (a b : Formula) → StandsFor ls p a → StandsFor ls q b → StandsFor ls (s.Iff p q) (f.Iff a b)
for_iff ls p q a b h k = record { same = λ bs w. formula_iff bs a b ∙ ap₂ agree (h.same bs w) (k.same bs w) ∙ sym (value_iff (valuation ls bs) p q) }

pub each_none : (ls : List Sent) → StandForEach ls [] []
each_none ls = record { same = λ bs w. refl }

-- one sentence more
pub each_more : (ls ss : List Sent) (i : ℕ) (x : Sent) (cs ds : List Formula) (a : Formula) → i < length ss → x ≡ get_or ss i x → StandForEach ls (take i ss) cs → StandsFor ls x a → ds ≡ cs ++ a ∷ [] → StandForEach ls (take (i + 1) ss) ds
each_more ls ss i x cs ds a l e h k is = record {
  same = λ bs w.
      ap (λ xs. map (formula_value bs) xs) is ∙ map-append (formula_value bs) cs (a ∷ [])
      ∙ ap₂ (λ xs y. xs ++ y ∷ []) (h.same bs w) (k.same bs w)
      ∙ sym (map_more (value (valuation ls bs)) ss i x l e);
}

-- the rows over the formulas are the rows over the sentences

range_long : (a m : ℕ) → length (range_with_len a m) ≡ m
range_long a zero = refl
range_long a (suc m) = ap (λ k. suc k) (range_long (a + 1) m)

map_long : (f : ℕ → Bool) (xs : List ℕ) → length (map f xs) ≡ length xs
map_long f [] = refl
map_long f (x ∷ xs) = ap (λ k. suc k) (map_long f xs)

pub row_long : (n r : ℕ) → length (row_values n r) ≡ n
row_long n r = map_long _ (range_with_len 1 n) ∙ range_long 1 n

filter_same : (f g : ℕ → Bool) → ((r : ℕ) → f r ≡ g r) → (xs : List ℕ) → filter f xs ≡ filter g xs
filter_same f g e [] = refl
filter_same f g e (x ∷ xs) = ap₂ (λ b ys. cond b (x ∷ ys) ys) (e x) (filter_same f g e xs)

pub same_rows : (ls ps : List Sent) (g : Sent) (cs : List Formula) (a : Formula) → StandForEach ls ps cs → StandsFor ls g a → filter (refutes_in_row cs a (length ls)) (rows (length ls)) ≡ filter (is_countermodel ls ps g) (rows (length ls))
same_rows ls ps g cs a h k = filter_same (refutes_in_row cs a (length ls)) (is_countermodel ls ps g) each (rows (length ls))
  where
    each : (r : ℕ) → refutes_in_row cs a (length ls) r ≡ is_countermodel ls ps g r
    each r =
        let bs : List Bool = row_values (length ls) r in
        let long : length bs ≡ length ls = row_long (length ls) r in
        let w : length bs ≤ length ls = omega (arith, long) in
        ap₂ (λ x y. x && not y)
        (sym (all_itself (formula_value bs) cs) ∙ ap (λ xs. list_all itself xs) (h.same bs w) ∙ all_itself (value (valuation ls bs)) ps)
        (k.same bs w)

-- parts that are evaluated

pub and_in_row : (bs : List Bool) (a : Formula) (ps qs : List Formula) (b : Bool) → a ≡ f.And ps → qs ≡ ps → b ≡ list_all (formula_value bs) qs → b ≡ formula_value bs a
and_in_row bs a ps qs b e h k = k ∙ ap (λ xs. list_all (formula_value bs) xs) h ∙ sym (ap (formula_value bs) e ∙ formula_and bs ps)

pub or_in_row : (bs : List Bool) (a : Formula) (ps qs : List Formula) (b : Bool) → a ≡ f.Or ps → qs ≡ ps → b ≡ list_any (formula_value bs) qs → b ≡ formula_value bs a
or_in_row bs a ps qs b e h k = k ∙ ap (λ xs. list_any (formula_value bs) xs) h ∙ sym (ap (formula_value bs) e ∙ formula_or bs ps)
