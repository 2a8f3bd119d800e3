-- One case for each row: the literals of a row, and a goal that is derivable from those of each row.
use Rattle.std.proofs.Common.{◌≡◌, suc, List, [], ◌∷◌, ◌++◌, length, refl, ap, sym, ◌∙◌, subst, Bool, true, false, true≢false, IsTrue, Contains, arith}
use Rattle.std.specs.Prelude.{not, cond, filter}
use Rattle.std.specs.List.{flat_map, AllByRecursion}
use Rattle.fol_core.specs.declared.sent.Sent.{Sent}
use Rattle.fol_core.specs.Statements.{statement, AreStatements}
use Rattle.fol_core.proofs.Stating.{stated_not, stated_if, stated_iff}
use Rattle.fol_core.proofs.Forms.{conjunct_stated, disjunct_stated}
use Rattle.fol_core.proofs.Equality.{alike_refl, alike_same}
use Rattle.std.proofs.lemmas.Bool.{and_parts}
use Rattle.deriv_laws.specs.Derivable.{Der}
use Rattle.deriv_laws.specs.Discharge.{alike}
use Rattle.deriv_laws.proofs.Members.{contains_here, contains_there, contains_cases, contains_left, contains_right}
use Rattle.taut_con.specs.Letters.{letter_occurrences, distinct}
use Rattle.taut_con.specs.Values.{valuation}
use Rattle.taut_con.proofs.Equations.{letters_atom, letters_eq, letters_bottom, letters_not, letters_and, letters_or, letters_if, letters_iff, letters_all, letters_ex}
use Rattle.taut_con.proofs.Induction.{by_form}
use Rattle.taut_con.proofs.Deciding.{signed, either_way}

-- The letters that are true, and the denials of those that are false.
abbrev pub literals : List Sent → List Bool → List Sent
literals (l ∷ ls) (b ∷ bs) = signed b l ∷ literals ls bs
literals _ _ = []

-- What is derivable from the literals of each row is derivable.
pub by_rows : (gs : List Sent) (s : Sent) → IsTrue (statement s) → (ls : List Sent) → AreStatements ls → ((bs : List Bool) → length bs ≡ length ls → Der (literals ls bs ++ gs) s) → Der gs s
by_rows gs s k [] c f = f [] refl
by_rows gs s k (l ∷ ls) c f =
    by_rows gs s k ls c.1 (λ bs e. either_way (literals ls bs ++ gs) l s c.0 k (f (true ∷ bs) (ap (λ n. suc n) e)) (f (false ∷ bs) (ap (λ n. suc n) e)))

-- the literal of a letter stands among the literals

literal_here : (l p : Sent) (ls : List Sent) (b : Bool) (bs : List Bool) (a : Bool) → alike l p ≡ a → Contains (l ∷ ls) p → (Contains ls p → Contains (literals ls bs) (signed (valuation ls bs p) p)) →
    Contains (signed b l ∷ literals ls bs) (signed (cond a b (valuation ls bs p)) p)
literal_here l p ls b bs true e i f = subst (λ q. Contains (signed b l ∷ literals ls bs) (signed b q)) (alike_same l p e) (contains_here (signed b l) (literals ls bs))
literal_here l p ls b bs false e i f =
    contains_there (signed b l) (signed (valuation ls bs p) p) (literals ls bs)
    (contains_cases (Contains (literals ls bs) (signed (valuation ls bs p) p)) l p ls
    (λ k. absurd (true≢false (sym (subst (λ q. alike l q ≡ true) k (alike_refl l)) ∙ e))) f i)

pub literal_there : (ls : List Sent) (bs : List Bool) (p : Sent) → length bs ≡ length ls → Contains ls p → Contains (literals ls bs) (signed (valuation ls bs p) p)
literal_there [] bs p e (k, l, i) = absurd (omega (arith, l))
literal_there (l ∷ ls) [] p e i = absurd (omega (arith, e))
literal_there (l ∷ ls) (b ∷ bs) p e i = literal_here l p ls b bs (alike l p) refl i (λ j. literal_there ls bs p (omega (arith, e)) j)

-- the distinct sentences are the sentences

kept_here : (f : Sent → Bool) (x y : Sent) (xs : List Sent) (b : Bool) → f y ≡ b → f x ≡ true → Contains (y ∷ xs) x → (Contains xs x → Contains (filter f xs) x) → Contains (cond b (y ∷ filter f xs) (filter f xs)) x
kept_here f x y xs true e h i g = contains_cases (Contains (y ∷ filter f xs) x) y x xs (λ k. subst (λ z. Contains (y ∷ filter f xs) z) k (contains_here y (filter f xs))) (λ j. contains_there y x (filter f xs) (g j)) i
kept_here f x y xs false e h i g = contains_cases (Contains (filter f xs) x) y x xs (λ k. absurd (true≢false (sym h ∙ ap f (sym k) ∙ e))) g i

pub contains_filter : (f : Sent → Bool) (xs : List Sent) (x : Sent) → f x ≡ true → Contains xs x → Contains (filter f xs) x
contains_filter f [] x h i = i
contains_filter f (y ∷ xs) x h i = kept_here f x y xs (f y) refl h i (λ j. contains_filter f xs x h j)

distinct_or : (p x : Sent) (ps : List Sent) (b : Bool) → alike p x ≡ b → Contains (distinct ps) x → Contains (distinct (p ∷ ps)) x
distinct_or p x ps true e i = subst (λ z. Contains (distinct (p ∷ ps)) z) (alike_same p x e) (contains_here p (filter (λ q. not (alike p q)) (distinct ps)))
distinct_or p x ps false e i = contains_there p x (filter (λ q. not (alike p q)) (distinct ps)) (contains_filter (λ q. not (alike p q)) (distinct ps) x (ap not e) i)

pub in_distinct : (ps : List Sent) (x : Sent) → Contains ps x → Contains (distinct ps) x
in_distinct [] x i = i
in_distinct (p ∷ ps) x i =
    contains_cases (Contains (distinct (p ∷ ps)) x) p x ps (λ e. subst (λ z. Contains (distinct (p ∷ ps)) z) e (contains_here p (filter (λ q. not (alike p q)) (distinct ps))))
    (λ j. distinct_or p x ps (alike p x) refl (in_distinct ps x j)) i

stated_or_not : (x : Sent) (b : Bool) (ys : List Sent) → IsTrue (statement x) → AreStatements ys → AreStatements (cond b (x ∷ ys) ys)
stated_or_not x true ys c h = (c, h)
stated_or_not x false ys c h = h

filter_stated : (f : Sent → Bool) (xs : List Sent) → AreStatements xs → AreStatements (filter f xs)
filter_stated f [] h = tt
filter_stated f (x ∷ xs) h = stated_or_not x (f x) (filter f xs) h.0 (filter_stated f xs h.1)

pub distinct_stated : (ps : List Sent) → AreStatements ps → AreStatements (distinct ps)
distinct_stated [] h = tt
distinct_stated (p ∷ ps) h = (h.0, filter_stated (λ q. not (alike p q)) (distinct ps) (distinct_stated ps h.1))

pub both_stated : (xs ys : List Sent) → AreStatements xs → AreStatements ys → AreStatements (xs ++ ys)
both_stated [] ys h k = k
both_stated (x ∷ xs) ys h k = (h.0, both_stated xs ys h.1 k)

-- The letters of a statement are statements.
abbrev HasStatedLetters : Sent → Type 0
HasStatedLetters s = IsTrue (statement s) → AreStatements (letter_occurrences s)

itself_stated : (s : Sent) → letter_occurrences s ≡ s ∷ [] → HasStatedLetters s
itself_stated s e c = subst (λ ls. AreStatements ls) (sym e) (c, tt)

parts_stated : (ps : List Sent) → AllByRecursion HasStatedLetters ps → ((p : Sent) → Contains ps p → IsTrue (statement p)) → AreStatements (flat_map letter_occurrences ps)
parts_stated [] h c = tt
parts_stated (p ∷ ps) h c = both_stated (letter_occurrences p) (flat_map letter_occurrences ps) (h.0 (c p (contains_here p ps))) (parts_stated ps h.1 (λ q i. c q (contains_there p q ps i)))

pub letters_stated : (s : Sent) → HasStatedLetters s
letters_stated = by_form HasStatedLetters (record {
  atom = λ p ts. itself_stated _ (letters_atom p ts);
  equation = λ a b. itself_stated _ (letters_eq a b);
  bottom = λ c. subst (λ ls. AreStatements ls) (sym letters_bottom) tt;
  negation = λ p h c. subst (λ ls. AreStatements ls) (sym (letters_not p)) (h (sym (stated_not p []) ∙ c));
  conjunction = λ ps h c. subst (λ ls. AreStatements ls) (sym (letters_and ps)) (parts_stated ps h (λ p i. conjunct_stated ps p c i));
  disjunction = λ ps h c. subst (λ ls. AreStatements ls) (sym (letters_or ps)) (parts_stated ps h (λ p i. disjunct_stated ps p c i));
  conditional = λ p q h k c. let w = and_parts _ _ (sym (stated_if p q []) ∙ c) in subst (λ ls. AreStatements ls) (sym (letters_if p q)) (both_stated (letter_occurrences p) (letter_occurrences q) (h w.0) (k w.1));
  biconditional = λ p q h k c. let w = and_parts _ _ (sym (stated_iff p q []) ∙ c) in subst (λ ls. AreStatements ls) (sym (letters_iff p q)) (both_stated (letter_occurrences p) (letter_occurrences q) (h w.0) (k w.1));
  universal = λ x p h. itself_stated _ (letters_all x p);
  existential = λ x p h. itself_stated _ (letters_ex x p);
})

pub all_letters_stated : (ss : List Sent) → AreStatements ss → AreStatements (flat_map letter_occurrences ss)
all_letters_stated [] h = tt
all_letters_stated (s ∷ ss) h = both_stated (letter_occurrences s) (flat_map letter_occurrences ss) (letters_stated s h.0) (all_letters_stated ss h.1)

-- the letters of one of the sentences are among those of all
pub letter_among : (ss : List Sent) (s l : Sent) → Contains ss s → Contains (letter_occurrences s) l → Contains (flat_map letter_occurrences ss) l
letter_among [] s l (k, w, e) i = absurd (omega (arith, w))
letter_among (t ∷ ss) s l c i =
    contains_cases (Contains (flat_map letter_occurrences (t ∷ ss)) l) t s ss
    (λ e. contains_left (letter_occurrences t) (flat_map letter_occurrences ss) l (subst (λ z. Contains (letter_occurrences z) l) (sym e) i))
    (λ d. contains_right (letter_occurrences t) (flat_map letter_occurrences ss) l (letter_among ss s l d i)) c
