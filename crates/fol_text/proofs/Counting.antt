-- The tokens of a sentence have as many predicates and terms as the sentence, so each of them has its place.
use Rattle.std.proofs.Common.{◌≡◌, ℕ, suc, ◌+◌, ◌≤◌, Bool, true, false, not, List, [], ◌∷◌, ◌++◌, length, map, None, if◌then◌else◌, refl, ap, sym, ◌∙◌, subst, arith, length-append, append_assoc}
use Rattle.std.specs.Prelude.{◌&&◌}
use Rattle.std.specs.List.{list_all}
use Rattle.std.proofs.lemmas.List.{append-nil}
use Rattle.fol_core.specs.Word.{Word, is_predicate}
use Rattle.fol_core.specs.Subst.{itself}
use Rattle.fol_core.specs.Closed.{closed}
use Rattle.fol_core.specs.Blocks.{has_places}
use Rattle.fol_core.specs.declared.sent.Term.{Term}
use Rattle.fol_core.specs.declared.sent.Term.TheVariants.{Var, Name, App}
use Rattle.fol_core.specs.declared.sent.Sent.{Sent}
use Rattle.fol_core.specs.declared.sent.Sent.TheVariants.{Atom, Eq, Bottom, Not, And, Or, If, Iff, All, Ex}
use Rattle.fol_text.specs.declared.token.Token.{Token}
use Rattle.fol_text.specs.declared.token.Token.TheVariants.{NotSign, AndSign, OrSign, IfSign, IffSign, AllSign, ExistsSign, FalsumSign, Equals, Unequal, Open, Close, Comma, Identifier}
use Rattle.fol_text.specs.declared.token.Placed.{Placed}
use Rattle.fol_text.specs.Tokens.{tokens_of}
use Rattle.fol_text.specs.Grammar.{SpellsTerm, variable, name, function, SpellsTerms, last_term, more_terms, Spells, one_part, conjunction, disjunction, conditional, biconditional, SpellsParts, last_part, more_parts, SpellsPart, letter, atom, equation, inequation, falsum, negation, universal, existential, group}
use Rattle.fol_text.specs.Occurrences.{names_predicate, names_term, is_quantifier, predicate_places, term_places, joined, fitting, word_marks, boundness, first_false}
use Rattle.fol_text.proofs.WordKinds.{variable_no_predicate, name_no_predicate}
use Rattle.fol_text.proofs.MarkLaws.{places_marked, closed_marked, marks_var, marks_name, marks_app, fitting_atom, fitting_eq, fitting_bottom, fitting_not, fitting_and, fitting_or, fitting_if, fitting_iff, fitting_all, fitting_ex, bound_atom, bound_eq, bound_bottom, bound_not, bound_and, bound_or, bound_if, bound_iff, bound_all, bound_ex}

-- how many of the tokens are predicates
abbrev predicates : List Token → ℕ
predicates [] = 0
predicates (k ∷ ks) = if names_predicate k then suc (predicates ks) else predicates ks

-- how many of the tokens are terms, where the flag says that a quantifier's sign stands before them
abbrev terms : Bool → List Token → ℕ
terms q [] = 0
terms q (k ∷ ks) = if not q && names_term k then suc (terms (is_quantifier k) ks) else terms (is_quantifier k) ks

length_if : (b : Bool) (n m : ℕ) (ns : List ℕ) → length ns ≡ m → length (if b then n ∷ ns else ns) ≡ (if b then suc m else m)
length_if true n m ns e = ap suc e
length_if false n m ns e = e

predicates_placed : (ks : List Placed) → length (predicate_places ks) ≡ predicates (tokens_of ks)
predicates_placed [] = refl
predicates_placed (k ∷ ks) = length_if (names_predicate k.token) k.place (predicates (tokens_of ks)) (predicate_places ks) (predicates_placed ks)

terms_placed : (q : Bool) (ks : List Placed) → length (term_places q ks) ≡ terms q (tokens_of ks)
terms_placed q [] = refl
terms_placed q (k ∷ ks) = length_if (not q && names_term k.token) k.place (terms (is_quantifier k.token) (tokens_of ks)) (term_places (is_quantifier k.token) ks) (terms_placed (is_quantifier k.token) ks)

-- one token

predicate_counts : (p : Word) (rest : List Token) → is_predicate p ≡ true → (predicates (Identifier p ∷ rest) ≡ suc (predicates rest)) × (terms false (Identifier p ∷ rest) ≡ terms false rest)
predicate_counts p rest i = (rw i refl, rw i refl)

term_counts_by : (w : Word) (rest : List Token) → is_predicate w ≡ false → (predicates (Identifier w ∷ rest) ≡ predicates rest) × (terms false (Identifier w ∷ rest) ≡ suc (terms false rest))
term_counts_by w rest i = (rw i refl, rw i refl)

variable_counts : (x : Word) (rest : List Token) → is_predicate x ≡ false → (predicates (Identifier x ∷ rest) ≡ predicates rest) × (terms true (Identifier x ∷ rest) ≡ terms false rest)
variable_counts x rest i = (rw i refl, refl)

-- the tokens have as many predicates and terms as the sentence
record Counted (ks : List Token) (s : Sent) : Type 0 where
  of_predicates : (rest : List Token) → predicates (ks ++ rest) ≡ length (fitting s) + predicates rest
  of_terms : (bound : List Word) (rest : List Token) → terms false (ks ++ rest) ≡ length (boundness s bound) + terms false rest

record PartsCounted (ks : List Token) (ss : List Sent) : Type 0 where
  of_predicates : (rest : List Token) → predicates (ks ++ rest) ≡ length (joined (map fitting ss)) + predicates rest
  of_terms : (bound : List Word) (rest : List Token) → terms false (ks ++ rest) ≡ length (joined (map (λ s. boundness s bound) ss)) + terms false rest

-- a sign that is neither a quantifier nor a word
record Quiet (k : Token) : Type 0 where
  of_predicates : (rest : List Token) → predicates (k ∷ rest) ≡ predicates rest
  of_terms : (rest : List Token) → terms false (k ∷ rest) ≡ terms false rest

and_quiet : Quiet AndSign
and_quiet = record { of_predicates = λ rest. refl; of_terms = λ rest. refl }

or_quiet : Quiet OrSign
or_quiet = record { of_predicates = λ rest. refl; of_terms = λ rest. refl }

equals_quiet : Quiet Equals
equals_quiet = record { of_predicates = λ rest. refl; of_terms = λ rest. refl }

unequal_quiet : Quiet Unequal
unequal_quiet = record { of_predicates = λ rest. refl; of_terms = λ rest. refl }

-- the tokens have as many words as the term
record TermCounted (ks : List Token) (t : Term) : Type 0 where
  of_predicates : (rest : List Token) → predicates (ks ++ rest) ≡ predicates rest
  of_terms : (bound : List Word) (rest : List Token) → terms false (ks ++ rest) ≡ length (word_marks bound t) + terms false rest

record TermsCounted (ks : List Token) (ts : List Term) : Type 0 where
  of_predicates : (rest : List Token) → predicates (ks ++ rest) ≡ predicates rest
  of_terms : (bound : List Word) (rest : List Token) → terms false (ks ++ rest) ≡ length (joined (map (word_marks bound) ts)) + terms false rest

var_counted : (x : Word) → is_predicate x ≡ false → TermCounted (Identifier x ∷ []) (Var x)
var_counted x i = record {
  of_predicates = λ rest. (term_counts_by x rest i).0;
  of_terms = λ bound rest. omega (arith, (term_counts_by x rest i).1, ap length (marks_var x bound));
}

name_counted : (n : Word) → is_predicate n ≡ false → TermCounted (Identifier n ∷ []) (Name n)
name_counted n i = record {
  of_predicates = λ rest. (term_counts_by n rest i).0;
  of_terms = λ bound rest. omega (arith, (term_counts_by n rest i).1, ap length (marks_name n bound));
}

function_counted : (g : Word) (ks : List Token) (ts : List Term) → is_predicate g ≡ false → TermsCounted ks ts → TermCounted (Identifier g ∷ Open ∷ ks ++ Close ∷ []) (App g ts)
function_counted g ks ts i c = record {
  of_predicates = λ rest. omega (arith, (term_counts_by g (Open ∷ ((ks ++ Close ∷ []) ++ rest)) i).0, ap predicates (append_assoc ks (Close ∷ []) rest), c.of_predicates (Close ∷ rest));
  of_terms = λ bound rest. omega (
    arith,
    (term_counts_by g (Open ∷ ((ks ++ Close ∷ []) ++ rest)) i).1,
    ap (λ (js : List Token). terms false js) (append_assoc ks (Close ∷ []) rest),
    c.of_terms bound (Close ∷ rest),
    ap length (marks_app g ts bound),
  );
}

terms_last : (ks : List Token) (t : Term) → TermCounted ks t → TermsCounted ks (t ∷ [])
terms_last ks t c = record {
  of_predicates = c.of_predicates;
  of_terms = λ bound rest. omega (arith, c.of_terms bound rest, ap length (append-nil (word_marks bound t)));
}

terms_more : (ks js : List Token) (t : Term) (ts : List Term) → TermCounted ks t → TermsCounted js ts → TermsCounted (ks ++ Comma ∷ js) (t ∷ ts)
terms_more ks js t ts c d = record {
  of_predicates = λ rest. omega (arith, ap predicates (append_assoc ks (Comma ∷ js) rest), c.of_predicates (Comma ∷ (js ++ rest)), d.of_predicates rest);
  of_terms = λ bound rest. omega (
    arith,
    ap (λ (ls : List Token). terms false ls) (append_assoc ks (Comma ∷ js) rest),
    c.of_terms bound (Comma ∷ (js ++ rest)),
    d.of_terms bound rest,
    length-append (word_marks bound t) (joined (map (word_marks bound) ts)),
  );
}

mutual
  term_counted : {n : ℕ} {ks : List Token} {t : Term} → SpellsTerm n ks t → TermCounted ks t
  term_counted (variable n x i) = var_counted x (variable_no_predicate x i)
  term_counted (name n k i) = name_counted k (name_no_predicate k i)
  term_counted (function n g ks ts i q) = function_counted g ks ts (name_no_predicate g i) (terms_counted q)

  terms_counted : {n : ℕ} {ks : List Token} {ts : List Term} → SpellsTerms n ks ts → TermsCounted ks ts
  terms_counted (last_term n ks t i) = terms_last ks t (term_counted i)
  terms_counted (more_terms n ks js t ts i q) = terms_more ks js t ts (term_counted i) (terms_counted q)

too_few : (n : ℕ) → suc n ≤ 0 → ⊥
too_few n h = omega (arith, h)

letter_counted : (p : Word) → is_predicate p ≡ true → Counted (Identifier p ∷ []) (Atom p [])
letter_counted p i = record {
  of_predicates = λ rest. omega (arith, (predicate_counts p rest i).0, ap length (fitting_atom p []));
  of_terms = λ bound rest. omega (arith, (predicate_counts p rest i).1, ap length (bound_atom p [] bound));
}

atom_counted : (p : Word) (ks : List Token) (ts : List Term) → is_predicate p ≡ true → TermsCounted ks ts → Counted (Identifier p ∷ Open ∷ ks ++ Close ∷ []) (Atom p ts)
atom_counted p ks ts i c = record {
  of_predicates = λ rest. omega (arith, (predicate_counts p (Open ∷ ((ks ++ Close ∷ []) ++ rest)) i).0, ap predicates (append_assoc ks (Close ∷ []) rest), c.of_predicates (Close ∷ rest), ap length (fitting_atom p ts));
  of_terms = λ bound rest. omega (
    arith,
    (predicate_counts p (Open ∷ ((ks ++ Close ∷ []) ++ rest)) i).1,
    ap (λ (js : List Token). terms false js) (append_assoc ks (Close ∷ []) rest),
    c.of_terms bound (Close ∷ rest),
    ap length (bound_atom p ts bound),
  );
}

equation_counted : (ks js : List Token) (r : Token) (a b : Term) → Quiet r → TermCounted ks a → TermCounted js b → Counted (ks ++ r ∷ js) (Eq a b)
equation_counted ks js r a b h x y = record {
  of_predicates = λ rest. omega (arith, ap predicates (append_assoc ks (r ∷ js) rest), x.of_predicates (r ∷ (js ++ rest)), h.of_predicates (js ++ rest), y.of_predicates rest, ap length (fitting_eq a b));
  of_terms = λ bound rest. omega (
    arith,
    ap (λ (ls : List Token). terms false ls) (append_assoc ks (r ∷ js) rest),
    x.of_terms bound (r ∷ (js ++ rest)),
    h.of_terms (js ++ rest),
    y.of_terms bound rest,
    length-append (word_marks bound a) (word_marks bound b),
    ap length (bound_eq a b bound),
  );
}

denied_counted : (ks : List Token) (s : Sent) → Counted ks s → Counted ks (Not s)
denied_counted ks s c = record {
  of_predicates = λ rest. omega (arith, c.of_predicates rest, ap length (fitting_not s));
  of_terms = λ bound rest. omega (arith, c.of_terms bound rest, ap length (bound_not s bound));
}

negation_counted : (ks : List Token) (s : Sent) → Counted ks s → Counted (NotSign ∷ ks) (Not s)
negation_counted ks s c = record {
  of_predicates = λ rest. omega (arith, c.of_predicates rest, ap length (fitting_not s));
  of_terms = λ bound rest. omega (arith, c.of_terms bound rest, ap length (bound_not s bound));
}

universal_counted : (x : Word) (ks : List Token) (s : Sent) → is_predicate x ≡ false → Counted ks s → Counted (AllSign ∷ Identifier x ∷ ks) (All x s)
universal_counted x ks s i c = record {
  of_predicates = λ rest. omega (arith, (variable_counts x (ks ++ rest) i).0, c.of_predicates rest, ap length (fitting_all x s));
  of_terms = λ bound rest. omega (arith, (variable_counts x (ks ++ rest) i).1, c.of_terms (x ∷ bound) rest, ap length (bound_all x s bound));
}

existential_counted : (x : Word) (ks : List Token) (s : Sent) → is_predicate x ≡ false → Counted ks s → Counted (ExistsSign ∷ Identifier x ∷ ks) (Ex x s)
existential_counted x ks s i c = record {
  of_predicates = λ rest. omega (arith, (variable_counts x (ks ++ rest) i).0, c.of_predicates rest, ap length (fitting_ex x s));
  of_terms = λ bound rest. omega (arith, (variable_counts x (ks ++ rest) i).1, c.of_terms (x ∷ bound) rest, ap length (bound_ex x s bound));
}

falsum_counted : Counted (FalsumSign ∷ []) Bottom
falsum_counted = record {
  of_predicates = λ rest. omega (arith, ap length fitting_bottom);
  of_terms = λ bound rest. omega (arith, ap length (bound_bottom bound));
}

group_counted : (ks : List Token) (s : Sent) → Counted ks s → Counted (Open ∷ ks ++ Close ∷ []) s
group_counted ks s c = record {
  of_predicates = λ rest. omega (arith, ap predicates (append_assoc ks (Close ∷ []) rest), c.of_predicates (Close ∷ rest));
  of_terms = λ bound rest. omega (arith, ap (λ (js : List Token). terms false js) (append_assoc ks (Close ∷ []) rest), c.of_terms bound (Close ∷ rest));
}

-- several parts, the first of which is counted
parts_more : (k : Token) (ks js : List Token) (s : Sent) (ss : List Sent) → Quiet k → Counted ks s → PartsCounted js ss → PartsCounted (ks ++ k ∷ js) (s ∷ ss)
parts_more k ks js s ss h c d = record {
  of_predicates = λ rest. omega (arith, ap predicates (append_assoc ks (k ∷ js) rest), c.of_predicates (k ∷ (js ++ rest)), h.of_predicates (js ++ rest), d.of_predicates rest, length-append (fitting s) (joined (map fitting ss)));
  of_terms = λ bound rest. omega (
    arith,
    ap (λ (ls : List Token). terms false ls) (append_assoc ks (k ∷ js) rest),
    c.of_terms bound (k ∷ (js ++ rest)),
    h.of_terms (js ++ rest),
    d.of_terms bound rest,
    length-append (boundness s bound) (joined (map (λ (t : Sent). boundness t bound) ss)),
  );
}

parts_last : (ks : List Token) (s : Sent) → Counted ks s → PartsCounted ks (s ∷ [])
parts_last ks s c = record {
  of_predicates = λ rest. omega (arith, c.of_predicates rest, ap length (append-nil (fitting s)));
  of_terms = λ bound rest. omega (arith, c.of_terms bound rest, ap length (append-nil (boundness s bound)));
}

and_counted : (ks : List Token) (ss : List Sent) → PartsCounted ks ss → Counted ks (And ss)
and_counted ks ss c = record {
  of_predicates = λ rest. omega (arith, c.of_predicates rest, ap length (fitting_and ss));
  of_terms = λ bound rest. omega (arith, c.of_terms bound rest, ap length (bound_and ss bound));
}

or_counted : (ks : List Token) (ss : List Sent) → PartsCounted ks ss → Counted ks (Or ss)
or_counted ks ss c = record {
  of_predicates = λ rest. omega (arith, c.of_predicates rest, ap length (fitting_or ss));
  of_terms = λ bound rest. omega (arith, c.of_terms bound rest, ap length (bound_or ss bound));
}

if_counted : (ks js : List Token) (s t : Sent) → Counted ks s → Counted js t → Counted (ks ++ IfSign ∷ js) (If s t)
if_counted ks js s t c d = record {
  of_predicates = λ rest. omega (arith, ap predicates (append_assoc ks (IfSign ∷ js) rest), c.of_predicates (IfSign ∷ (js ++ rest)), d.of_predicates rest, length-append (fitting s) (fitting t), ap length (fitting_if s t));
  of_terms = λ bound rest. omega (
    arith,
    ap (λ (ls : List Token). terms false ls) (append_assoc ks (IfSign ∷ js) rest),
    c.of_terms bound (IfSign ∷ (js ++ rest)),
    d.of_terms bound rest,
    length-append (boundness s bound) (boundness t bound),
    ap length (bound_if s t bound),
  );
}

iff_counted : (ks js : List Token) (s t : Sent) → Counted ks s → Counted js t → Counted (ks ++ IffSign ∷ js) (Iff s t)
iff_counted ks js s t c d = record {
  of_predicates = λ rest. omega (arith, ap predicates (append_assoc ks (IffSign ∷ js) rest), c.of_predicates (IffSign ∷ (js ++ rest)), d.of_predicates rest, length-append (fitting s) (fitting t), ap length (fitting_iff s t));
  of_terms = λ bound rest. omega (
    arith,
    ap (λ (ls : List Token). terms false ls) (append_assoc ks (IffSign ∷ js) rest),
    c.of_terms bound (IffSign ∷ (js ++ rest)),
    d.of_terms bound rest,
    length-append (boundness s bound) (boundness t bound),
    ap length (bound_iff s t bound),
  );
}

mutual
  part_counted : {n : ℕ} {ks : List Token} {s : Sent} → SpellsPart n ks s → Counted ks s
  part_counted (letter n p i) = letter_counted p i
  part_counted (atom n p ks ts i q) = atom_counted p ks ts i (terms_counted q)
  part_counted (equation n ks js a b x y) = equation_counted ks js Equals a b equals_quiet (term_counted x) (term_counted y)
  part_counted (inequation n ks js a b x y) = denied_counted (ks ++ Unequal ∷ js) (Eq a b) (equation_counted ks js Unequal a b unequal_quiet (term_counted x) (term_counted y))
  part_counted (falsum n) = falsum_counted
  part_counted (negation n ks s q) = negation_counted ks s (part_counted q)
  part_counted (universal n x ks s v q) = universal_counted x ks s (variable_no_predicate x v) (part_counted q)
  part_counted (existential n x ks s v q) = existential_counted x ks s (variable_no_predicate x v) (part_counted q)
  part_counted (group n ks s q) = group_counted ks s (sentence_counted q)

  parts_counted : {k : Token} {n : ℕ} {ks : List Token} {ss : List Sent} → SpellsParts k n ks ss → Quiet k → PartsCounted ks ss
  parts_counted (last_part k n ks s q) h = parts_last ks s (part_counted q)
  parts_counted (more_parts k n ks js s ss q r) h = parts_more k ks js s ss h (part_counted q) (parts_counted r h)

  sentence_counted : {n : ℕ} {ks : List Token} {s : Sent} → Spells n ks s → Counted ks s
  sentence_counted (one_part n ks s q) = part_counted q
  sentence_counted (conjunction n ks js s ss q r) = and_counted (ks ++ AndSign ∷ js) (s ∷ ss) (parts_more AndSign ks js s ss and_quiet (part_counted q) (parts_counted r and_quiet))
  sentence_counted (disjunction n ks js s ss q r) = or_counted (ks ++ OrSign ∷ js) (s ∷ ss) (parts_more OrSign ks js s ss or_quiet (part_counted q) (parts_counted r or_quiet))
  sentence_counted (conditional n ks js s t q r) = if_counted ks js s t (part_counted q) (part_counted r)
  sentence_counted (biconditional n ks js s t q r) = iff_counted ks js s t (part_counted q) (part_counted r)

-- where no mark is false, all are true
all_true : (marks : List Bool) (places : List ℕ) → length marks ≤ length places → first_false marks places ≡ None → list_all itself marks ≡ true
all_true [] places h e = refl
all_true (b ∷ marks) [] h e = absurd (too_few (length marks) h)
all_true (true ∷ marks) (n ∷ places) h e = all_true marks places (omega (arith, h)) e
all_true (false ∷ marks) (n ∷ places) h e = cc

-- Where no predicate is wrong, each has its number of places.
pub places_right : (n : ℕ) (ks : List Placed) (s : Sent) → Spells n (tokens_of ks) s → first_false (fitting s) (predicate_places ks) ≡ None → has_places s ≡ true
places_right n ks s q e =
    let c = sentence_counted q in
    let counted : length (fitting s) ≤ length (predicate_places ks) = omega (arith, c.of_predicates [], ap predicates (append-nil (tokens_of ks)), predicates_placed ks) in
    places_marked s ∙ all_true (fitting s) (predicate_places ks) counted e

-- Where no variable is free, the sentence is closed.
pub variables_bound : (n : ℕ) (ks : List Placed) (s : Sent) → Spells n (tokens_of ks) s → first_false (boundness s []) (term_places false ks) ≡ None → closed s ≡ true
variables_bound n ks s q e =
    let c = sentence_counted q in
    let counted : length (boundness s []) ≤ length (term_places false ks) = omega (arith, c.of_terms [] [], ap (λ (ls : List Token). terms false ls) (append-nil (tokens_of ks)), terms_placed false ks) in
    closed_marked s [] ∙ all_true (boundness s []) (term_places false ks) counted e
