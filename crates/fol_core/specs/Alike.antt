-- Terms and sentences that are alike but for some occurrences of a term.
use Rattle.std.specs.Prelude.{Bool, true, false, ◌&&◌, ◌||◌, List, [], ◌∷◌, map}
use Rattle.std.specs.Str.{bytes_eq}
use Rattle.fol_core.specs.Word.{Word}
use Rattle.fol_core.specs.declared.sent.Term.{Term, out-Term}
use Rattle.fol_core.specs.declared.sent.Term.TheOpen.{Term-F}
use Rattle.fol_core.specs.declared.sent.Term.TheOpen as t
use Rattle.fol_core.specs.declared.sent.Term.TheVariants.{Var, Name, App}
use Rattle.fol_core.specs.declared.sent.Term.TheFolds.{fold-Term}
use Rattle.fol_core.specs.declared.sent.Sent.{Sent, out-Sent}
use Rattle.fol_core.specs.declared.sent.Sent.TheOpen.{Sent-F}
use Rattle.fol_core.specs.declared.sent.Sent.TheOpen as f
use Rattle.fol_core.specs.declared.sent.Sent.TheFolds.{fold-Sent}

-- Each test holds of the item beside it, and there are as many of both.
abbrev pub pairwise : {X : Type 0} → List (X → Bool) → List X → Bool
pairwise [] [] = true
pairwise (g ∷ gs) (x ∷ xs) = g x && pairwise gs xs
pairwise _ _ = false

-- The test holds of each two items side by side, and there are as many of both.
abbrev pub all_pairs : {X Y : Type 0} → (Y → X → Bool) → List Y → List X → Bool
all_pairs f [] [] = true
all_pairs f (y ∷ ys) (x ∷ xs) = f y x && all_pairs f ys xs
all_pairs f _ _ = false

-- Two terms of one form: their words are the same, and each test holds of the argument in its place.
abbrev pub form_step : Term-F (Term → Bool) → Term-F Term → Bool
form_step (t.Var x) (t.Var y) = bytes_eq x y
form_step (t.Name a) (t.Name b) = bytes_eq a b
form_step (t.App g hs) (t.App h us) = bytes_eq g h && pairwise hs us
form_step _ _ = false

-- The two terms are one.
abbrev pub same_term : Term → Term → Bool
same_term = fold-Term (Term → Bool) (λ g u. form_step g (out-Term u))

-- A term, beside a test of another.
abbrev pub Tested : Type 0
Tested = Term × (Term → Bool)

-- The term of which this is one form, its arguments being tested.
abbrev pub untested : Term-F Tested → Term
untested (t.Var x) = Var x
untested (t.Name n) = Name n
untested (t.App g es) = App g (map (λ (e : Tested). e.0) es)

-- The same form with the tests alone.
abbrev pub tests : Term-F Tested → Term-F (Term → Bool)
tests (t.Var x) = t.Var x
tests (t.Name n) = t.Name n
tests (t.App g es) = t.App g (map (λ (e : Tested). e.1) es)

-- One form of term, with the test of another: the first is the term n and the other is m, or both are of one form with
-- arguments that pass side by side.
abbrev pub repl_term_step : Term → Term → Term-F Tested → Tested
repl_term_step n m g = (untested g, λ u. (same_term (untested g) n && same_term u m) || form_step (tests g) (out-Term u))

-- The two terms are one, or are n and m, or are one function with arguments that are so, each to the one in its place.
abbrev pub repl_term : Term → Term → Term → Term → Bool
repl_term n m a = (fold-Term Tested (repl_term_step n m) a).1

-- Two terms of one form: their words are the same, and their arguments are so related, each to the one in its place.
abbrev pub inside_step : Term → Term → Term-F Term → Term-F Term → Bool
inside_step n m (t.Var x) (t.Var y) = bytes_eq x y
inside_step n m (t.Name a) (t.Name b) = bytes_eq a b
inside_step n m (t.App g ts) (t.App h us) = bytes_eq g h && all_pairs (repl_term n m) ts us
inside_step n m _ _ = false

-- The two terms are alike but for occurrences of n inside the first.
abbrev pub repl_inside : Term → Term → Term → Term → Bool
repl_inside n m a b = inside_step n m (out-Term a) (out-Term b)

-- Two sentences of one form: their terms are alike, and so are their parts, each to the one in its place.
abbrev pub repl_step : Term → Term → Sent-F (Sent → Bool) → Sent-F Sent → Bool
repl_step n m (f.Atom p ts) (f.Atom q us) = bytes_eq p q && all_pairs (repl_term n m) ts us
repl_step n m (f.Eq a b) (f.Eq c d) = repl_term n m a c && repl_term n m b d
repl_step n m f.Bottom f.Bottom = true
repl_step n m (f.Not g) (f.Not q) = g q
repl_step n m (f.And gs) (f.And qs) = pairwise gs qs
repl_step n m (f.Or gs) (f.Or qs) = pairwise gs qs
repl_step n m (f.If g h) (f.If q r) = g q && h r
repl_step n m (f.Iff g h) (f.Iff q r) = g q && h r
repl_step n m (f.All x g) (f.All y q) = bytes_eq x y && g q
repl_step n m (f.Ex x g) (f.Ex y q) = bytes_eq x y && g q
repl_step n m _ _ = false

-- The second sentence is the first with the term m for some of the occurrences of the term n: none, all, or any between.
abbrev pub repl : Term → Term → Sent → Sent → Bool
repl n m = fold-Sent (Sent → Bool) (λ x q. repl_step n m x (out-Sent q))
