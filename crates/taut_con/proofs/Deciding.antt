-- A valuation whose literals are derivable decides each statement over its letters.
use Rattle.std.proofs.Common.{◌≡◌, List, [], ◌∷◌, ◌++◌, sym, ◌∙◌, subst, Bool, true, false, IsTrue, Contains}
use Rattle.std.specs.Prelude.{not, ◌&&◌, ◌||◌}
use Rattle.std.specs.List.{flat_map, list_any, list_all, AllByRecursion}
use Rattle.std.proofs.lemmas.Bool.{and_parts}
use Rattle.fol_core.specs.declared.sent.Sent.{Sent}
use Rattle.fol_core.specs.declared.sent.Sent.TheVariants.{Bottom, Not, And, Or, If, Iff}
use Rattle.fol_core.specs.Statements.{statement}
use Rattle.fol_core.proofs.Stating.{stated_bottom, stated_not, stated_if, stated_iff}
use Rattle.fol_core.proofs.Forms.{conjunct_stated, disjunct_stated}
use Rattle.deriv_laws.specs.Derivable.{Der}
use Rattle.deriv_laws.proofs.Lists.{all_left, all_right}
use Rattle.deriv_laws.proofs.Members.{contains_here, contains_there, contains_cases, all_given, all_each}
use Rattle.deriv_laws.proofs.Laws.{assume, weaken, weaken_by, and_intro, and_elim}
use Rattle.deriv_laws.proofs.Connectives.{or_intro, or_elim, not_intro, not_elim, bot_intro, bot_elim, if_intro, if_elim, iff_intro, iff_elim, iff_back, cut}
use Rattle.taut_con.specs.Letters.{letter_occurrences}
use Rattle.taut_con.specs.Values.{value, agree}
use Rattle.taut_con.proofs.Equations.{letters_atom, letters_eq, letters_not, letters_and, letters_or, letters_if, letters_iff, letters_all, letters_ex, value_atom, value_eq, value_bottom, value_not, value_and, value_or, value_if, value_iff, value_all, value_ex}
use Rattle.taut_con.proofs.Induction.{by_form}

-- The sentence where it is true, and its denial where it is false.
abbrev pub signed : Bool → Sent → Sent
signed true p = p
signed false p = Not p

-- what is given first

first : (gs : List Sent) (p : Sent) → IsTrue (statement p) → Der (p ∷ gs) p
first gs p c = assume (p ∷ gs) p (contains_here p gs) c

not_stated : (p : Sent) → IsTrue (statement p) → IsTrue (statement (Not p))
not_stated p c = stated_not p [] ∙ c

-- everything follows from a sentence and its denial
conflict : (gs : List Sent) (p q : Sent) → Der gs p → Der gs (Not p) → IsTrue (statement q) → Der gs q
conflict gs p q d e c = bot_elim gs q (bot_intro gs p d e) c

-- the connectives

for_not : (gs : List Sent) (p : Sent) (b : Bool) → IsTrue (statement p) → Der gs (signed b p) → Der gs (signed (not b) (Not p))
for_not gs p true c d = not_intro gs (Not p) (bot_intro (Not p ∷ gs) p (weaken_by gs (Not p) p d) (first gs (Not p) (not_stated p c))) (not_stated p c)
for_not gs p false c d = d

for_if : (gs : List Sent) (p q : Sent) (a b : Bool) → IsTrue (statement (If p q)) → Der gs (signed a p) → Der gs (signed b q) → Der gs (signed (not a || b) (If p q))
for_if gs p q true true c d e = if_intro gs p q (weaken_by gs p q e) (and_parts _ _ (sym (stated_if p q []) ∙ c)).0
for_if gs p q true false c d e =
    let hs : List Sent = If p q ∷ gs in
    not_intro gs (If p q) (bot_intro hs q (if_elim hs p q (first gs (If p q) c) (weaken_by gs (If p q) p d)) (weaken_by gs (If p q) (Not q) e)) c
for_if gs p q false b c d e =
    let k = and_parts _ _ (sym (stated_if p q []) ∙ c) in
    if_intro gs p q (conflict (p ∷ gs) p q (first gs p k.0) (weaken_by gs p (Not p) d) k.1) k.0

for_iff : (gs : List Sent) (p q : Sent) (a b : Bool) → IsTrue (statement (Iff p q)) → Der gs (signed a p) → Der gs (signed b q) → Der gs (signed (agree a b) (Iff p q))
for_iff gs p q true true c d e = iff_intro gs p q (weaken_by gs p q e) (weaken_by gs q p d)
for_iff gs p q true false c d e =
    let hs : List Sent = Iff p q ∷ gs in
    not_intro gs (Iff p q) (bot_intro hs q (iff_elim hs p q (first gs (Iff p q) c) (weaken_by gs (Iff p q) p d)) (weaken_by gs (Iff p q) (Not q) e)) c
for_iff gs p q false true c d e =
    let hs : List Sent = Iff p q ∷ gs in
    not_intro gs (Iff p q) (bot_intro hs p (iff_back hs p q (first gs (Iff p q) c) (weaken_by gs (Iff p q) q e)) (weaken_by gs (Iff p q) (Not p) d)) c
for_iff gs p q false false c d e =
    let k = and_parts _ _ (sym (stated_iff p q []) ∙ c) in
    iff_intro gs p q (conflict (p ∷ gs) p q (first gs p k.0) (weaken_by gs p (Not p) d) k.1) (conflict (q ∷ gs) q p (first gs q k.1) (weaken_by gs q (Not q) e) k.0)

-- Each of the sentences is decided as the valuation says.
abbrev pub AreDecided : List Sent → (Sent → Bool) → List Sent → Type 0
AreDecided gs f ps = AllByRecursion (λ p. Der gs (signed (f p) p)) ps

-- all of them are derivable, or the denial of one is
abbrev Refuted : List Sent → List Sent → Type 0
Refuted gs ps = (p : Sent) × Contains ps p × Der gs (Not p)

abbrev Shown : List Sent → List Sent → Type 0
Shown gs ps = (p : Sent) × Contains ps p × Der gs p

abbrev AllShown : List Sent → List Sent → Type 0
AllShown gs ps = AllByRecursion (λ p. Der gs p) ps

abbrev AllRefuted : List Sent → List Sent → Type 0
AllRefuted gs ps = AllByRecursion (λ p. Der gs (Not p)) ps

-- what a conjunction of truth values shows of its parts
abbrev ByAll : List Sent → List Sent → Bool → Type 0
ByAll gs ps true = AllShown gs ps
ByAll gs ps false = Refuted gs ps

abbrev BySome : List Sent → List Sent → Bool → Type 0
BySome gs ps true = Shown gs ps
BySome gs ps false = AllRefuted gs ps

one_all : (gs : List Sent) (p : Sent) (ps : List Sent) (a b : Bool) → Der gs (signed a p) → ByAll gs ps b → ByAll gs (p ∷ ps) (a && b)
one_all gs p ps true true d h = (d, h)
one_all gs p ps true false d h = (h.0, contains_there p h.0 ps h.1, h.2)
one_all gs p ps false b d h = (p, contains_here p ps, d)

by_all : (gs : List Sent) (f : Sent → Bool) (ps : List Sent) → AreDecided gs f ps → ByAll gs ps (list_all f ps)
by_all gs f [] h = tt
by_all gs f (p ∷ ps) h = one_all gs p ps (f p) (list_all f ps) h.0 (by_all gs f ps h.1)

one_some : (gs : List Sent) (p : Sent) (ps : List Sent) (a b : Bool) → Der gs (signed a p) → BySome gs ps b → BySome gs (p ∷ ps) (a || b)
one_some gs p ps true b d h = (p, contains_here p ps, d)
one_some gs p ps false true d h = (h.0, contains_there p h.0 ps h.1, h.2)
one_some gs p ps false false d h = (d, h)

by_some : (gs : List Sent) (f : Sent → Bool) (ps : List Sent) → AreDecided gs f ps → BySome gs ps (list_any f ps)
by_some gs f [] h = tt
by_some gs f (p ∷ ps) h = one_some gs p ps (f p) (list_any f ps) h.0 (by_some gs f ps h.1)

for_and : (gs ps : List Sent) (b : Bool) → IsTrue (statement (And ps)) → ByAll gs ps b → Der gs (signed b (And ps))
for_and gs ps true c h = and_intro gs ps h c
for_and gs ps false c h =
    let hs : List Sent = And ps ∷ gs in
    not_intro gs (And ps) (bot_intro hs h.0 (and_elim hs ps h.0 (first gs (And ps) c) h.1 (conjunct_stated ps h.0 c h.1)) (weaken_by gs (And ps) (Not h.0) h.2)) c

for_or : (gs ps : List Sent) (b : Bool) → IsTrue (statement (Or ps)) → BySome gs ps b → Der gs (signed b (Or ps))
for_or gs ps true c h = or_intro gs ps h.0 h.2 h.1 c
for_or gs ps false c h =
    let hs : List Sent = Or ps ∷ gs in
    not_intro gs (Or ps)
    (or_elim hs ps Bottom (first gs (Or ps) c)
    (all_given (λ p. Der (p ∷ hs) Bottom) ps (λ p i.
    bot_intro (p ∷ hs) p (first hs p (disjunct_stated ps p c i)) (weaken_by hs p (Not p) (weaken_by gs (Or ps) (Not p) (all_each (λ q. Der gs (Not q)) ps p h i)))))
    (stated_bottom []))
    c

-- A statement whose letters are decided is decided.
abbrev pub IsDecided : List Sent → (Sent → Bool) → Sent → Type 0
IsDecided gs v s = IsTrue (statement s) → AreDecided gs v (letter_occurrences s) → Der gs (signed (value v s) s)

-- a sentence that is its own one letter
letter_decided : (gs : List Sent) (v : Sent → Bool) (s : Sent) → letter_occurrences s ≡ s ∷ [] → value v s ≡ v s → IsDecided gs v s
letter_decided gs v s e k c h =
    let d : AreDecided gs v (s ∷ []) = subst (λ ls. AreDecided gs v ls) e h in
    subst (λ b. Der gs (signed b s)) (sym k) d.0

parts_decided : (gs : List Sent) (v : Sent → Bool) (ps : List Sent) → AllByRecursion (IsDecided gs v) ps → ((p : Sent) → Contains ps p → IsTrue (statement p)) → AreDecided gs v (flat_map letter_occurrences ps) → AreDecided gs (value v) ps
parts_decided gs v [] h c d = tt
parts_decided gs v (p ∷ ps) h c d = (
  h.0 (c p (contains_here p ps)) (all_left (λ q. Der gs (signed (v q) q)) (letter_occurrences p) (flat_map letter_occurrences ps) d),
  parts_decided gs v ps h.1 (λ q i. c q (contains_there p q ps i)) (all_right (λ q. Der gs (signed (v q) q)) (letter_occurrences p) (flat_map letter_occurrences ps) d),
)

not_decided : (gs : List Sent) (v : Sent → Bool) (p : Sent) → IsDecided gs v p → IsDecided gs v (Not p)
not_decided gs v p h c d =
    let k : IsTrue (statement p) = sym (stated_not p []) ∙ c in
    subst (λ b. Der gs (signed b (Not p))) (sym (value_not v p)) (for_not gs p (value v p) k (h k (subst (λ ls. AreDecided gs v ls) (letters_not p) d)))

and_decided : (gs : List Sent) (v : Sent → Bool) (ps : List Sent) → AllByRecursion (IsDecided gs v) ps → IsDecided gs v (And ps)
and_decided gs v ps h c d =
    subst (λ b. Der gs (signed b (And ps))) (sym (value_and v ps))
    (for_and gs ps (list_all (value v) ps) c (by_all gs (value v) ps (parts_decided gs v ps h (λ p i. conjunct_stated ps p c i) (subst (λ ls. AreDecided gs v ls) (letters_and ps) d))))

or_decided : (gs : List Sent) (v : Sent → Bool) (ps : List Sent) → AllByRecursion (IsDecided gs v) ps → IsDecided gs v (Or ps)
or_decided gs v ps h c d =
    subst (λ b. Der gs (signed b (Or ps))) (sym (value_or v ps))
    (for_or gs ps (list_any (value v) ps) c (by_some gs (value v) ps (parts_decided gs v ps h (λ p i. disjunct_stated ps p c i) (subst (λ ls. AreDecided gs v ls) (letters_or ps) d))))

if_decided : (gs : List Sent) (v : Sent → Bool) (p q : Sent) → IsDecided gs v p → IsDecided gs v q → IsDecided gs v (If p q)
if_decided gs v p q h k c d =
    let w = and_parts _ _ (sym (stated_if p q []) ∙ c) in
    let e : AreDecided gs v (letter_occurrences p ++ letter_occurrences q) = subst (λ ls. AreDecided gs v ls) (letters_if p q) d in
    subst (λ b. Der gs (signed b (If p q))) (sym (value_if v p q))
    (for_if gs p q (value v p) (value v q) c (h w.0 (all_left (λ l. Der gs (signed (v l) l)) (letter_occurrences p) (letter_occurrences q) e)) (k w.1 (all_right (λ l. Der gs (signed (v l) l)) (letter_occurrences p) (letter_occurrences q) e)))

iff_decided : (gs : List Sent) (v : Sent → Bool) (p q : Sent) → IsDecided gs v p → IsDecided gs v q → IsDecided gs v (Iff p q)
iff_decided gs v p q h k c d =
    let w = and_parts _ _ (sym (stated_iff p q []) ∙ c) in
    let e : AreDecided gs v (letter_occurrences p ++ letter_occurrences q) = subst (λ ls. AreDecided gs v ls) (letters_iff p q) d in
    subst (λ b. Der gs (signed b (Iff p q))) (sym (value_iff v p q))
    (for_iff gs p q (value v p) (value v q) c (h w.0 (all_left (λ l. Der gs (signed (v l) l)) (letter_occurrences p) (letter_occurrences q) e)) (k w.1 (all_right (λ l. Der gs (signed (v l) l)) (letter_occurrences p) (letter_occurrences q) e)))

pub decided : (gs : List Sent) (v : Sent → Bool) (s : Sent) → IsDecided gs v s
decided gs v = by_form (IsDecided gs v) (record {
  atom = λ p ts. letter_decided gs v _ (letters_atom p ts) (value_atom v p ts);
  equation = λ a b. letter_decided gs v _ (letters_eq a b) (value_eq v a b);
  bottom = λ c d. subst (λ b. Der gs (signed b Bottom)) (sym (value_bottom v)) (not_intro gs Bottom (first gs Bottom c) c);
  negation = not_decided gs v;
  conjunction = and_decided gs v;
  disjunction = or_decided gs v;
  conditional = if_decided gs v;
  biconditional = iff_decided gs v;
  universal = λ x p h. letter_decided gs v _ (letters_all x p) (value_all v x p);
  existential = λ x p h. letter_decided gs v _ (letters_ex x p) (value_ex v x p);
})

-- Case by a sentence and its denial.
pub either_way : (gs : List Sent) (l s : Sent) → IsTrue (statement l) → IsTrue (statement s) → Der (l ∷ gs) s → Der (Not l ∷ gs) s → Der gs s
either_way gs l s c k d e =
    let hs : List Sent = Not s ∷ gs in
    let n : IsTrue (statement (Not s)) = not_stated s k in
    let denied : Der hs (Not s) = first gs (Not s) n in
    let no : Der hs (Not l) = not_intro hs l (bot_intro (l ∷ hs) s (weaken (l ∷ gs) (l ∷ hs) s (over l (Not s) gs) d) (weaken_by hs l (Not s) denied)) c in
    let yes : Der hs s = cut hs (Not l) s no (weaken (Not l ∷ gs) (Not l ∷ hs) s (over (Not l) (Not s) gs) e) in
    not_elim gs s (not_intro gs (Not s) (bot_intro hs s yes denied) n)
  where
    over : (a b : Sent) (gs : List Sent) (x : Sent) → Contains (a ∷ gs) x → Contains (a ∷ b ∷ gs) x
    over a b gs x i = contains_cases (Contains (a ∷ b ∷ gs) x) a x gs (λ e. subst (λ z. Contains (a ∷ b ∷ gs) z) e (contains_here a (b ∷ gs))) (λ j. contains_there a x (b ∷ gs) (contains_there b x gs j)) i
