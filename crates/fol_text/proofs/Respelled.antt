-- What is printed of a well-formed sentence spells the sentence, and at no token are more pending than the sentence is deep.
use Rattle.std.proofs.Common.{◌≡◌, ℕ, zero, suc, ◌+◌, ◌≤◌, max, Bool, true, List, [], ◌∷◌, ◌++◌, length, map, Some, refl, ap, sym, true≢false, ◌∙◌, subst, append_assoc, arith}
use Rattle.std.specs.Prelude.{◌&&◌, nat_le}
use Rattle.std.specs.List.{list_all}
use Rattle.std.proofs.lemmas.Bool.{and_parts}
use Rattle.fol_core.specs.Word.{Word, is_predicate, is_variable, is_name}
use Rattle.fol_core.specs.Subst.{itself}
use Rattle.fol_core.specs.Blocks.{fits}
use Rattle.fol_core.specs.Size.{depth, depth_step, greatest, term_depth, term_depth_step}
use Rattle.fol_core.specs.Formed.{formed, formed_step, is_formed_term, formed_term_step}
use Rattle.fol_core.specs.declared.sent.Term.{Term, roll-Term}
use Rattle.fol_core.specs.declared.sent.Term.TheVariants.{Var, Name, App, rolls-Var, rolls-Name, rolls-App}
use Rattle.fol_core.specs.declared.sent.Term.TheOpen.{Term-F}
use Rattle.fol_core.specs.declared.sent.Term.TheOpen as t
use Rattle.fol_core.specs.declared.sent.Term.TheFolds.{ind-Term, fold-roll-Term, map-Term}
use Rattle.fol_core.specs.declared.sent.Sent.{Sent, roll-Sent}
use Rattle.fol_core.specs.declared.sent.Sent.TheVariants.{Atom, Eq, Bottom, Not, And, Or, If, Iff, All, Ex, rolls-Atom, rolls-Eq, rolls-Bottom, rolls-Not, rolls-And, rolls-Or, rolls-If, rolls-Iff, rolls-All, rolls-Ex}
use Rattle.fol_core.specs.declared.sent.Sent.TheOpen.{Sent-F}
use Rattle.fol_core.specs.declared.sent.Sent.TheOpen as f
use Rattle.fol_core.specs.declared.sent.Sent.TheFolds.{ind-Sent, fold-roll-Sent, map-Sent}
use Rattle.fol_core.proofs.Parts.{all_itself}
use Rattle.fol_text.specs.declared.token.Token.{Token}
use Rattle.fol_text.specs.declared.token.Token.TheVariants.{NotSign, AndSign, OrSign, IfSign, IffSign, AllSign, ExistsSign, FalsumSign, Equals, Unequal, Open, Close, Comma, Identifier}
use Rattle.fol_text.specs.Tokens.{typed_sign}
use Rattle.fol_text.specs.Grammar.{SpellsTerm, variable, name, function, SpellsTerms, last_term, more_terms, Spells, one_part, conjunction, disjunction, conditional, biconditional, SpellsParts, last_part, more_parts, SpellsPart, letter, atom, equation, inequation, falsum, negation, universal, existential, group}
use Rattle.fol_text.specs.Printed.{Texts, shown, printed_step, plain, with_connective, separated, term_text, term_step, atom_text, in_parentheses}
use Rattle.fol_text.proofs.WordKinds.{variable_ident, name_ident, predicate_ident}
use Rattle.fol_text.proofs.Written.{Written, sign_written, word_written, both_written, sign_alone, group_written, comma_written, spaced_written, quantifier_written, not_typed, and_typed, or_typed, if_typed, iff_typed, all_typed, exists_typed, falsum_typed, equals_typed, unequal_typed}

-- terms

-- The text of a term with its tokens, which spell it. At no token are more parentheses pending than the term is deep.
record TermShown (text : List ℕ) (deep : ℕ) (t : Term) : Type 0 where
  tokens : List Token
  written : Written text tokens
  spells : (room : ℕ) → deep ≤ room → SpellsTerm room tokens t

record TermsShown (ts : List Term) : Type 0 where
  tokens : List Token
  written : Written (separated (44 ∷ []) (map term_text ts)) tokens
  spells : (room : ℕ) → greatest (map term_depth ts) ≤ room → SpellsTerms room tokens ts

abbrev IsTermShown : Term → Type 0
IsTermShown u = is_formed_term u ≡ true → TermShown (term_text u) (term_depth u) u

-- each of the terms is shown
abbrev AreShown : List Term → Type 0
AreShown [] = Unit {0}
AreShown (u ∷ us) = IsTermShown u × AreShown us

first_deep : (m n room : ℕ) → max m n ≤ room → m ≤ room
first_deep m n room h = omega (arith, h)

rest_deep : (m n room : ℕ) → max m n ≤ room → n ≤ room
rest_deep m n room h = omega (arith, h)

last_term_shown : (u : Term) → TermShown (term_text u) (term_depth u) u → TermsShown (u ∷ [])
last_term_shown u h = record { tokens = h.tokens; written = h.written; spells = λ room l. last_term room h.tokens u (h.spells room (first_deep (term_depth u) 0 room l)) }

more_terms_shown : (u v : Term) (us : List Term) → TermShown (term_text u) (term_depth u) u → TermsShown (v ∷ us) → TermsShown (u ∷ v ∷ us)
more_terms_shown u v us h i = record {
  tokens = h.tokens ++ Comma ∷ i.tokens;
  written = comma_written (term_text u) (separated (44 ∷ []) (map term_text (v ∷ us))) h.tokens i.tokens h.written i.written;
  spells = λ room l. more_terms room h.tokens i.tokens u (v ∷ us) (h.spells room (first_deep (term_depth u) (greatest (map term_depth (v ∷ us))) room l))
      (i.spells room (rest_deep (term_depth u) (greatest (map term_depth (v ∷ us))) room l));
}

terms_shown : (u : Term) (us : List Term) → IsTermShown u → AreShown us → (is_formed_term u && list_all is_formed_term us) ≡ true → TermsShown (u ∷ us)
terms_shown u [] f s i = last_term_shown u (f ((and_parts (is_formed_term u) true i).0))
terms_shown u (v ∷ us) f s i =
    let (first, rest) = and_parts (is_formed_term u) (is_formed_term v && list_all is_formed_term us) i in
    more_terms_shown u v us (f first) (terms_shown v us s.0 s.1 rest)

called : (deep : ℕ) (g : Word) (ks : List Token) (ts : List Term) → is_name g ≡ true → ((room : ℕ) → deep ≤ room → SpellsTerms room ks ts) → (room : ℕ) → 1 + deep ≤ room → SpellsTerm room (Identifier g ∷ Open ∷ ks ++ Close ∷ []) (App g ts)
called deep g ks ts i q zero h = absurd (omega (arith, h))
called deep g ks ts i q (suc room) h = function room g ks ts i (q room (omega (arith, h)))

function_shown : (g : Word) (ts : List Term) → is_name g ≡ true → TermsShown ts → TermShown (g ++ in_parentheses (separated (44 ∷ []) (map term_text ts))) (1 + greatest (map term_depth ts)) (App g ts)
function_shown g ts i h = record {
  tokens = Identifier g ∷ Open ∷ h.tokens ++ Close ∷ [];
  written = both_written g (in_parentheses (separated (44 ∷ []) (map term_text ts))) (Identifier g ∷ []) (Open ∷ h.tokens ++ Close ∷ []) (word_written g (name_ident g i)) (group_written _ h.tokens h.written) (λ rest. refl);
  spells = called (greatest (map term_depth ts)) g h.tokens ts i h.spells;
}

-- the induction over the term

abbrev HeldTerm : Type 0
HeldTerm = (u : Term) × IsTermShown u

abbrev bare_term : Term-F HeldTerm → Term-F Term
bare_term = map-Term HeldTerm Term (λ e. e.0)

abbrev terms_of : List HeldTerm → List Term
terms_of es = map (λ (e : HeldTerm). e.0) es

all_held : (es : List HeldTerm) → AreShown (terms_of es)
all_held [] = tt
all_held (e ∷ es) = (e.1, all_held es)

call_shown : (g : Word) (es : List HeldTerm) → ((is_name g && nat_le 1 (length (map is_formed_term (terms_of es)))) && list_all itself (map is_formed_term (terms_of es))) ≡ true
    → TermShown (g ++ in_parentheses (separated (44 ∷ []) (map term_text (terms_of es)))) (1 + greatest (map term_depth (terms_of es))) (App g (terms_of es))
call_shown g [] i = absurd (true≢false (sym ((and_parts (is_name g) (nat_le 1 0) ((and_parts (is_name g && nat_le 1 0) true i).0)).1)))
call_shown g (e ∷ es) i =
    let (front, all) = and_parts (is_name g && nat_le 1 (length (map is_formed_term (terms_of (e ∷ es))))) (list_all itself (map is_formed_term (terms_of (e ∷ es)))) i in
    function_shown g (terms_of (e ∷ es)) ((and_parts (is_name g) (nat_le 1 (length (map is_formed_term (terms_of (e ∷ es))))) front).0)
    (terms_shown e.0 (terms_of es) e.1 (all_held es) (sym (all_itself is_formed_term (terms_of (e ∷ es))) ∙ all))

term_step_shown : (y : Term-F HeldTerm) → formed_term_step (map-Term Term Bool is_formed_term (bare_term y)) ≡ true
    → TermShown (term_step (map-Term Term (List ℕ) term_text (bare_term y))) (term_depth_step (map-Term Term ℕ term_depth (bare_term y))) (roll-Term (bare_term y))
term_step_shown (t.Var x) i = subst (λ (u : Term). TermShown x 0 u) (sym (rolls-Var x)) (record { tokens = Identifier x ∷ []; written = word_written x (variable_ident x i); spells = λ room l. variable room x i })
term_step_shown (t.Name n) i = subst (λ (u : Term). TermShown n 0 u) (sym (rolls-Name n)) (record { tokens = Identifier n ∷ []; written = word_written n (name_ident n i); spells = λ room l. name room n i })
term_step_shown (t.App g es) i =
    subst (λ (u : Term). TermShown (g ++ in_parentheses (separated (44 ∷ []) (map term_text (terms_of es)))) (1 + greatest (map term_depth (terms_of es))) u) (sym (rolls-App g (terms_of es))) (call_shown g es i)

term_shown : (u : Term) → IsTermShown u
term_shown = ind-Term IsTermShown (λ l y is.
    subst (λ (m : Term-F Term). IsTermShown (roll-Term m)) is (λ i.
    subst (λ (x : List ℕ). TermShown x (term_depth (roll-Term (bare_term y))) (roll-Term (bare_term y))) (sym (fold-roll-Term (List ℕ) term_step (bare_term y)))
    (subst (λ (n : ℕ). TermShown (term_step (map-Term Term (List ℕ) term_text (bare_term y))) n (roll-Term (bare_term y))) (sym (fold-roll-Term ℕ term_depth_step (bare_term y)))
    (term_step_shown y (sym (fold-roll-Term Bool formed_term_step (bare_term y)) ∙ i)))))

all_shown_terms : (us : List Term) → AreShown us
all_shown_terms [] = tt
all_shown_terms (u ∷ us) = (term_shown u, all_shown_terms us)

-- The three texts of a sentence, each with the tokens that it is and what they spell. At no token are more pending than the
-- sentence is deep, and behind a `~` one more.
pub record Shown (t : Texts) (deep : ℕ) (s : Sent) : Type 0 where
  pub alone_tokens : List Token
  pub part_tokens : List Token
  pub denied_tokens : List Token
  pub alone_written : Written t.alone alone_tokens
  pub part_written : Written t.part part_tokens
  pub denied_written : Written t.denied denied_tokens
  pub alone : (room : ℕ) → deep ≤ room → Spells room alone_tokens s
  pub part : (room : ℕ) → deep ≤ room → SpellsPart room part_tokens s
  pub denied : (room : ℕ) → 1 + deep ≤ room → SpellsPart room denied_tokens (Not s)

-- a prefix takes one of the room

negated : (deep : ℕ) (ks : List Token) (s : Sent) → ((room : ℕ) → deep ≤ room → SpellsPart room ks s) → (room : ℕ) → 1 + deep ≤ room → SpellsPart room (NotSign ∷ ks) (Not s)
negated deep ks s q zero h = absurd (omega (arith, h))
negated deep ks s q (suc room) h = negation room ks s (q room (omega (arith, h)))

grouped : (deep : ℕ) (ks : List Token) (s : Sent) → ((room : ℕ) → deep ≤ room → Spells room ks s) → (room : ℕ) → 1 + deep ≤ room → SpellsPart room (Open ∷ ks ++ Close ∷ []) s
grouped deep ks s q zero h = absurd (omega (arith, h))
grouped deep ks s q (suc room) h = group room ks s (q room (omega (arith, h)))

for_all : (deep : ℕ) (x : Word) (ks : List Token) (s : Sent) → is_variable x ≡ true → ((room : ℕ) → deep ≤ room → SpellsPart room ks s) → (room : ℕ) → 1 + deep ≤ room → SpellsPart room (AllSign ∷ Identifier x ∷ ks) (All x s)
for_all deep x ks s i q zero h = absurd (omega (arith, h))
for_all deep x ks s i q (suc room) h = universal room x ks s i (q room (omega (arith, h)))

for_some : (deep : ℕ) (x : Word) (ks : List Token) (s : Sent) → is_variable x ≡ true → ((room : ℕ) → deep ≤ room → SpellsPart room ks s) → (room : ℕ) → 1 + deep ≤ room → SpellsPart room (ExistsSign ∷ Identifier x ∷ ks) (Ex x s)
for_some deep x ks s i q zero h = absurd (omega (arith, h))
for_some deep x ks s i q (suc room) h = existential room x ks s i (q room (omega (arith, h)))

less_deep : (deep room : ℕ) → 1 + deep ≤ room → deep ≤ room
less_deep deep room h = omega (arith, h)

-- a sentence that is the same text alone and as a part
plain_shown : (t : List ℕ) (ks : List Token) (deep : ℕ) (s : Sent) → Written t ks → ((room : ℕ) → deep ≤ room → SpellsPart room ks s) → Shown (plain t) deep s
plain_shown t ks deep s w q = record {
  alone_tokens = ks;
  part_tokens = ks;
  denied_tokens = NotSign ∷ ks;
  alone_written = w;
  part_written = w;
  denied_written = sign_written 126 NotSign t ks not_typed w;
  alone = λ room h. one_part room ks s (q room h);
  part = q;
  denied = negated deep ks s q;
}

-- a sentence that a connective joins
joined_shown : (t : List ℕ) (ks : List Token) (deep : ℕ) (s : Sent) → Written t ks → ((room : ℕ) → deep ≤ room → Spells room ks s) → Shown (with_connective t) (1 + deep) s
joined_shown t ks deep s w q = record {
  alone_tokens = ks;
  part_tokens = Open ∷ ks ++ Close ∷ [];
  denied_tokens = NotSign ∷ Open ∷ ks ++ Close ∷ [];
  alone_written = w;
  part_written = group_written t ks w;
  denied_written = sign_written 126 NotSign (in_parentheses t) (Open ∷ ks ++ Close ∷ []) not_typed (group_written t ks w);
  alone = λ room h. q room (less_deep deep room h);
  part = grouped deep ks s q;
  denied = negated (1 + deep) (Open ∷ ks ++ Close ∷ []) s (grouped deep ks s q);
}

-- one form after the other

inside : (deep room : ℕ) → 1 + deep ≤ room → deep ≤ room
inside deep room h = omega (arith, h)

atom_shown : (p : Word) (ts : List Term) → is_predicate p ≡ true → list_all is_formed_term ts ≡ true → Shown (plain (atom_text p ts)) (1 + greatest (map term_depth ts)) (Atom p ts)
atom_shown p [] i e = plain_shown p (Identifier p ∷ []) (1 + greatest (map term_depth [])) (Atom p []) (word_written p (predicate_ident p i)) (λ room h. letter room p i)
atom_shown p (u ∷ ts) i e =
    let h = terms_shown u ts (term_shown u) (all_shown_terms ts) e in
    plain_shown (atom_text p (u ∷ ts)) (Identifier p ∷ Open ∷ h.tokens ++ Close ∷ []) (1 + greatest (map term_depth (u ∷ ts))) (Atom p (u ∷ ts))
    (both_written p (in_parentheses (separated (44 ∷ []) (map term_text (u ∷ ts)))) (Identifier p ∷ []) (Open ∷ h.tokens ++ Close ∷ []) (word_written p (predicate_ident p i)) (group_written _ h.tokens h.written) (λ rest. refl))
    (λ room l. atom room p h.tokens (u ∷ ts) i (h.spells room (inside (greatest (map term_depth (u ∷ ts))) room l)))

of_left : (m n room : ℕ) → 1 + max m n ≤ room → m ≤ room
of_left m n room h = omega (arith, h)

of_right : (m n room : ℕ) → 1 + max m n ≤ room → n ≤ room
of_right m n room h = omega (arith, h)

equation_shown : (a b : Term) → TermShown (term_text a) (term_depth a) a → TermShown (term_text b) (term_depth b) b → Shown (printed_step (f.Eq a b)) (1 + max (term_depth a) (term_depth b)) (Eq a b)
equation_shown a b h i = record {
  alone_tokens = h.tokens ++ Equals ∷ i.tokens;
  part_tokens = h.tokens ++ Equals ∷ i.tokens;
  denied_tokens = h.tokens ++ Unequal ∷ i.tokens;
  alone_written = spaced_written 61 Equals (term_text a) (term_text b) h.tokens i.tokens equals_typed h.written i.written;
  part_written = spaced_written 61 Equals (term_text a) (term_text b) h.tokens i.tokens equals_typed h.written i.written;
  denied_written = spaced_written 35 Unequal (term_text a) (term_text b) h.tokens i.tokens unequal_typed h.written i.written;
  alone = λ room l. one_part room (h.tokens ++ Equals ∷ i.tokens) (Eq a b) (equation room h.tokens i.tokens a b (h.spells room (of_left (term_depth a) (term_depth b) room l)) (i.spells room (of_right (term_depth a) (term_depth b) room l)));
  part = λ room l. equation room h.tokens i.tokens a b (h.spells room (of_left (term_depth a) (term_depth b) room l)) (i.spells room (of_right (term_depth a) (term_depth b) room l));
  denied = λ room l. inequation room h.tokens i.tokens a b (h.spells room (of_left (term_depth a) (term_depth b) room (inside (1 + max (term_depth a) (term_depth b)) room l)))
      (i.spells room (of_right (term_depth a) (term_depth b) room (inside (1 + max (term_depth a) (term_depth b)) room l)));
}

not_shown : (t : Texts) (deep : ℕ) (s : Sent) → Shown t deep s → Shown (plain t.denied) (1 + deep) (Not s)
not_shown t deep s h = plain_shown t.denied h.denied_tokens (1 + deep) (Not s) h.denied_written h.denied

left_deep : (m n room : ℕ) → max m n ≤ room → m ≤ room
left_deep m n room h = omega (arith, h)

right_deep : (m n room : ℕ) → max m n ≤ room → n ≤ room
right_deep m n room h = omega (arith, h)

if_shown : (t u : Texts) (m n : ℕ) (a b : Sent) → Shown t m a → Shown u n b → Shown (with_connective (t.part ++ 32 ∷ 36 ∷ 32 ∷ u.part)) (1 + max m n) (If a b)
if_shown t u m n a b h i =
    joined_shown (t.part ++ 32 ∷ 36 ∷ 32 ∷ u.part) (h.part_tokens ++ IfSign ∷ i.part_tokens) (max m n) (If a b)
    (spaced_written 36 IfSign t.part u.part h.part_tokens i.part_tokens if_typed h.part_written i.part_written)
    (λ room l. conditional room h.part_tokens i.part_tokens a b (h.part room (left_deep m n room l)) (i.part room (right_deep m n room l)))

iff_shown : (t u : Texts) (m n : ℕ) (a b : Sent) → Shown t m a → Shown u n b → Shown (with_connective (t.part ++ 32 ∷ 37 ∷ 32 ∷ u.part)) (1 + max m n) (Iff a b)
iff_shown t u m n a b h i =
    joined_shown (t.part ++ 32 ∷ 37 ∷ 32 ∷ u.part) (h.part_tokens ++ IffSign ∷ i.part_tokens) (max m n) (Iff a b)
    (spaced_written 37 IffSign t.part u.part h.part_tokens i.part_tokens iff_typed h.part_written i.part_written)
    (λ room l. biconditional room h.part_tokens i.part_tokens a b (h.part room (left_deep m n room l)) (i.part room (right_deep m n room l)))

all_shown : (t : Texts) (deep : ℕ) (x : Word) (s : Sent) → is_variable x ≡ true → Shown t deep s → Shown (plain (64 ∷ x ++ 32 ∷ t.part)) (1 + deep) (All x s)
all_shown t deep x s i h =
    plain_shown (64 ∷ x ++ 32 ∷ t.part) (AllSign ∷ Identifier x ∷ h.part_tokens) (1 + deep) (All x s)
    (quantifier_written 64 AllSign x t.part h.part_tokens all_typed (variable_ident x i) h.part_written)
    (for_all deep x h.part_tokens s i h.part)

ex_shown : (t : Texts) (deep : ℕ) (x : Word) (s : Sent) → is_variable x ≡ true → Shown t deep s → Shown (plain (47 ∷ x ++ 32 ∷ t.part)) (1 + deep) (Ex x s)
ex_shown t deep x s i h =
    plain_shown (47 ∷ x ++ 32 ∷ t.part) (ExistsSign ∷ Identifier x ∷ h.part_tokens) (1 + deep) (Ex x s)
    (quantifier_written 47 ExistsSign x t.part h.part_tokens exists_typed (variable_ident x i) h.part_written)
    (for_some deep x h.part_tokens s i h.part)

-- the parts of a chain

abbrev IsShown : Sent → Type 0
IsShown p = formed p ≡ true → Shown (shown p) (depth p) p

abbrev Held : Type 0
Held = (p : Sent) × IsShown p

abbrev sentences : List Held → List Sent
sentences es = map (λ (e : Held). e.0) es

abbrev part_texts : List Held → List (List ℕ)
part_texts es = map (λ (d : Texts). d.part) (map shown (sentences es))

record PartsShown (b : ℕ) (k : Token) (es : List Held) : Type 0 where
  tokens : List Token
  written : Written (separated (32 ∷ b ∷ 32 ∷ []) (part_texts es)) tokens
  spells : (room : ℕ) → greatest (map depth (sentences es)) ≤ room → SpellsParts k room tokens (sentences es)

joined_written : (b : ℕ) (k : Token) (t u : List ℕ) (ks js : List Token) → typed_sign b ≡ Some k → Written t ks → Written u js → Written ((t ++ 32 ∷ b ∷ 32 ∷ []) ++ u) (ks ++ k ∷ js)
joined_written b k t u ks js e h i =
    subst (λ (bs : List ℕ). Written bs (ks ++ k ∷ js)) (sym (append_assoc t (32 ∷ b ∷ 32 ∷ []) u)) (spaced_written b k t u ks js e h i)

parts_shown : (b : ℕ) (k : Token) → typed_sign b ≡ Some k → (e : Held) (es : List Held) → (formed e.0 && list_all itself (map formed (sentences es))) ≡ true → PartsShown b k (e ∷ es)
parts_shown b k t e [] i =
    let h = e.1 ((and_parts (formed e.0) true i).0) in
    record {
      tokens = h.part_tokens;
      written = h.part_written;
      spells = λ room l. last_part k room h.part_tokens e.0 (h.part room (left_deep (depth e.0) 0 room l));
    }
parts_shown b k t e (g ∷ es) i =
    let (first, rest) = and_parts (formed e.0) (formed g.0 && list_all itself (map formed (sentences es))) i in
    let h = e.1 first in
    let r = parts_shown b k t g es rest in
    record {
      tokens = h.part_tokens ++ k ∷ r.tokens;
      written = joined_written b k (shown e.0).part (separated (32 ∷ b ∷ 32 ∷ []) (part_texts (g ∷ es))) h.part_tokens r.tokens t h.part_written r.written;
      spells = λ room l. more_parts k room h.part_tokens r.tokens e.0 (sentences (g ∷ es)) (h.part room (left_deep (depth e.0) (greatest (map depth (sentences (g ∷ es)))) room l))
          (r.spells room (right_deep (depth e.0) (greatest (map depth (sentences (g ∷ es)))) room l));
    }

and_shown : (es : List Held) → (nat_le 2 (length (map formed (sentences es))) && list_all itself (map formed (sentences es))) ≡ true
    → Shown (with_connective (separated (32 ∷ 38 ∷ 32 ∷ []) (part_texts es))) (1 + greatest (map depth (sentences es))) (And (sentences es))
and_shown [] i = cc
and_shown (e ∷ []) i = cc
and_shown (e ∷ g ∷ es) i =
    let parts = (and_parts (nat_le 2 (length (map formed (sentences (e ∷ g ∷ es))))) (formed e.0 && list_all itself (map formed (sentences (g ∷ es)))) i).1 in
    let (first, rest) = and_parts (formed e.0) (list_all itself (map formed (sentences (g ∷ es)))) parts in
    let h = e.1 first in
    let r = parts_shown 38 AndSign and_typed g es rest in
    joined_shown (separated (32 ∷ 38 ∷ 32 ∷ []) (part_texts (e ∷ g ∷ es))) (h.part_tokens ++ AndSign ∷ r.tokens) (greatest (map depth (sentences (e ∷ g ∷ es)))) (And (sentences (e ∷ g ∷ es)))
    (joined_written 38 AndSign (shown e.0).part (separated (32 ∷ 38 ∷ 32 ∷ []) (part_texts (g ∷ es))) h.part_tokens r.tokens and_typed h.part_written r.written)
    (λ room l. conjunction room h.part_tokens r.tokens e.0 (sentences (g ∷ es)) (h.part room (left_deep (depth e.0) (greatest (map depth (sentences (g ∷ es)))) room l))
    (r.spells room (right_deep (depth e.0) (greatest (map depth (sentences (g ∷ es)))) room l)))

or_shown : (es : List Held) → (nat_le 2 (length (map formed (sentences es))) && list_all itself (map formed (sentences es))) ≡ true
    → Shown (with_connective (separated (32 ∷ 124 ∷ 32 ∷ []) (part_texts es))) (1 + greatest (map depth (sentences es))) (Or (sentences es))
or_shown [] i = cc
or_shown (e ∷ []) i = cc
or_shown (e ∷ g ∷ es) i =
    let parts = (and_parts (nat_le 2 (length (map formed (sentences (e ∷ g ∷ es))))) (formed e.0 && list_all itself (map formed (sentences (g ∷ es)))) i).1 in
    let (first, rest) = and_parts (formed e.0) (list_all itself (map formed (sentences (g ∷ es)))) parts in
    let h = e.1 first in
    let r = parts_shown 124 OrSign or_typed g es rest in
    joined_shown (separated (32 ∷ 124 ∷ 32 ∷ []) (part_texts (e ∷ g ∷ es))) (h.part_tokens ++ OrSign ∷ r.tokens) (greatest (map depth (sentences (e ∷ g ∷ es)))) (Or (sentences (e ∷ g ∷ es)))
    (joined_written 124 OrSign (shown e.0).part (separated (32 ∷ 124 ∷ 32 ∷ []) (part_texts (g ∷ es))) h.part_tokens r.tokens or_typed h.part_written r.written)
    (λ room l. disjunction room h.part_tokens r.tokens e.0 (sentences (g ∷ es)) (h.part room (left_deep (depth e.0) (greatest (map depth (sentences (g ∷ es)))) room l))
    (r.spells room (right_deep (depth e.0) (greatest (map depth (sentences (g ∷ es)))) room l)))

-- the induction over the sentence

abbrev bare : Sent-F Held → Sent-F Sent
bare = map-Sent Held Sent (λ e. e.0)

step_shown : (y : Sent-F Held) → formed_step (map-Sent Sent Bool formed (bare y)) ≡ true
    → Shown (printed_step (map-Sent Sent Texts shown (bare y))) (depth_step (map-Sent Sent ℕ depth (bare y))) (roll-Sent (bare y))
step_shown (f.Atom p ts) i =
    let (front, terms) = and_parts (is_predicate p && fits p (length ts)) (list_all is_formed_term ts) i in
    subst (λ (s : Sent). Shown (plain (atom_text p ts)) (1 + greatest (map term_depth ts)) s) (sym (rolls-Atom p ts)) (atom_shown p ts ((and_parts (is_predicate p) (fits p (length ts)) front).0) terms)
step_shown (f.Eq a b) i =
    let (left, right) = and_parts (is_formed_term a) (is_formed_term b) i in
    subst (λ (s : Sent). Shown (printed_step (f.Eq a b)) (1 + max (term_depth a) (term_depth b)) s) (sym (rolls-Eq a b)) (equation_shown a b (term_shown a left) (term_shown b right))
step_shown f.Bottom i = subst (λ (s : Sent). Shown (plain (94 ∷ [])) 1 s) (sym rolls-Bottom) (plain_shown (94 ∷ []) (FalsumSign ∷ []) 1 Bottom (sign_alone 94 FalsumSign falsum_typed) (λ room h. falsum room))
step_shown (f.Not e) i = subst (λ (s : Sent). Shown (plain (shown e.0).denied) (1 + depth e.0) s) (sym (rolls-Not e.0)) (not_shown (shown e.0) (depth e.0) e.0 (e.1 i))
step_shown (f.And es) i =
    subst (λ (s : Sent). Shown (with_connective (separated (32 ∷ 38 ∷ 32 ∷ []) (part_texts es))) (1 + greatest (map depth (sentences es))) s) (sym (rolls-And (sentences es))) (and_shown es i)
step_shown (f.Or es) i =
    subst (λ (s : Sent). Shown (with_connective (separated (32 ∷ 124 ∷ 32 ∷ []) (part_texts es))) (1 + greatest (map depth (sentences es))) s) (sym (rolls-Or (sentences es))) (or_shown es i)
step_shown (f.If d e) i =
    let (left, right) = and_parts (formed d.0) (formed e.0) i in
    subst (λ (s : Sent). Shown (with_connective ((shown d.0).part ++ 32 ∷ 36 ∷ 32 ∷ (shown e.0).part)) (1 + max (depth d.0) (depth e.0)) s) (sym (rolls-If d.0 e.0))
    (if_shown (shown d.0) (shown e.0) (depth d.0) (depth e.0) d.0 e.0 (d.1 left) (e.1 right))
step_shown (f.Iff d e) i =
    let (left, right) = and_parts (formed d.0) (formed e.0) i in
    subst (λ (s : Sent). Shown (with_connective ((shown d.0).part ++ 32 ∷ 37 ∷ 32 ∷ (shown e.0).part)) (1 + max (depth d.0) (depth e.0)) s) (sym (rolls-Iff d.0 e.0))
    (iff_shown (shown d.0) (shown e.0) (depth d.0) (depth e.0) d.0 e.0 (d.1 left) (e.1 right))
step_shown (f.All x e) i =
    let (word, part) = and_parts (is_variable x) (formed e.0) i in
    subst (λ (s : Sent). Shown (plain (64 ∷ x ++ 32 ∷ (shown e.0).part)) (1 + depth e.0) s) (sym (rolls-All x e.0)) (all_shown (shown e.0) (depth e.0) x e.0 word (e.1 part))
step_shown (f.Ex x e) i =
    let (word, part) = and_parts (is_variable x) (formed e.0) i in
    subst (λ (s : Sent). Shown (plain (47 ∷ x ++ 32 ∷ (shown e.0).part)) (1 + depth e.0) s) (sym (rolls-Ex x e.0)) (ex_shown (shown e.0) (depth e.0) x e.0 word (e.1 part))

-- The texts of a well-formed sentence spell it.
pub respelled : (s : Sent) → formed s ≡ true → Shown (shown s) (depth s) s
respelled = ind-Sent IsShown (λ l y is.
    subst (λ (m : Sent-F Sent). IsShown (roll-Sent m)) is (λ i.
    subst (λ (t : Texts). Shown t (depth (roll-Sent (bare y))) (roll-Sent (bare y))) (sym (fold-roll-Sent Texts printed_step (bare y)))
    (subst (λ (n : ℕ). Shown (printed_step (map-Sent Sent Texts shown (bare y))) n (roll-Sent (bare y))) (sym (fold-roll-Sent ℕ depth_step (bare y)))
    (step_shown y (sym (fold-roll-Sent Bool formed_step (bare y)) ∙ i)))))
