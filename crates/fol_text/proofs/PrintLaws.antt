-- What is printed of each form of sentence, and the steps in which the printer puts it together.
use Rattle.std.proofs.Common.{◌≡◌, ℕ, suc, ◌+◌, ◌<◌, ◌==◌, Bool, true, false, List, [], ◌∷◌, ◌++◌, length, map, take, get_or, if◌then◌else◌, refl, ap, sym, ◌∙◌, append_assoc, add-one, rules, arith}
use Rattle.std.proofs.lemmas.List.{append-nil, length-map, length-take-le}
use Rattle.std.proofs.lemmas.Bool.Decides.{nat_tests}
use Rattle.fol_core.specs.Word.{Word}
use Rattle.fol_core.specs.declared.sent.Term.{Term}
use Rattle.fol_core.specs.declared.sent.Term.{the_lemmas as term_lemmas}
use Rattle.fol_core.specs.declared.sent.Term.TheVariants.{Var, Name, App}
use Rattle.fol_core.specs.declared.sent.Sent.{Sent, the_lemmas}
use Rattle.fol_core.specs.declared.sent.Sent.TheVariants.{And, Or, If, Iff, All, Ex}
use Rattle.fol_core.proofs.Parts.{map_more}
use Rattle.fol_text.specs.Printed.{Texts, shown, separated, term_text, in_parentheses, plain, with_connective, text_in, opening, closing}

-- one equation a form

part_texts : (ss : List Sent) → map (λ (d : Texts). d.part) (map shown ss) ≡ map (λ (s : Sent). (shown s).part) ss
part_texts [] = refl
part_texts (s ∷ ss) = ap (λ (ts : List (List ℕ)). (shown s).part ∷ ts) (part_texts ss)

pub shown_and : (ss : List Sent) → shown (And ss) ≡ with_connective (separated (32 ∷ 38 ∷ 32 ∷ []) (map (λ (s : Sent). (shown s).part) ss))
shown_and ss =
    let e : shown (And ss) ≡ with_connective (separated (32 ∷ 38 ∷ 32 ∷ []) (map (λ (d : Texts). d.part) (map shown ss))) = search (rules, the_lemmas) in
    e ∙ ap (λ (ts : List (List ℕ)). with_connective (separated (32 ∷ 38 ∷ 32 ∷ []) ts)) (part_texts ss)

pub shown_or : (ss : List Sent) → shown (Or ss) ≡ with_connective (separated (32 ∷ 124 ∷ 32 ∷ []) (map (λ (s : Sent). (shown s).part) ss))
shown_or ss =
    let e : shown (Or ss) ≡ with_connective (separated (32 ∷ 124 ∷ 32 ∷ []) (map (λ (d : Texts). d.part) (map shown ss))) = search (rules, the_lemmas) in
    e ∙ ap (λ (ts : List (List ℕ)). with_connective (separated (32 ∷ 124 ∷ 32 ∷ []) ts)) (part_texts ss)

shown_if : (s t : Sent) → shown (If s t) ≡ with_connective ((shown s).part ++ 32 ∷ 36 ∷ 32 ∷ (shown t).part)
shown_if s t = search (rules, the_lemmas)

shown_iff : (s t : Sent) → shown (Iff s t) ≡ with_connective ((shown s).part ++ 32 ∷ 37 ∷ 32 ∷ (shown t).part)
shown_iff s t = search (rules, the_lemmas)

shown_all : (x : Word) (s : Sent) → shown (All x s) ≡ plain (64 ∷ x ++ 32 ∷ (shown s).part)
shown_all x s = search (rules, the_lemmas)

shown_ex : (x : Word) (s : Sent) → shown (Ex x s) ≡ plain (47 ∷ x ++ 32 ∷ (shown s).part)
shown_ex x s = search (rules, the_lemmas)

-- terms

pub text_var : (x : Word) → term_text (Var x) ≡ x
text_var x = search (rules, term_lemmas)

pub text_name : (n : Word) → term_text (Name n) ≡ n
text_name n = search (rules, term_lemmas)

pub text_app : (g : Word) (ts : List Term) → term_text (App g ts) ≡ g ++ in_parentheses (separated (44 ∷ []) (map term_text ts))
text_app g ts = search (rules, term_lemmas)

-- a symbol, and its arguments in parentheses
pub app_put : (old one two three four g : List ℕ) (t : Term) (ts us : List Term) → t ≡ App g ts → us ≡ ts → one ≡ old ++ g → two ≡ one ++ 40 ∷ [] → three ≡ two ++ separated (44 ∷ []) (map term_text us) → four ≡ three ++ 41 ∷ [] → four ≡ old ++ term_text t
app_put old one two three four g t ts us e f a b c d =
    d ∙ ap (λ (m : List ℕ). m ++ 41 ∷ []) (c ∙ ap (λ (m : List ℕ). m ++ separated (44 ∷ []) (map term_text us)) (b ∙ ap (λ (m : List ℕ). m ++ 40 ∷ []) a))
    ∙ app_joined old g (separated (44 ∷ []) (map term_text us))
    ∙ ap (λ (vs : List Term). old ++ (g ++ in_parentheses (separated (44 ∷ []) (map term_text vs)))) f
    ∙ ap (λ (m : List ℕ). old ++ m) (sym (text_app g ts)) ∙ ap (λ (u : Term). old ++ term_text u) (sym e)
  where
    app_joined : (old g t : List ℕ) → (((old ++ g) ++ 40 ∷ []) ++ t) ++ 41 ∷ [] ≡ old ++ (g ++ in_parentheses t)
    app_joined old g t = simp append_assoc

-- a text in its parentheses, where it has some

joined_put : (p : Bool) (old t : List ℕ) → ((old ++ opening p) ++ t) ++ closing p ≡ old ++ text_in p (with_connective t)
joined_put true old t = ap (λ (u : List ℕ). u ++ 41 ∷ []) (append_assoc old (40 ∷ []) t) ∙ append_assoc old (40 ∷ t) (41 ∷ [])
joined_put false old t = append-nil ((old ++ []) ++ t) ∙ ap (λ (u : List ℕ). u ++ t) (append-nil old)

plain_put : (p : Bool) (t : List ℕ) → text_in p (plain t) ≡ t
plain_put true t = refl
plain_put false t = refl

pub and_put : (p : Bool) (old : List ℕ) (s : Sent) (parts ss : List Sent) → s ≡ And parts → ss ≡ parts
    → ((old ++ opening p) ++ separated (32 ∷ 38 ∷ 32 ∷ []) (map (λ (t : Sent). (shown t).part) ss)) ++ closing p ≡ old ++ text_in p (shown s)
and_put p old s parts ss e f =
    joined_put p old (separated (32 ∷ 38 ∷ 32 ∷ []) (map (λ (t : Sent). (shown t).part) ss))
    ∙ ap (λ (d : Texts). old ++ text_in p d) (sym (shown_and ss)) ∙ ap (λ (ts : List Sent). old ++ text_in p (shown (And ts))) f ∙ ap (λ (t : Sent). old ++ text_in p (shown t)) (sym e)

pub or_put : (p : Bool) (old : List ℕ) (s : Sent) (parts ss : List Sent) → s ≡ Or parts → ss ≡ parts
    → ((old ++ opening p) ++ separated (32 ∷ 124 ∷ 32 ∷ []) (map (λ (t : Sent). (shown t).part) ss)) ++ closing p ≡ old ++ text_in p (shown s)
or_put p old s parts ss e f =
    joined_put p old (separated (32 ∷ 124 ∷ 32 ∷ []) (map (λ (t : Sent). (shown t).part) ss))
    ∙ ap (λ (d : Texts). old ++ text_in p d) (sym (shown_or ss)) ∙ ap (λ (ts : List Sent). old ++ text_in p (shown (Or ts))) f ∙ ap (λ (t : Sent). old ++ text_in p (shown t)) (sym e)

-- two texts with a connective between them
two_joined : (front t by u : List ℕ) → ((front ++ t) ++ by) ++ u ≡ front ++ (t ++ (by ++ u))
two_joined front t by u = append_assoc (front ++ t) by u ∙ append_assoc front t (by ++ u)

pub if_put : (p : Bool) (old one two three four : List ℕ) (s a b : Sent) → s ≡ If a b → one ≡ old ++ opening p → two ≡ one ++ (shown a).part → three ≡ two ++ 32 ∷ 36 ∷ 32 ∷ []
    → four ≡ three ++ (shown b).part → four ++ closing p ≡ old ++ text_in p (shown s)
if_put p old one two three four s a b e f g h i =
    let by : List ℕ = 32 ∷ 36 ∷ 32 ∷ [] in
    let all : four ≡ (old ++ opening p) ++ ((shown a).part ++ (by ++ (shown b).part)) =
    i ∙ ap (λ (t : List ℕ). t ++ (shown b).part) (h ∙ ap (λ (t : List ℕ). t ++ by) (g ∙ ap (λ (t : List ℕ). t ++ (shown a).part) f))
    ∙ two_joined (old ++ opening p) (shown a).part by (shown b).part in
    ap (λ (t : List ℕ). t ++ closing p) all ∙ joined_put p old ((shown a).part ++ (by ++ (shown b).part))
    ∙ ap (λ (d : Texts). old ++ text_in p d) (sym (shown_if a b)) ∙ ap (λ (t : Sent). old ++ text_in p (shown t)) (sym e)

pub iff_put : (p : Bool) (old one two three four : List ℕ) (s a b : Sent) → s ≡ Iff a b → one ≡ old ++ opening p → two ≡ one ++ (shown a).part → three ≡ two ++ 32 ∷ 37 ∷ 32 ∷ []
    → four ≡ three ++ (shown b).part → four ++ closing p ≡ old ++ text_in p (shown s)
iff_put p old one two three four s a b e f g h i =
    let by : List ℕ = 32 ∷ 37 ∷ 32 ∷ [] in
    let all : four ≡ (old ++ opening p) ++ ((shown a).part ++ (by ++ (shown b).part)) =
    i ∙ ap (λ (t : List ℕ). t ++ (shown b).part) (h ∙ ap (λ (t : List ℕ). t ++ by) (g ∙ ap (λ (t : List ℕ). t ++ (shown a).part) f))
    ∙ two_joined (old ++ opening p) (shown a).part by (shown b).part in
    ap (λ (t : List ℕ). t ++ closing p) all ∙ joined_put p old ((shown a).part ++ (by ++ (shown b).part))
    ∙ ap (λ (d : Texts). old ++ text_in p d) (sym (shown_iff a b)) ∙ ap (λ (t : Sent). old ++ text_in p (shown t)) (sym e)

-- a quantifier's sign, its variable, a space and its part
prefix_joined : (old x t : List ℕ) (sign : ℕ) → (((old ++ sign ∷ []) ++ x) ++ 32 ∷ []) ++ t ≡ old ++ (sign ∷ x ++ 32 ∷ t)
prefix_joined old x t sign =
    append_assoc ((old ++ sign ∷ []) ++ x) (32 ∷ []) t ∙ append_assoc (old ++ sign ∷ []) x (32 ∷ t) ∙ append_assoc old (sign ∷ []) (x ++ 32 ∷ t)

pub all_put : (p : Bool) (old one x : List ℕ) (s a : Sent) → s ≡ All x a → one ≡ ((old ++ 64 ∷ []) ++ x) ++ 32 ∷ [] → one ++ (shown a).part ≡ old ++ text_in p (shown s)
all_put p old one x s a e f =
    ap (λ (t : List ℕ). t ++ (shown a).part) f ∙ prefix_joined old x (shown a).part 64
    ∙ ap (λ (t : List ℕ). old ++ t) (sym (plain_put p (64 ∷ x ++ 32 ∷ (shown a).part)))
    ∙ ap (λ (d : Texts). old ++ text_in p d) (sym (shown_all x a)) ∙ ap (λ (t : Sent). old ++ text_in p (shown t)) (sym e)

pub ex_put : (p : Bool) (old one x : List ℕ) (s a : Sent) → s ≡ Ex x a → one ≡ ((old ++ 47 ∷ []) ++ x) ++ 32 ∷ [] → one ++ (shown a).part ≡ old ++ text_in p (shown s)
ex_put p old one x s a e f =
    ap (λ (t : List ℕ). t ++ (shown a).part) f ∙ prefix_joined old x (shown a).part 47
    ∙ ap (λ (t : List ℕ). old ++ t) (sym (plain_put p (47 ∷ x ++ 32 ∷ (shown a).part)))
    ∙ ap (λ (d : Texts). old ++ text_in p d) (sym (shown_ex x a)) ∙ ap (λ (t : Sent). old ++ text_in p (shown t)) (sym e)

-- one more text behind those before, with the separator where it isn't the first

separated_snoc : (by u t : List ℕ) (ts : List (List ℕ)) → separated by (u ∷ ts ++ t ∷ []) ≡ separated by (u ∷ ts) ++ by ++ t
separated_snoc by u t [] = refl
separated_snoc by u t (v ∷ ts) = ap (λ m. u ++ by ++ m) (separated_snoc by v t ts) ∙ simp append_assoc

not_zero : (n : ℕ) → (suc n == 0) ≡ false
not_zero n = grind (arith, nat_tests)

separated_next : (by t : List ℕ) (ts : List (List ℕ)) → separated by (ts ++ t ∷ []) ≡ separated by ts ++ (if length ts == 0 then [] else by) ++ t
separated_next by t [] = refl
separated_next by t (u ∷ ts) = separated_snoc by u t ts ∙ ap (λ (b : Bool). separated by (u ∷ ts) ++ (if b then [] else by) ++ t) (sym (not_zero (length ts)))

taken : {X : Type 0} (f : X → List ℕ) (xs : List X) (i : ℕ) → i < length xs → length (map f (take i xs)) ≡ i
taken f xs i h = length-map (take i xs) f ∙ length-take-le i xs (omega arith)

pub separated_more : {X : Type 0} (f : X → List ℕ) (by : List ℕ) (xs : List X) (i : ℕ) (x : X) (first : Bool) (before now middle after : List ℕ) → i < length xs → x ≡ get_or xs i x
    → now ≡ before ++ separated by (map f (take i xs)) → first ≡ (i == 0) → middle ≡ now ++ (if first then [] else by) → after ≡ middle ++ f x
    → after ≡ before ++ separated by (map f (take (i + 1) xs))
separated_more f by xs i x first before now middle after h e inv is put last =
    let ts = map f (take i xs) in
    let test : first ≡ (length ts == 0) = is ∙ ap (λ (n : ℕ). n == 0) (sym (taken f xs i h)) in
    last ∙ ap (λ (m : List ℕ). m ++ f x) (put ∙ ap (λ (m : List ℕ). m ++ (if first then [] else by)) inv)
    ∙ ap (λ (b : Bool). ((before ++ separated by ts) ++ (if b then [] else by)) ++ f x) test
    ∙ ap (λ (m : List ℕ). m ++ f x) (append_assoc before (separated by ts) (if length ts == 0 then [] else by))
    ∙ append_assoc before (separated by ts ++ (if length ts == 0 then [] else by)) (f x)
    ∙ ap (λ (m : List ℕ). before ++ m) (sym (separated_next by (f x) ts))
    ∙ ap (λ (us : List (List ℕ)). before ++ separated by us) (sym (map_more f xs i x h e))

pub later : (i : ℕ) → false ≡ (i + 1 == 0)
later i = sym (not_zero i) ∙ ap (λ (n : ℕ). n == 0) (sym (add-one i))
