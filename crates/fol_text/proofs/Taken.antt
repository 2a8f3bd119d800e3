-- What the quick reader has read at the front of a text, put together.
use Rattle.std.proofs.Common.{◌≡◌, ℕ, suc, ◌+◌, ◌-◌, Bool, true, false, List, [], ◌∷◌, ◌++◌, length, take, drop, Option, Some, None, if◌then◌else◌, refl, ap, sym, ◌∙◌, subst, append_assoc, arith}
use Rattle.std.specs.List.{prefix_len}
use Rattle.std.proofs.lemmas.List.{append-nil}
use Rattle.texts.specs.Blanks.{is_blank, after_blanks}
use Rattle.fol_core.specs.Word.{Word, is_ident, goes_on, is_predicate, is_variable, is_name}
use Rattle.fol_core.specs.declared.sent.Term.{Term}
use Rattle.fol_core.specs.declared.sent.Term.TheVariants.{Var, Name, App}
use Rattle.fol_core.specs.declared.sent.Sent.{Sent}
use Rattle.fol_core.specs.declared.sent.Sent.TheVariants.{Atom, Eq, Bottom, Not, And, Or, If, Iff, All, Ex}
use Rattle.fol_text.specs.declared.token.Token.{Token}
use Rattle.fol_text.specs.declared.token.Token.TheVariants.{NotSign, AndSign, OrSign, IfSign, IffSign, AllSign, ExistsSign, FalsumSign, Equals, Unequal, Open, Close, Comma, Identifier}
use Rattle.fol_text.specs.declared.token.Placed.{Placed}
use Rattle.fol_text.specs.Tokens.{typed_sign, typed, sign, SpellsToken, placed, tokens_of, AreTokens, at_end, blank, token}
use Rattle.fol_text.specs.Grammar.{SpellsTerm, variable, name, function, SpellsTerms, last_term, more_terms, Spells, one_part, conjunction, disjunction, conditional, biconditional, SpellsParts, last_part, more_parts, SpellsPart, letter, atom, equation, inequation, falsum, negation, universal, existential, group}
use Rattle.fol_text.specs.Lexer.{first_sign, first_token}
use Rattle.fol_text.specs.Straight.{Begins, nothing, a_blank, a_token, SignRead, TermRead, TermBehind, TermsRead, ClosedTermsRead, PartRead, PartBehind, ChainRead, SentenceRead}
use Rattle.fol_text.proofs.Lexing.{IsFirst, token_sound, first_sign_sound, word_found}
use Rattle.fol_text.proofs.Written.{PlacedAs, not_typed, and_typed, or_typed, if_typed, iff_typed, all_typed, exists_typed, falsum_typed, equals_typed, unequal_typed}

-- one after the other

pub both : {bs : List ℕ} {ks : List Token} {cs : List ℕ} → Begins bs ks cs → (js : List Token) (rest : List ℕ) → Begins cs js rest → Begins bs (ks ++ js) rest
both (nothing bs) js rest c = c
both (a_blank b bs ks cs i s) js rest c = a_blank b bs (ks ++ js) rest i (both s js rest c)
both (a_token w k bs ks cs i s) js rest c = a_token w k bs (ks ++ js) rest i (both s js rest c)

past_blank_by : (b : ℕ) (bs : List ℕ) (ks : List Token) (rest : List ℕ) (t : Bool) → is_blank b ≡ t → (Begins (after_blanks bs) ks rest → Begins bs ks rest) → Begins (if t then after_blanks bs else b ∷ bs) ks rest → Begins (b ∷ bs) ks rest
past_blank_by b bs ks rest true i past s = a_blank b bs ks rest i (past s)
past_blank_by b bs ks rest false i past s = s

past_blanks : (bs : List ℕ) (ks : List Token) (rest : List ℕ) → Begins (after_blanks bs) ks rest → Begins bs ks rest
past_blanks [] ks rest s = s
past_blanks (b ∷ bs) ks rest s = past_blank_by b bs ks rest (is_blank b) refl (past_blanks bs ks rest) s

sign_begins : (mid : List ℕ) (b : ℕ) (k : Token) (after : List ℕ) (ks : List Token) (rest : List ℕ) → SignRead b mid after → typed_sign b ≡ Some k → Begins after ks rest → Begins mid (k ∷ ks) rest
sign_begins mid b k after ks rest r i s = both (r.begins k i) ks rest s

-- signs

some_is : (k j : Token) → Some k ≡ Some j → k ≡ j
some_is k j e = cc

pub typed_read : (bs : List ℕ) (b : ℕ) (after : List ℕ) → bs ≡ b ∷ after → SignRead b bs after
typed_read bs b after e = record {
  begins = λ k i. subst (λ (cs : List ℕ). Begins cs (k ∷ []) after) (sym e) (a_token (b ∷ []) k after [] after (sign (b ∷ []) k after (typed b k i)) (nothing after));
}

found_begins : (bs : List ℕ) (k : Token) (after : List ℕ) → IsFirst bs k after → Begins bs (k ∷ []) after
found_begins bs k after s = subst (λ (cs : List ℕ). Begins cs (k ∷ []) after) (sym s.splits) (a_token s.spelling k after [] after s.spells (nothing after))

pub logical_read : (bs : List ℕ) (b : ℕ) (k : Token) (after : List ℕ) → first_sign bs ≡ Some (k, after) → typed_sign b ≡ Some k → SignRead b bs after
logical_read bs b k after e t = record {
  begins = λ j i. subst (λ (m : Token). Begins bs (m ∷ []) after) (some_is k j (sym t ∙ i)) (found_begins bs k after (first_sign_sound bs k after e));
}

pub sign_behind_blanks : (bs mid : List ℕ) (b : ℕ) (after : List ℕ) → mid ≡ after_blanks bs → SignRead b mid after → SignRead b bs after
sign_behind_blanks bs mid b after e r = record { begins = λ k i. past_blanks bs (k ∷ []) after (subst (λ (cs : List ℕ). Begins cs (k ∷ []) after) e (r.begins k i)) }

-- the whole text

-- From each place on the bytes are these tokens.
placed_from : {bs : List ℕ} {ks : List Token} {rest : List ℕ} → Begins bs ks rest → rest ≡ [] → (n : ℕ) → PlacedAs n bs ks
placed_from (nothing bs) e n = record { tokens = []; are = subst (λ (cs : List ℕ). AreTokens n cs []) (sym e) (at_end n); same = refl }
placed_from (a_blank b bs ks rest i s) e n =
    let p = placed_from s e (n + 1) in
    record { tokens = p.tokens; are = blank n b bs p.tokens i p.are; same = p.same }
placed_from (a_token w k bs ks rest i s) e n =
    let p = placed_from s e (n + length w) in
    record { tokens = placed n k ∷ p.tokens; are = token n w k bs p.tokens i p.are; same = ap (λ (js : List Token). k ∷ js) p.same }

pub all_placed : (bs : List ℕ) (ks : List Token) (rest : List ℕ) → Begins bs ks rest → after_blanks rest ≡ [] → PlacedAs 0 bs ks
all_placed bs ks rest s e =
    subst (λ (js : List Token). PlacedAs 0 bs js) (append-nil ks)
    (placed_from (both s [] [] (past_blanks rest [] [] (subst (λ (cs : List ℕ). Begins cs [] []) (sym e) (nothing [])))) refl 0)

-- identifiers and terms

pub word_read : (bs front : List ℕ) (n : ℕ) (w rest : List ℕ) (made : Option Word) (i : Word) → front ≡ after_blanks bs → n ≡ prefix_len goes_on front → w ≡ take n front → rest ≡ drop n front
    → made ≡ (if is_ident w then Some w else None) → made ≡ Some i → Begins bs (Identifier i ∷ []) rest
word_read bs front n w rest made i t e f g h m =
    let s = token_sound front (Identifier i) rest (word_found front n w rest made i e f g h m) in
    past_blanks bs (Identifier i ∷ []) rest
    (subst (λ (cs : List ℕ). Begins cs (Identifier i ∷ []) rest) (sym s.splits ∙ t)
    (a_token s.spelling (Identifier i) rest [] rest s.spells (nothing rest)))

pub term_read : (room : ℕ) (bs mid rest : List ℕ) (w : Word) (t : Term) → Begins bs (Identifier w ∷ []) mid → TermBehind room w mid t rest → TermRead room bs t rest
term_read room bs mid rest w t s r = record { tokens = Identifier w ∷ r.tokens; begins = both s r.tokens rest r.begins; spells = r.spells }

pub variable_read : (room : ℕ) (bs : List ℕ) (w : Word) → is_variable w ≡ true → TermBehind room w bs (Var w) bs
variable_read room bs w i = record { tokens = []; begins = nothing bs; spells = variable room w i }

pub name_read : (room : ℕ) (bs : List ℕ) (w : Word) → is_name w ≡ true → TermBehind room w bs (Name w) bs
name_read room bs w i = record { tokens = []; begins = nothing bs; spells = name room w i }

terms_more : {room : ℕ} {ks : List Token} {ts : List Term} → SpellsTerms room ks ts → (js : List Token) (t : Term) → SpellsTerm room js t → SpellsTerms room (ks ++ Comma ∷ js) (ts ++ t ∷ [])
terms_more (last_term room ks s i) js t e = more_terms room ks js s (t ∷ []) i (last_term room js t e)
terms_more (more_terms room ks ls s ts i is) js t e =
    subst (λ (ms : List Token). SpellsTerms room ms (s ∷ ts ++ t ∷ [])) (sym (append_assoc ks (Comma ∷ ls) (Comma ∷ js)))
    (more_terms room ks (ls ++ Comma ∷ js) s (ts ++ t ∷ []) i (terms_more is js t e))

open_typed : typed_sign 40 ≡ Some Open
unfolding typed_sign
open_typed = refl

close_typed : typed_sign 41 ≡ Some Close
unfolding typed_sign
close_typed = refl

comma_typed : typed_sign 44 ≡ Some Comma
unfolding typed_sign
comma_typed = refl

less_one : (room less : ℕ) → less + 1 ≡ room → suc less ≡ room
less_one room less e = omega (arith, e)

pub first_term : (room : ℕ) (bs rest : List ℕ) (t : Term) (ts : List Term) → TermRead room bs t rest → ts ≡ t ∷ [] → TermsRead room bs ts rest
first_term room bs rest t ts r e = record { tokens = r.tokens; begins = r.begins; spells = subst (λ (us : List Term). SpellsTerms room r.tokens us) (sym e) (last_term room r.tokens t r.spells) }

pub next_term : (room : ℕ) (bs mid after rest : List ℕ) (ts us : List Term) (t : Term) → TermsRead room bs ts mid → SignRead 44 mid after → TermRead room after t rest → us ≡ ts ++ t ∷ [] → TermsRead room bs us rest
next_term room bs mid after rest ts us t r e n is = record {
  tokens = r.tokens ++ Comma ∷ n.tokens;
  begins = both r.begins (Comma ∷ n.tokens) rest (sign_begins mid 44 Comma after n.tokens rest e comma_typed n.begins);
  spells = subst (λ (vs : List Term). SpellsTerms room (r.tokens ++ Comma ∷ n.tokens) vs) (sym is) (terms_more r.spells n.tokens t n.spells);
}

pub terms_closed : (room : ℕ) (bs mid after : List ℕ) (ts : List Term) → TermsRead room bs ts mid → SignRead 41 mid after → ClosedTermsRead room bs ts after
terms_closed room bs mid after ts r e = record {
  tokens = r.tokens;
  begins = both r.begins (Close ∷ []) after (e.begins Close close_typed);
  spells = r.spells;
}

pub function_read : (room less : ℕ) (bs after rest : List ℕ) (w : Word) (ts : List Term) → less + 1 ≡ room → is_name w ≡ true → SignRead 40 bs after → ClosedTermsRead less after ts rest → TermBehind room w bs (App w ts) rest
function_read room less bs after rest w ts i n e r = record {
  tokens = Open ∷ r.tokens ++ Close ∷ [];
  begins = sign_begins bs 40 Open after (r.tokens ++ Close ∷ []) rest e open_typed r.begins;
  spells = subst (λ (m : ℕ). SpellsTerm m (Identifier w ∷ Open ∷ r.tokens ++ Close ∷ []) (App w ts)) (less_one room less i) (function less w r.tokens ts n r.spells);
}

-- parts without a prefix

pub atom_read : (room : ℕ) (bs after rest : List ℕ) (w : Word) (ts : List Term) → is_predicate w ≡ true → SignRead 40 bs after → ClosedTermsRead room after ts rest → PartBehind (Identifier w ∷ []) room bs (Atom w ts) rest
atom_read room bs after rest w ts i e r = record {
  tokens = Open ∷ r.tokens ++ Close ∷ [];
  begins = sign_begins bs 40 Open after (r.tokens ++ Close ∷ []) rest e open_typed r.begins;
  spells = atom room w r.tokens ts i r.spells;
}

pub letter_read : (room : ℕ) (bs : List ℕ) (w : Word) (ts : List Term) → is_predicate w ≡ true → ts ≡ [] → PartBehind (Identifier w ∷ []) room bs (Atom w ts) bs
letter_read room bs w ts i e = record {
  tokens = [];
  begins = nothing bs;
  spells = subst (λ (us : List Term). SpellsPart room (Identifier w ∷ []) (Atom w us)) (sym e) (letter room w i);
}

pub equation_read : (room : ℕ) (ks : List Token) (bs after rest : List ℕ) (s t : Term) → SpellsTerm room ks s → SignRead 61 bs after → TermRead room after t rest → PartBehind ks room bs (Eq s t) rest
equation_read room ks bs after rest s t i e r = record {
  tokens = Equals ∷ r.tokens;
  begins = sign_begins bs 61 Equals after r.tokens rest e equals_typed r.begins;
  spells = equation room ks r.tokens s t i r.spells;
}

pub inequation_read : (room : ℕ) (ks : List Token) (bs after rest : List ℕ) (s t : Term) → SpellsTerm room ks s → SignRead 35 bs after → TermRead room after t rest → PartBehind ks room bs (Not (Eq s t)) rest
inequation_read room ks bs after rest s t i e r = record {
  tokens = Unequal ∷ r.tokens;
  begins = sign_begins bs 35 Unequal after r.tokens rest e unequal_typed r.begins;
  spells = inequation room ks r.tokens s t i r.spells;
}

pub behind_word : (room : ℕ) (bs mid rest : List ℕ) (w : Word) (s : Sent) → Begins bs (Identifier w ∷ []) mid → PartBehind (Identifier w ∷ []) room mid s rest → PartRead room bs s rest
behind_word room bs mid rest w s b r = record { tokens = Identifier w ∷ r.tokens; begins = both b r.tokens rest r.begins; spells = r.spells }

pub behind_term : (room : ℕ) (bs mid rest after : List ℕ) (w : Word) (t : Term) (s : Sent) → Begins bs (Identifier w ∷ []) mid → TermBehind room w mid t rest
    → ((ks : List Token) → SpellsTerm room ks t → PartBehind ks room rest s after) → PartRead room bs s after
behind_term room bs mid rest after w t s b r part =
    let p = part (Identifier w ∷ r.tokens) r.spells in
    record { tokens = Identifier w ∷ r.tokens ++ p.tokens; begins = both b (r.tokens ++ p.tokens) after (both r.begins p.tokens after p.begins); spells = p.spells }

pub falsum_read : (room : ℕ) (bs after : List ℕ) → SignRead 94 bs after → PartRead room bs Bottom after
falsum_read room bs after e = record { tokens = FalsumSign ∷ []; begins = e.begins FalsumSign falsum_typed; spells = falsum room }

-- parts behind a sign

behind_sign : (b : ℕ) (k : Token) (room : ℕ) (bs after rest : List ℕ) (s : Sent) → typed_sign b ≡ Some k → SignRead b bs after → PartBehind (k ∷ []) room after s rest → PartRead room bs s rest
behind_sign b k room bs after rest s i e r = record { tokens = k ∷ r.tokens; begins = sign_begins bs b k after r.tokens rest e i r.begins; spells = r.spells }

pub behind_open : (room : ℕ) (bs after rest : List ℕ) (s : Sent) → SignRead 40 bs after → PartBehind (Open ∷ []) room after s rest → PartRead room bs s rest
behind_open room bs after rest s = behind_sign 40 Open room bs after rest s open_typed

pub behind_not : (room : ℕ) (bs after rest : List ℕ) (s : Sent) → SignRead 126 bs after → PartBehind (NotSign ∷ []) room after s rest → PartRead room bs s rest
behind_not room bs after rest s = behind_sign 126 NotSign room bs after rest s not_typed

pub behind_all : (room : ℕ) (bs after rest : List ℕ) (s : Sent) → SignRead 64 bs after → PartBehind (AllSign ∷ []) room after s rest → PartRead room bs s rest
behind_all room bs after rest s = behind_sign 64 AllSign room bs after rest s all_typed

pub behind_exists : (room : ℕ) (bs after rest : List ℕ) (s : Sent) → SignRead 47 bs after → PartBehind (ExistsSign ∷ []) room after s rest → PartRead room bs s rest
behind_exists room bs after rest s = behind_sign 47 ExistsSign room bs after rest s exists_typed

pub group_read : (room less : ℕ) (bs mid after : List ℕ) (s : Sent) → less + 1 ≡ room → SentenceRead less bs s mid → SignRead 41 mid after → PartBehind (Open ∷ []) room bs s after
group_read room less bs mid after s e r i = record {
  tokens = r.tokens ++ Close ∷ [];
  begins = both r.begins (Close ∷ []) after (i.begins Close close_typed);
  spells = subst (λ (n : ℕ). SpellsPart n (Open ∷ r.tokens ++ Close ∷ []) s) (less_one room less e) (group less r.tokens s r.spells);
}

pub negation_read : (room less : ℕ) (bs rest : List ℕ) (s : Sent) → less + 1 ≡ room → PartRead less bs s rest → PartBehind (NotSign ∷ []) room bs (Not s) rest
negation_read room less bs rest s e r = record {
  tokens = r.tokens;
  begins = r.begins;
  spells = subst (λ (n : ℕ). SpellsPart n (NotSign ∷ r.tokens) (Not s)) (less_one room less e) (negation less r.tokens s r.spells);
}

pub universal_read : (room less : ℕ) (bs mid rest : List ℕ) (x : Word) (s : Sent) → less + 1 ≡ room → Begins bs (Identifier x ∷ []) mid → is_variable x ≡ true → PartRead less mid s rest → PartBehind (AllSign ∷ []) room bs (All x s) rest
universal_read room less bs mid rest x s e b i r = record {
  tokens = Identifier x ∷ r.tokens;
  begins = both b r.tokens rest r.begins;
  spells = subst (λ (n : ℕ). SpellsPart n (AllSign ∷ Identifier x ∷ r.tokens) (All x s)) (less_one room less e) (universal less x r.tokens s i r.spells);
}

pub existential_read : (room less : ℕ) (bs mid rest : List ℕ) (x : Word) (s : Sent) → less + 1 ≡ room → Begins bs (Identifier x ∷ []) mid → is_variable x ≡ true → PartRead less mid s rest → PartBehind (ExistsSign ∷ []) room bs (Ex x s) rest
existential_read room less bs mid rest x s e b i r = record {
  tokens = Identifier x ∷ r.tokens;
  begins = both b r.tokens rest r.begins;
  spells = subst (λ (n : ℕ). SpellsPart n (ExistsSign ∷ Identifier x ∷ r.tokens) (Ex x s)) (less_one room less e) (existential less x r.tokens s i r.spells);
}

-- chains and sentences

parts_more : {joint : Token} {room : ℕ} {ks : List Token} {ss : List Sent} → SpellsParts joint room ks ss → (js : List Token) (t : Sent) → SpellsPart room js t → SpellsParts joint room (ks ++ joint ∷ js) (ss ++ t ∷ [])
parts_more (last_part joint room ks s i) js t e = more_parts joint room ks js s (t ∷ []) i (last_part joint room js t e)
parts_more (more_parts joint room ks ls s ss i is) js t e =
    subst (λ (ms : List Token). SpellsParts joint room ms (s ∷ ss ++ t ∷ [])) (sym (append_assoc ks (joint ∷ ls) (joint ∷ js)))
    (more_parts joint room ks (ls ++ joint ∷ js) s (ss ++ t ∷ []) i (parts_more is js t e))

pub first_chain : (room : ℕ) (bs rest : List ℕ) (s t : Sent) (ss : List Sent) → PartRead room bs t rest → ss ≡ s ∷ t ∷ [] → (k : Token) → ChainRead k room bs s ss rest
first_chain room bs rest s t ss r e k = record { others = t ∷ []; is = e; tokens = r.tokens; begins = r.begins; spells = last_part k room r.tokens t r.spells }

pub next_chain : (room b : ℕ) (bs mid after rest : List ℕ) (s t : Sent) (ss ts : List Sent) (k : Token) → ChainRead k room bs s ss mid → typed_sign b ≡ Some k → SignRead b mid after → PartRead room after t rest → ts ≡ ss ++ t ∷ [] → ChainRead k room bs s ts rest
next_chain room b bs mid after rest s t ss ts k r i e n is = record {
  others = r.others ++ t ∷ [];
  is = is ∙ ap (λ (us : List Sent). us ++ t ∷ []) r.is;
  tokens = r.tokens ++ k ∷ n.tokens;
  begins = both r.begins (k ∷ n.tokens) rest (sign_begins mid b k after n.tokens rest e i n.begins);
  spells = parts_more r.spells n.tokens t n.spells;
}

pub part_alone : (room : ℕ) (bs rest : List ℕ) (s : Sent) → PartRead room bs s rest → SentenceRead room bs s rest
part_alone room bs rest s r = record { tokens = r.tokens; begins = r.begins; spells = one_part room r.tokens s r.spells }

pub conjunction_read : (room : ℕ) (bs mid after rest : List ℕ) (s : Sent) (all : List Sent) → PartRead room bs s mid → SignRead 38 mid after → ((k : Token) → typed_sign 38 ≡ Some k → ChainRead k room after s all rest) → SentenceRead room bs (And all) rest
conjunction_read room bs mid after rest s all r e chain =
    let c = chain AndSign and_typed in
    record {
      tokens = r.tokens ++ AndSign ∷ c.tokens;
      begins = both r.begins (AndSign ∷ c.tokens) rest (sign_begins mid 38 AndSign after c.tokens rest e and_typed c.begins);
      spells = subst (λ (ss : List Sent). Spells room (r.tokens ++ AndSign ∷ c.tokens) (And ss)) (sym c.is) (conjunction room r.tokens c.tokens s c.others r.spells c.spells);
    }

pub disjunction_read : (room : ℕ) (bs mid after rest : List ℕ) (s : Sent) (all : List Sent) → PartRead room bs s mid → SignRead 124 mid after → ((k : Token) → typed_sign 124 ≡ Some k → ChainRead k room after s all rest) → SentenceRead room bs (Or all) rest
disjunction_read room bs mid after rest s all r e chain =
    let c = chain OrSign or_typed in
    record {
      tokens = r.tokens ++ OrSign ∷ c.tokens;
      begins = both r.begins (OrSign ∷ c.tokens) rest (sign_begins mid 124 OrSign after c.tokens rest e or_typed c.begins);
      spells = subst (λ (ss : List Sent). Spells room (r.tokens ++ OrSign ∷ c.tokens) (Or ss)) (sym c.is) (disjunction room r.tokens c.tokens s c.others r.spells c.spells);
    }

pub conditional_read : (room : ℕ) (bs mid after rest : List ℕ) (s t : Sent) → PartRead room bs s mid → SignRead 36 mid after → PartRead room after t rest → SentenceRead room bs (If s t) rest
conditional_read room bs mid after rest s t r e n = record {
  tokens = r.tokens ++ IfSign ∷ n.tokens;
  begins = both r.begins (IfSign ∷ n.tokens) rest (sign_begins mid 36 IfSign after n.tokens rest e if_typed n.begins);
  spells = conditional room r.tokens n.tokens s t r.spells n.spells;
}

pub biconditional_read : (room : ℕ) (bs mid after rest : List ℕ) (s t : Sent) → PartRead room bs s mid → SignRead 37 mid after → PartRead room after t rest → SentenceRead room bs (Iff s t) rest
biconditional_read room bs mid after rest s t r e n = record {
  tokens = r.tokens ++ IffSign ∷ n.tokens;
  begins = both r.begins (IffSign ∷ n.tokens) rest (sign_begins mid 37 IffSign after n.tokens rest e iff_typed n.begins);
  spells = biconditional room r.tokens n.tokens s t r.spells n.spells;
}
