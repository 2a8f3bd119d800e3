-- What each state of the machine stands for: the tokens so far, stretch by stretch. The tokens before a part keep this.
use Rattle.std.proofs.Common.{◌≡◌, ℕ, suc, ◌+◌, ◌-◌, ◌<◌, ltb-true, nat_lt, Bool, true, false, List, [], ◌∷◌, ◌++◌, length, ◌⊎◌, Option, Some, None, Result, Ok, Err, refl, ap, sym, ◌∙◌, subst, append_assoc, if◌then◌else◌, arith}
use Rattle.std.proofs.lemmas.List.{append-nil}
use Rattle.fol_core.specs.Word.{Word, is_predicate, is_variable, is_name}
use Rattle.fol_core.specs.declared.sent.Term.{Term}
use Rattle.fol_core.specs.declared.sent.Term.TheVariants.{Var, Name}
use Rattle.fol_core.specs.declared.sent.Sent.{Sent}
use Rattle.fol_core.specs.declared.sent.Sent.TheVariants.{Atom, Bottom, Not, All, Ex}
use Rattle.fol_text.specs.declared.fault.Refusal.{Refusal}
use Rattle.fol_text.specs.declared.fault.Refusal.TheVariants.{Unexpected, TooDeep}
use Rattle.fol_text.specs.declared.token.Token.{Token}
use Rattle.fol_text.specs.declared.token.Token.TheVariants.{NotSign, AndSign, OrSign, IfSign, IffSign, AllSign, ExistsSign, FalsumSign, Equals, Unequal, Open, Comma, Identifier}
use Rattle.fol_text.specs.declared.state.Quantifier.{Quantifier}
use Rattle.fol_text.specs.declared.state.Quantifier.TheVariants.{Universal, Existential}
use Rattle.fol_text.specs.declared.state.Prefix.{Prefix}
use Rattle.fol_text.specs.declared.state.Prefix.TheVariants.{Negation, Quantified}
use Rattle.fol_text.specs.declared.state.Relation.{Relation}
use Rattle.fol_text.specs.declared.state.Relation.TheVariants.{Same, Different}
use Rattle.fol_text.specs.declared.state.Begun.{Begun}
use Rattle.fol_text.specs.declared.state.Begun.TheVariants.{Nothing, Conjunction, Disjunction, Conditional, Biconditional}
use Rattle.fol_text.specs.declared.state.Mode.{Mode}
use Rattle.fol_text.specs.declared.state.Mode.TheVariants.{WantsPart, WantsVariable, HasPredicate, WantsTerm, HasTerm, HasPart}
use Rattle.fol_text.specs.declared.state.Read.{Read}
use Rattle.fol_text.specs.declared.state.Read.TheVariants.{Variable, Symbol, Function}
use Rattle.fol_text.specs.declared.state.Spot.{Spot}
use Rattle.fol_text.specs.declared.state.Spot.TheVariants.{Argument, Left, Right}
use Rattle.fol_text.specs.declared.state.Call.{Call}
use Rattle.fol_text.specs.declared.state.Group.{Group}
use Rattle.fol_text.specs.declared.state.State.{State}
use Rattle.fol_text.specs.Grammar.{SpellsTerm, variable, name, function, SpellsTerms, SpellsParts, SpellsPart, letter, falsum, negation, universal, existential}
use Rattle.fol_text.proofs.WordKinds.{IsWord, a_variable, a_name, word_is}
use Rattle.fol_text.specs.Machine.{state, group_of, wrapped, finished, negated, open_group, word_of, with_word, read_term, begin_part, take_variable, begin}

-- the tokens spell the parts, with the sign behind each of them
abbrev pub Chained : Token → ℕ → List Sent → List Token → Type 0
Chained k n ps ks = ((js : List Token) × (SpellsParts k n js ps × (ks ≡ js ++ k ∷ [])))

-- the tokens spell the part, with the sign behind it
abbrev pub LeftSide : Token → ℕ → Sent → List Token → Type 0
LeftSide k n p ks = ((js : List Token) × (SpellsPart n js p × (ks ≡ js ++ k ∷ [])))

-- the tokens of what is begun in a group
abbrev pub BegunBy : ℕ → Begun → List Token → Type 0
BegunBy n Nothing ks = ks ≡ []
BegunBy n (Conjunction ps) ks = Chained AndSign n ps ks
BegunBy n (Disjunction ps) ks = Chained OrSign n ps ks
BegunBy n (Conditional p) ks = LeftSide IfSign n p ks
BegunBy n (Biconditional p) ks = LeftSide IffSign n p ks

abbrev sign_of : Quantifier → Token
sign_of Universal = AllSign
sign_of Existential = ExistsSign

-- the tokens of the prefixes, the innermost of which comes first
abbrev pub Prefixed : List Prefix → List Token → Type 0
Prefixed [] ks = ks ≡ []
Prefixed (Negation ∷ ps) ks = (js : List Token) × (Prefixed ps js × (ks ≡ js ++ NotSign ∷ []))
Prefixed (Quantified q x ∷ ps) ks = (js : List Token) × (Prefixed ps js × ((is_variable x ≡ true) × (ks ≡ js ++ sign_of q ∷ Identifier x ∷ [])))

-- the tokens lead into these groups, the innermost of which has this room, and the outermost that one
abbrev pub Inside : ℕ → ℕ → List Group → List Token → Type 0
Inside top n [] ks = (n ≡ top) × (ks ≡ [])
Inside top n (g ∷ o) ks =
    (before : List Token) × ((chain : List Token) × ((front : List Token) × ((g.room ≡ suc n + length g.prefixes) × (Inside top g.room o before
    × (BegunBy g.room g.begun chain × (Prefixed g.prefixes front × (ks ≡ before ++ chain ++ front ++ Open ∷ [])))))))

-- the tokens spell the terms, with a comma behind each of them
abbrev pub Listing : ℕ → List Term → List Token → Type 0
Listing n ts ks = ((ts ≡ []) × (ks ≡ [])) ⊎ ((js : List Token) × (SpellsTerms n js ts × (ks ≡ js ++ Comma ∷ [])))

abbrev pub relation_sign : Relation → Token
relation_sign Same = Equals
relation_sign Different = Unequal

-- the tokens before a term that stands at this spot, in no function
abbrev pub AtSpot : ℕ → Spot → List Token → Type 0
AtSpot n (Argument p ts) ks = (is_predicate p ≡ true) × ((js : List Token) × (Listing n ts js × (ks ≡ Identifier p ∷ Open ∷ js)))
AtSpot n Left ks = ks ≡ []
AtSpot n (Right a r) ks = (js : List Token) × (SpellsTerm n js a × (ks ≡ js ++ relation_sign r ∷ []))

-- the tokens lead from such a place into these functions, the innermost of which comes first, and in it so much room is left
abbrev pub InCalls : ℕ → List Call → ℕ → List Token → Type 0
InCalls n [] m ks = (m ≡ n) × (ks ≡ [])
InCalls n (c ∷ cs) m ks = (outside : List Token) × ((js : List Token) × ((is_name c.symbol ≡ true) × (InCalls n cs (suc m) outside × (Listing m c.arguments js × (ks ≡ outside ++ Identifier c.symbol ∷ Open ∷ js)))))

-- the tokens are what is read of a term
abbrev pub IsRead : ℕ → Read → List Token → Type 0
IsRead m (Variable x) ks = (is_variable x ≡ true) × (ks ≡ Identifier x ∷ [])
IsRead m (Symbol k) ks = (is_name k ≡ true) × (ks ≡ Identifier k ∷ [])
IsRead m (Function t) ks = SpellsTerm m ks t

-- the tokens before a term that has to come; on the left of an equation the first word has come already
pub record ToTerm (n : ℕ) (spot : Spot) (cs : List Call) (ks : List Token) : Type 0 where
  pub outer : List Token
  pub inner : List Token
  pub left : ℕ
  pub at : AtSpot n spot outer
  pub calls : InCalls n cs left inner
  pub all : ks ≡ outer ++ inner

abbrev pub NotFirst : Spot → List Call → Type 0
NotFirst Left [] = ⊥
NotFirst spot cs = Unit {0}

-- the tokens with a term behind them
pub record WithTerm (n : ℕ) (spot : Spot) (cs : List Call) (r : Read) (ks : List Token) : Type 0 where
  pub before : List Token
  pub to : ToTerm n spot cs before
  pub term : List Token
  pub is_read : IsRead to.left r term
  pub all : ks ≡ before ++ term

-- the tokens of a part that has begun, behind these prefixes and in the room that they leave
abbrev Pending : List Prefix → ℕ → Mode → List Token → Type 0
Pending ps n WantsPart ks = ks ≡ []
Pending ps n (WantsVariable q) ks = (l : ℕ) × ((n ≡ suc l) × (ks ≡ sign_of q ∷ []))
Pending ps n (HasPredicate p) ks = (is_predicate p ≡ true) × (ks ≡ Identifier p ∷ [])
Pending ps n (WantsTerm spot cs) ks = NotFirst spot cs × ToTerm n spot cs ks
Pending ps n (HasTerm spot cs r) ks = WithTerm n spot cs r ks
Pending ps n (HasPart s) ks = (ps ≡ []) × SpellsPart n ks s

-- the tokens so far, and what each stretch of them has come to in the state
pub record Built (top : ℕ) (st : State) (ks : List Token) : Type 0 where
  pub before : List Token
  pub chain : List Token
  pub front : List Token
  pub now : List Token
  pub left : ℕ
  pub room : st.here.room ≡ left + length st.here.prefixes
  pub inside : Inside top st.here.room st.outer before
  pub begun : BegunBy st.here.room st.here.begun chain
  pub prefixed : Prefixed st.here.prefixes front
  pub pending : Pending st.here.prefixes left st.mode now
  pub all : ks ≡ before ++ chain ++ front ++ now

pub no_prefix : (n : ℕ) → n ≡ n + 0
no_prefix n = omega arith

pub begin_built : (top : ℕ) → Built top (begin top) []
begin_built top = record { before = []; chain = []; front = []; now = []; left = top; room = no_prefix top; inside = (refl, refl); begun = refl; prefixed = refl; pending = refl; all = refl }

abbrev pub Next : ℕ → Result State Refusal → List Token → Type 0
Next top (Err refusal) ks = Unit {0}
Next top (Ok st) ks = Built top st ks

pub next_if : (top : ℕ) (b : Bool) (st : State) (refusal : Refusal) (ks : List Token) → (b ≡ true → Built top st ks) → Next top (if b then Ok st else Err refusal) ks
next_if top true st refusal ks f = f refl
next_if top false st refusal ks f = tt

-- one more token of the part
pub goes_on : (top : ℕ) (m m' : Mode) (h : Group) (o : List Group) (ks : List Token) (k : Token) (b : Built top (state m h o) ks) → Pending h.prefixes b.left m' (b.now ++ k ∷ []) → Built top (state m' h o) (ks ++ k ∷ [])
goes_on top m m' h o ks k b p = record {
  before = b.before;
  chain = b.chain;
  front = b.front;
  now = b.now ++ k ∷ [];
  left = b.left;
  room = b.room;
  inside = b.inside;
  begun = b.begun;
  prefixed = b.prefixed;
  pending = p;
  all = ap (λ (xs : List Token). xs ++ k ∷ []) b.all ∙ append_assoc (b.before ++ b.chain ++ b.front) b.now (k ∷ []);
}

-- a part and its prefixes

pub more_front : (js now : List Token) (ks : List Token) (k : Token) → ks ≡ js ++ k ∷ [] → ks ++ now ≡ js ++ (k ∷ now)
more_front js now ks k e = ap (λ (xs : List Token). xs ++ now) e ∙ append_assoc js (k ∷ []) now

two_front : (js now : List Token) (ks : List Token) (k l : Token) → ks ≡ js ++ k ∷ l ∷ [] → ks ++ now ≡ js ++ (k ∷ l ∷ now)
two_front js now ks k l e = ap (λ (xs : List Token). xs ++ now) e ∙ append_assoc js (k ∷ l ∷ []) now

one_less : (r n l : ℕ) → r ≡ n + suc l → r ≡ suc n + l
one_less r n l e = omega arith

pub no_more : (r n : ℕ) → r ≡ n + 0 → n ≡ r
no_more r n e = omega arith

quantified_spelled : (q : Quantifier) (n : ℕ) (x : Word) (ks : List Token) (s : Sent) → is_variable x ≡ true → SpellsPart n ks s → SpellsPart (suc n) (sign_of q ∷ Identifier x ∷ ks) (wrapped (Quantified q x ∷ []) s)
quantified_spelled Universal n x ks s v h = universal n x ks s v h
quantified_spelled Existential n x ks s v h = existential n x ks s v h

pub wrapped_spelled : (ps : List Prefix) (r n : ℕ) (front now : List Token) (s : Sent) → r ≡ n + length ps → Prefixed ps front → SpellsPart n now s → SpellsPart r (front ++ now) (wrapped ps s)
wrapped_spelled [] r n front now s e f h =
    subst (λ (ks : List Token). SpellsPart r (ks ++ now) s) (sym f) (subst (λ (m : ℕ). SpellsPart m now s) (no_more r n e) h)
wrapped_spelled (Negation ∷ ps) r n front now s e (js, (f, d)) h =
    subst (λ (ks : List Token). SpellsPart r ks (wrapped ps (Not s))) (sym (more_front js now front NotSign d))
    (wrapped_spelled ps r (suc n) js (NotSign ∷ now) (Not s) (one_less r n (length ps) e) f (negation n now s h))
wrapped_spelled (Quantified Universal x ∷ ps) r n front now s e (js, (f, (v, d))) h =
    subst (λ (ks : List Token). SpellsPart r ks (wrapped ps (All x s))) (sym (two_front js now front AllSign (Identifier x) d))
    (wrapped_spelled ps r (suc n) js (AllSign ∷ Identifier x ∷ now) (All x s) (one_less r n (length ps) e) f (universal n x now s v h))
wrapped_spelled (Quantified Existential x ∷ ps) r n front now s e (js, (f, (v, d))) h =
    subst (λ (ks : List Token). SpellsPart r ks (wrapped ps (Ex x s))) (sym (two_front js now front ExistsSign (Identifier x) d))
    (wrapped_spelled ps r (suc n) js (ExistsSign ∷ Identifier x ∷ now) (Ex x s) (one_less r n (length ps) e) f (existential n x now s v h))

pub finished_all : (ks before chain front now : List Token) → ks ≡ before ++ chain ++ front ++ now → ks ≡ before ++ chain ++ [] ++ (front ++ now)
finished_all ks before chain front now e = e ∙ append_assoc (before ++ chain) front now ∙ ap (λ (xs : List Token). xs ++ (front ++ now)) (sym (append-nil (before ++ chain)))

-- a part is complete, where its tokens are these
pub finished_built : (top : ℕ) (m : Mode) (h : Group) (o : List Group) (ks now : List Token) (s : Sent) (b : Built top (state m h o) ks) (js : List Token) → js ≡ b.before ++ b.chain ++ b.front ++ now → SpellsPart b.left now s → Built top (finished s h o) js
finished_built top m h o ks now s b js e p = record {
  before = b.before;
  chain = b.chain;
  front = [];
  now = b.front ++ now;
  left = h.room;
  room = no_prefix h.room;
  inside = b.inside;
  begun = b.begun;
  prefixed = refl;
  pending = (refl, wrapped_spelled h.prefixes h.room b.left b.front now s b.room b.prefixed p);
  all = finished_all js b.before b.chain b.front now e;
}

more_now : (ks before chain front now : List Token) (k : Token) → ks ≡ before ++ chain ++ front ++ now → ks ++ k ∷ [] ≡ before ++ chain ++ front ++ (now ++ k ∷ [])
more_now ks before chain front now k e = ap (λ (xs : List Token). xs ++ k ∷ []) e ∙ append_assoc (before ++ chain ++ front) now (k ∷ [])

-- one more token completes the part
pub completes : (top : ℕ) (m : Mode) (h : Group) (o : List Group) (ks : List Token) (k : Token) (s : Sent) (b : Built top (state m h o) ks) → SpellsPart b.left (b.now ++ k ∷ []) s → Built top (finished s h o) (ks ++ k ∷ [])
completes top m h o ks k s b p = finished_built top m h o ks (b.now ++ k ∷ []) s b (ks ++ k ∷ []) (more_now ks b.before b.chain b.front b.now k b.all) p

pub letter_built : (top : ℕ) (p : Word) (h : Group) (o : List Group) (ks : List Token) → Built top (state (HasPredicate p) h o) ks → Built top (finished (Atom p []) h o) ks
letter_built top p h o ks b = finished_built top (HasPredicate p) h o ks b.now (Atom p []) b ks b.all
    (subst (λ (js : List Token). SpellsPart b.left js (Atom p [])) (sym b.pending.1) (letter b.left p b.pending.0))

-- prefixes and groups

pub room_left : (r l n : ℕ) → r ≡ n + l → nat_lt l r ≡ true → n ≡ suc (n - 1)
room_left r l n e t = let h : l < r = ltb-true l r t in omega arith

still_left : (r l n m : ℕ) → r ≡ n + l → n ≡ suc m → r ≡ m + suc l
still_left r l n m e f = omega arith

room_inside : (r l n : ℕ) → r ≡ n + l → n ≡ suc (n - 1) → r ≡ suc (r - l - 1) + l
room_inside r l n e f = omega arith

front_all : (ks before chain front now : List Token) (xs : List Token) → ks ≡ before ++ chain ++ front ++ now → now ≡ [] → ks ++ xs ≡ before ++ chain ++ (front ++ xs) ++ []
front_all ks before chain front now xs e f =
    ap (λ (ys : List Token). ys ++ xs) (e ∙ ap (λ (ys : List Token). before ++ chain ++ front ++ ys) f ∙ append-nil (before ++ chain ++ front))
    ∙ append_assoc (before ++ chain) front xs ∙ sym (append-nil (before ++ chain ++ (front ++ xs)))

negated_built : (top : ℕ) (h : Group) (o : List Group) (ks : List Token) (b : Built top (state WantsPart h o) ks) → b.left ≡ suc (b.left - 1) → Built top (negated h o) (ks ++ NotSign ∷ [])
negated_built top h o ks b e = record {
  before = b.before;
  chain = b.chain;
  front = b.front ++ NotSign ∷ [];
  now = [];
  left = b.left - 1;
  room = still_left h.room (length h.prefixes) b.left (b.left - 1) b.room e;
  inside = b.inside;
  begun = b.begun;
  prefixed = (b.front, (b.prefixed, refl));
  pending = refl;
  all = front_all ks b.before b.chain b.front b.now (NotSign ∷ []) b.all b.pending;
}

quantifier_built : (top : ℕ) (q : Quantifier) (h : Group) (o : List Group) (ks : List Token) (b : Built top (state WantsPart h o) ks) → b.left ≡ suc (b.left - 1) → Built top (state (WantsVariable q) h o) (ks ++ sign_of q ∷ [])
quantifier_built top q h o ks b e = goes_on top WantsPart (WantsVariable q) h o ks (sign_of q) b (b.left - 1, (e, ap (λ (xs : List Token). xs ++ sign_of q ∷ []) b.pending))

variable_all : (ks before chain front now : List Token) (k l : Token) → ks ≡ before ++ chain ++ front ++ now → now ≡ k ∷ [] → ks ++ l ∷ [] ≡ before ++ chain ++ (front ++ k ∷ l ∷ []) ++ []
variable_all ks before chain front now k l e f =
    ap (λ (ys : List Token). ys ++ l ∷ []) (e ∙ ap (λ (ys : List Token). before ++ chain ++ front ++ ys) f)
    ∙ append_assoc (before ++ chain ++ front) (k ∷ []) (l ∷ []) ∙ append_assoc (before ++ chain) front (k ∷ l ∷ []) ∙ sym (append-nil (before ++ chain ++ (front ++ k ∷ l ∷ [])))

variable_built : (top : ℕ) (q : Quantifier) (x : Word) (h : Group) (o : List Group) (ks : List Token) → Built top (state (WantsVariable q) h o) ks → is_variable x ≡ true
    → Built top (state WantsPart (group_of h.room (Quantified q x ∷ h.prefixes) h.begun) o) (ks ++ Identifier x ∷ [])
variable_built top q x h o ks b v =
    let (l, (e, f)) = b.pending in
    record {
      before = b.before;
      chain = b.chain;
      front = b.front ++ sign_of q ∷ Identifier x ∷ [];
      now = [];
      left = l;
      room = still_left h.room (length h.prefixes) b.left l b.room e;
      inside = b.inside;
      begun = b.begun;
      prefixed = (b.front, (b.prefixed, (v, refl)));
      pending = refl;
      all = variable_all ks b.before b.chain b.front b.now (sign_of q) (Identifier x) b.all f;
    }

opens_all : (ks before chain front now : List Token) (k : Token) → ks ≡ before ++ chain ++ front ++ now → now ≡ [] → ks ++ k ∷ [] ≡ before ++ chain ++ front ++ k ∷ [] ++ [] ++ [] ++ []
opens_all ks before chain front now k e f =
    ap (λ (xs : List Token). xs ++ k ∷ []) (e ∙ ap (λ (xs : List Token). before ++ chain ++ front ++ xs) f ∙ append-nil (before ++ chain ++ front)) ∙ simp append-nil

group_built : (top : ℕ) (h : Group) (o : List Group) (ks : List Token) (b : Built top (state WantsPart h o) ks) → b.left ≡ suc (b.left - 1) → Built top (open_group h o) (ks ++ Open ∷ [])
group_built top h o ks b e = record {
  before = b.before ++ b.chain ++ b.front ++ Open ∷ [];
  chain = [];
  front = [];
  now = [];
  left = h.room - length h.prefixes - 1;
  room = no_prefix (h.room - length h.prefixes - 1);
  inside = (b.before, (b.chain, (b.front, (room_inside h.room (length h.prefixes) b.left b.room e, (b.inside, (b.begun, (b.prefixed, refl)))))));
  begun = refl;
  prefixed = refl;
  pending = refl;
  all = opens_all ks b.before b.chain b.front b.now Open b.all b.pending;
}

-- what begins a part

word_read : (m : ℕ) {w : Word} {r : Read} → IsWord w r → IsRead m r (Identifier w ∷ [])
word_read m (a_variable w i) = (i, refl)
word_read m (a_name w i) = (i, refl)

pub word_found : (m : ℕ) (w : Word) (r : Read) → word_of w ≡ Some r → IsRead m r (Identifier w ∷ [])
word_found m w r e = word_read m (word_is w r e)

-- a mode behind a word of a term
pub next_word : (top : ℕ) (w : Word) (next : Read → State) (ks : List Token) → ((r : Read) → word_of w ≡ Some r → Built top (next r) ks) → (f : Option Read) → word_of w ≡ f → Next top (with_word f next) ks
next_word top w next ks built None e = tt
next_word top w next ks built (Some r) e = built r e

predicate_built : (top : ℕ) (w : Word) (h : Group) (o : List Group) (ks : List Token) → Built top (state WantsPart h o) ks → is_predicate w ≡ true → Built top (state (HasPredicate w) h o) (ks ++ Identifier w ∷ [])
predicate_built top w h o ks b i = goes_on top WantsPart (HasPredicate w) h o ks (Identifier w) b (i, ap (λ (xs : List Token). xs ++ Identifier w ∷ []) b.pending)

left_pending : (n : ℕ) (w : Word) (r : Read) (now : List Token) → now ≡ [] → word_of w ≡ Some r → WithTerm n Left [] r (now ++ Identifier w ∷ [])
left_pending n w r now e i = record {
  before = [];
  to = record { outer = []; inner = []; left = n; at = refl; calls = (refl, refl); all = refl };
  term = Identifier w ∷ [];
  is_read = word_found n w r i;
  all = ap (λ (xs : List Token). xs ++ Identifier w ∷ []) e;
}

left_built : (top : ℕ) (w : Word) (h : Group) (o : List Group) (ks : List Token) → Built top (state WantsPart h o) ks → (r : Read) → word_of w ≡ Some r → Built top (state (HasTerm Left [] r) h o) (ks ++ Identifier w ∷ [])
left_built top w h o ks b r i = goes_on top WantsPart (HasTerm Left [] r) h o ks (Identifier w) b (left_pending b.left w r b.now b.pending i)

word_begins : (top : ℕ) (w : Word) (h : Group) (o : List Group) (ks : List Token) → Built top (state WantsPart h o) ks → (p : Bool) → is_predicate w ≡ p
    → Next top (if p then Ok (state (HasPredicate w) h o) else with_word (word_of w) (λ r. state (HasTerm Left [] r) h o)) (ks ++ Identifier w ∷ [])
word_begins top w h o ks b true i = predicate_built top w h o ks b i
word_begins top w h o ks b false i = next_word top w (λ r. state (HasTerm Left [] r) h o) (ks ++ Identifier w ∷ []) (left_built top w h o ks b) (word_of w) refl

falsum_built : (top : ℕ) (h : Group) (o : List Group) (ks : List Token) → Built top (state WantsPart h o) ks → Built top (finished Bottom h o) (ks ++ FalsumSign ∷ [])
falsum_built top h o ks b = completes top WantsPart h o ks FalsumSign Bottom b
    (subst (λ (xs : List Token). SpellsPart b.left (xs ++ FalsumSign ∷ []) Bottom) (sym b.pending) (falsum b.left))

pub begins : (top : ℕ) (h : Group) (o : List Group) (ks : List Token) (k : Token) → Built top (state WantsPart h o) ks → Next top (begin_part h o k) (ks ++ k ∷ [])
begins top h o ks (Identifier w) b = word_begins top w h o ks b (is_predicate w) refl
begins top h o ks FalsumSign b = falsum_built top h o ks b
begins top h o ks NotSign b = next_if top (nat_lt (length h.prefixes) h.room) (negated h o) TooDeep (ks ++ NotSign ∷ []) (λ e. negated_built top h o ks b (room_left h.room (length h.prefixes) b.left b.room e))
begins top h o ks AllSign b = next_if top (nat_lt (length h.prefixes) h.room) (state (WantsVariable Universal) h o) TooDeep (ks ++ AllSign ∷ []) (λ e. quantifier_built top Universal h o ks b (room_left h.room (length h.prefixes) b.left b.room e))
begins top h o ks ExistsSign b = next_if top (nat_lt (length h.prefixes) h.room) (state (WantsVariable Existential) h o) TooDeep (ks ++ ExistsSign ∷ []) (λ e. quantifier_built top Existential h o ks b (room_left h.room (length h.prefixes) b.left b.room e))
begins top h o ks Open b = next_if top (nat_lt (length h.prefixes) h.room) (open_group h o) TooDeep (ks ++ Open ∷ []) (λ e. group_built top h o ks b (room_left h.room (length h.prefixes) b.left b.room e))
begins top h o ks k b = tt

pub variable_goes_on : (top : ℕ) (q : Quantifier) (h : Group) (o : List Group) (ks : List Token) (k : Token) → Built top (state (WantsVariable q) h o) ks → Next top (take_variable q h o k) (ks ++ k ∷ [])
variable_goes_on top q h o ks (Identifier x) b = next_if top (is_variable x) (state WantsPart (group_of h.room (Quantified q x ∷ h.prefixes) h.begun) o) Unexpected (ks ++ Identifier x ∷ []) (variable_built top q x h o ks b)
variable_goes_on top q h o ks k b = tt
