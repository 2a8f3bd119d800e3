-- What is read is spelled: each token keeps what the state stands for, and at the end the sentence is spelled.
use Rattle.std.proofs.Common.{◌≡◌, ℕ, suc, ◌+◌, ◌-◌, ◌<◌, nat_lt, ltb-true, true, arith, Some, List, [], ◌∷◌, ◌++◌, length, inl, inr, Result, Ok, Err, refl, ap, sym, ◌∙◌, subst, append_assoc}
use Rattle.std.proofs.lemmas.List.{append-nil}
use Rattle.fol_core.specs.Word.{Word, is_predicate, is_variable, is_name}
use Rattle.fol_core.specs.declared.sent.Term.{Term}
use Rattle.fol_core.specs.declared.sent.Term.TheVariants.{Var, Name, App}
use Rattle.fol_core.specs.declared.sent.Sent.{Sent}
use Rattle.fol_core.specs.declared.sent.Sent.TheVariants.{Atom, If, Iff}
use Rattle.fol_text.specs.declared.fault.Refusal.{Refusal}
use Rattle.fol_text.specs.declared.fault.Refusal.TheVariants.{TooDeep}
use Rattle.fol_text.specs.declared.token.Token.{Token}
use Rattle.fol_text.specs.declared.token.Token.TheVariants.{AndSign, OrSign, IfSign, IffSign, Equals, Unequal, Open, Close, Comma, Identifier}
use Rattle.fol_text.specs.declared.state.Prefix.{Prefix}
use Rattle.fol_text.specs.declared.state.Relation.{Relation}
use Rattle.fol_text.specs.declared.state.Relation.TheVariants.{Same, Different}
use Rattle.fol_text.specs.declared.state.Begun.{Begun}
use Rattle.fol_text.specs.declared.state.Begun.TheVariants.{Nothing, Conjunction, Disjunction, Conditional, Biconditional}
use Rattle.fol_text.specs.declared.state.Mode.{Mode}
use Rattle.fol_text.specs.declared.state.Mode.TheVariants.{WantsPart, WantsVariable, HasPredicate, WantsTerm, HasTerm, HasPart}
use Rattle.fol_text.specs.declared.state.Read.{Read}
use Rattle.fol_text.specs.declared.state.Read.TheVariants.{Variable, Symbol, Function}
use Rattle.fol_text.specs.declared.state.Spot.{Spot}
use Rattle.fol_text.specs.declared.state.Spot.TheVariants.{Argument, Left, Right}
use Rattle.fol_text.specs.declared.state.Call.{Call}
use Rattle.fol_text.specs.declared.state.Group.{Group}
use Rattle.fol_text.specs.declared.state.State.{State}
use Rattle.fol_text.specs.Grammar.{SpellsTerm, variable, name, function, SpellsTerms, last_term, Spells, one_part, conditional, biconditional, SpellsParts, last_part, SpellsPart, atom, equation, inequation, group}
use Rattle.fol_text.specs.Machine.{state, group_of, wrapped, finished, conjoined, disjoined, whole, close_group, begun_by, joined, after_part, word_of, read_term, call_of, after_predicate, take_term, open_call, in_call, after_argument, after_left, after_right, related, at_spot, behind_term, after_term, ended_term, step_in, step, ended_in, ended}
use Rattle.fol_text.proofs.Spelling.{terms_snoc, parts_snoc, conjoined_spelled, disjoined_spelled}
use Rattle.fol_text.proofs.Built.{Chained, LeftSide, BegunBy, Prefixed, Inside, Listing, relation_sign, AtSpot, InCalls, IsRead, ToTerm, NotFirst, WithTerm, word_found, next_word, next_if, Built, no_prefix, Next, goes_on, more_front, no_more, wrapped_spelled, finished_all, finished_built, completes, letter_built, begins, variable_goes_on}

-- what stands behind a part

whole_left : (n : ℕ) (k : Token) (p s whole_of : Sent) (chain now : List Token) → ((ls js : List Token) → SpellsPart n ls p → SpellsPart n js s → Spells n (ls ++ k ∷ js) whole_of) → LeftSide k n p chain → SpellsPart n now s → Spells n (chain ++ now) whole_of
whole_left n k p s whole_of chain now make (js, (h, e)) q = subst (λ (ks : List Token). Spells n ks whole_of) (sym (more_front js now chain k e)) (make js now h q)

whole_spelled : (n : ℕ) (b : Begun) (chain now : List Token) (s : Sent) → BegunBy n b chain → SpellsPart n now s → Spells n (chain ++ now) (whole b s)
whole_spelled n Nothing chain now s e q = subst (λ (ks : List Token). Spells n (ks ++ now) s) (sym e) (one_part n now s q)
whole_spelled n (Conjunction ps) chain now s (js, (r, e)) q = subst (λ (ks : List Token). Spells n ks (conjoined ps s)) (sym (more_front js now chain AndSign e)) (conjoined_spelled n js ps r now s q)
whole_spelled n (Disjunction ps) chain now s (js, (r, e)) q = subst (λ (ks : List Token). Spells n ks (disjoined ps s)) (sym (more_front js now chain OrSign e)) (disjoined_spelled n js ps r now s q)
whole_spelled n (Conditional p) chain now s d q = whole_left n IfSign p s (If p s) chain now (λ ls js h g. conditional n ls js p s h g) d q
whole_spelled n (Biconditional p) chain now s d q = whole_left n IffSign p s (Iff p s) chain now (λ ls js h g. biconditional n ls js p s h g) d q

chain_grows : (n : ℕ) (k : Token) (ps : List Sent) (chain now : List Token) (s : Sent) → Chained k n ps chain → SpellsPart n now s → Chained k n (ps ++ s ∷ []) (chain ++ now ++ k ∷ [])
chain_grows n k ps chain now s (js, (r, e)) q = (chain ++ now, (subst (λ (ks : List Token). SpellsParts k n ks (ps ++ s ∷ [])) (sym (more_front js now chain k e)) (parts_snoc r now s q), refl))

chain_begins : (n : ℕ) (k : Token) (chain now : List Token) (s : Sent) → chain ≡ [] → SpellsPart n now s → Chained k n (s ∷ []) (chain ++ now ++ k ∷ [])
chain_begins n k chain now s e q = (chain ++ now, (subst (λ (ks : List Token). SpellsParts k n (ks ++ now) (s ∷ [])) (sym e) (last_part k n now s q), refl))

left_begins : (n : ℕ) (k : Token) (chain now : List Token) (s : Sent) → chain ≡ [] → SpellsPart n now s → LeftSide k n s (chain ++ now ++ k ∷ [])
left_begins n k chain now s e q = (chain ++ now, (subst (λ (ks : List Token). SpellsPart n (ks ++ now) s) (sym e) q, refl))

abbrev Grows : ℕ → Token → List Token → Result Begun Refusal → Type 0
Grows n k ks (Err refusal) = Unit {0}
Grows n k ks (Ok b) = BegunBy n b ks

begun_grows : (n : ℕ) (b : Begun) (chain now : List Token) (s : Sent) (k : Token) → BegunBy n b chain → SpellsPart n now s → Grows n k (chain ++ now ++ k ∷ []) (begun_by s b k)
begun_grows n Nothing chain now s AndSign e q = chain_begins n AndSign chain now s e q
begun_grows n Nothing chain now s OrSign e q = chain_begins n OrSign chain now s e q
begun_grows n Nothing chain now s IfSign e q = left_begins n IfSign chain now s e q
begun_grows n Nothing chain now s IffSign e q = left_begins n IffSign chain now s e q
begun_grows n (Conjunction ps) chain now s AndSign e q = chain_grows n AndSign ps chain now s e q
begun_grows n (Disjunction ps) chain now s OrSign e q = chain_grows n OrSign ps chain now s e q
begun_grows n (Conditional p) chain now s AndSign e q = tt
begun_grows n (Conditional p) chain now s OrSign e q = tt
begun_grows n (Conditional p) chain now s IfSign e q = tt
begun_grows n (Conditional p) chain now s IffSign e q = tt
begun_grows n (Conditional p) chain now s k e q = tt
begun_grows n (Biconditional p) chain now s AndSign e q = tt
begun_grows n (Biconditional p) chain now s OrSign e q = tt
begun_grows n (Biconditional p) chain now s IfSign e q = tt
begun_grows n (Biconditional p) chain now s IffSign e q = tt
begun_grows n (Biconditional p) chain now s k e q = tt
begun_grows n b chain now s k e q = tt

no_front : (ps : List Prefix) (front : List Token) → ps ≡ [] → Prefixed ps front → front ≡ []
no_front [] front e f = f
no_front (p ∷ ps) front e f = cc

part_all : (ks before chain front now : List Token) → ks ≡ before ++ chain ++ front ++ now → front ≡ [] → ks ≡ before ++ chain ++ now
part_all ks before chain front now e f = e ∙ ap (λ (xs : List Token). before ++ chain ++ xs ++ now) f ∙ ap (λ (xs : List Token). xs ++ now) (append-nil (before ++ chain))

full_room : (r n : ℕ) (ps : List Prefix) → r ≡ n + length ps → ps ≡ [] → n ≡ r
full_room r n [] e f = no_more r n e
full_room r n (p ∷ ps) e f = cc

-- the tokens of a state behind a part: those of the groups around, of what is begun, and of the part
pub record AtPart (top : ℕ) (s : Sent) (h : Group) (o : List Group) (ks : List Token) : Type 0 where
  pub before : List Token
  pub chain : List Token
  pub now : List Token
  pub bare : h.prefixes ≡ []
  pub inside : Inside top h.room o before
  pub begun : BegunBy h.room h.begun chain
  pub spells : SpellsPart h.room now s
  pub all : ks ≡ before ++ chain ++ now

pub at_part : (top : ℕ) (s : Sent) (h : Group) (o : List Group) (ks : List Token) → Built top (state (HasPart s) h o) ks → AtPart top s h o ks
at_part top s h o ks b = record {
  before = b.before;
  chain = b.chain;
  now = b.now;
  bare = b.pending.0;
  inside = b.inside;
  begun = b.begun;
  spells = subst (λ (n : ℕ). SpellsPart n b.now s) (full_room h.room b.left h.prefixes b.room b.pending.0) b.pending.1;
  all = part_all ks b.before b.chain b.front b.now b.all (no_front h.prefixes b.front b.pending.0 b.prefixed);
}

sign_all : (ks before chain now : List Token) (k : Token) → ks ≡ before ++ chain ++ now → ks ++ k ∷ [] ≡ before ++ (chain ++ now ++ k ∷ []) ++ [] ++ []
sign_all ks before chain now k e = ap (λ (xs : List Token). xs ++ k ∷ []) e ∙ simp (append_assoc, append-nil)

bare_room : (r : ℕ) (ps : List Prefix) → ps ≡ [] → r ≡ r + length ps
bare_room r [] e = no_prefix r
bare_room r (p ∷ ps) e = cc

bare_prefixed : (ps : List Prefix) → ps ≡ [] → Prefixed ps []
bare_prefixed [] e = refl
bare_prefixed (p ∷ ps) e = cc

sign_built : (top : ℕ) (s : Sent) (h : Group) (o : List Group) (ks : List Token) (k : Token) (a : AtPart top s h o ks) (next : Result Begun Refusal) → Grows h.room k (a.chain ++ a.now ++ k ∷ []) next → Next top (joined h o next) (ks ++ k ∷ [])
sign_built top s h o ks k a (Err refusal) g = tt
sign_built top s h o ks k a (Ok b) g = record {
  before = a.before;
  chain = a.chain ++ a.now ++ k ∷ [];
  front = [];
  now = [];
  left = h.room;
  room = bare_room h.room h.prefixes a.bare;
  inside = a.inside;
  begun = g;
  prefixed = bare_prefixed h.prefixes a.bare;
  pending = refl;
  all = sign_all ks a.before a.chain a.now k a.all;
}

closes_all : (ks before chain now b c f : List Token) → ks ≡ before ++ chain ++ now → before ≡ b ++ c ++ f ++ Open ∷ [] → ks ++ Close ∷ [] ≡ b ++ c ++ f ++ (Open ∷ (chain ++ now) ++ Close ∷ [])
closes_all ks before chain now b c f e d = ap (λ (xs : List Token). xs ++ Close ∷ []) (e ∙ ap (λ (xs : List Token). xs ++ chain ++ now) d) ∙ simp append_assoc

group_finished : (top : ℕ) (s : Sent) (g : Group) (o : List Group) (n : ℕ) (before chain front now js : List Token)
    → g.room ≡ n + length g.prefixes → Inside top g.room o before → BegunBy g.room g.begun chain → Prefixed g.prefixes front → SpellsPart n now s → js ≡ before ++ chain ++ front ++ now → Built top (finished s g o) js
group_finished top s g o n before chain front now js room inside begun prefixed p e = record {
  before = before;
  chain = chain;
  front = [];
  now = front ++ now;
  left = g.room;
  room = no_prefix g.room;
  inside = inside;
  begun = begun;
  prefixed = refl;
  pending = (refl, wrapped_spelled g.prefixes g.room n front now s room prefixed p);
  all = finished_all js before chain front now e;
}

closed_built : (top : ℕ) (s : Sent) (h g : Group) (o : List Group) (ks : List Token) → AtPart top s h (g ∷ o) ks → Built top (finished (whole h.begun s) g o) (ks ++ Close ∷ [])
closed_built top s h g o ks a =
    let (before, (chain, (front, (room, (inside, (begun, (prefixed, e))))))) = a.inside in
    group_finished top (whole h.begun s) g o (suc h.room) before chain front (Open ∷ (a.chain ++ a.now) ++ Close ∷ []) (ks ++ Close ∷ []) room inside begun prefixed
    (group h.room (a.chain ++ a.now) (whole h.begun s) (whole_spelled h.room h.begun a.chain a.now s a.begun a.spells))
    (closes_all ks a.before a.chain a.now before chain front a.all e)

group_closed : (top : ℕ) (s : Sent) (h : Group) (o : List Group) (ks : List Token) → AtPart top s h o ks → Next top (close_group s h o) (ks ++ Close ∷ [])
group_closed top s h [] ks a = tt
group_closed top s h (g ∷ o) ks a = closed_built top s h g o ks a

part_goes_on : (top : ℕ) (s : Sent) (h : Group) (o : List Group) (ks : List Token) (k : Token) → AtPart top s h o ks → Next top (after_part s h o k) (ks ++ k ∷ [])
part_goes_on top s h o ks Close a = group_closed top s h o ks a
part_goes_on top s h o ks k a = sign_built top s h o ks k a (begun_by s h.begun k) (begun_grows h.room h.begun a.chain a.now s k a.begun a.spells)

arguments_pending : (n : ℕ) (p : Word) (now : List Token) → is_predicate p ≡ true → now ≡ Identifier p ∷ [] → ToTerm n (Argument p []) [] (now ++ Open ∷ [])
arguments_pending n p now i e = record {
  outer = now ++ Open ∷ [];
  inner = [];
  left = n;
  at = (i, ([], (inl (refl, refl), ap (λ (xs : List Token). xs ++ Open ∷ []) e)));
  calls = (refl, refl);
  all = sym (append-nil (now ++ Open ∷ []));
}

arguments_built : (top : ℕ) (p : Word) (h : Group) (o : List Group) (ks : List Token) → Built top (state (HasPredicate p) h o) ks → Built top (state (WantsTerm (Argument p []) []) h o) (ks ++ Open ∷ [])
arguments_built top p h o ks b = goes_on top (HasPredicate p) (WantsTerm (Argument p []) []) h o ks Open b (tt, arguments_pending b.left p b.now b.pending.0 b.pending.1)

predicate_goes_on : (top : ℕ) (p : Word) (h : Group) (o : List Group) (ks : List Token) (k : Token) → Built top (state (HasPredicate p) h o) ks → Next top (after_predicate p h o k) (ks ++ k ∷ [])
predicate_goes_on top p h o ks Open b = arguments_built top p h o ks b
predicate_goes_on top p h o ks k b = part_goes_on top (wrapped h.prefixes (Atom p [])) (group_of h.room [] h.begun) o ks k (at_part top (wrapped h.prefixes (Atom p [])) (group_of h.room [] h.begun) o ks (letter_built top p h o ks b))

-- terms

listing_more : (n : ℕ) (ts : List Term) (ks js : List Token) (t : Term) → Listing n ts ks → SpellsTerm n js t → SpellsTerms n (ks ++ js) (ts ++ t ∷ [])
listing_more n ts ks js t (inl e) i =
    subst (λ (ls : List Token). SpellsTerms n (ls ++ js) (ts ++ t ∷ [])) (sym e.1)
    (subst (λ (us : List Term). SpellsTerms n js (us ++ t ∷ [])) (sym e.0) (last_term n js t i))
listing_more n ts ks js t (inr (ls, (r, e))) i =
    subst (λ (xs : List Token). SpellsTerms n (xs ++ js) (ts ++ t ∷ [])) (sym e)
    (subst (λ (xs : List Token). SpellsTerms n xs (ts ++ t ∷ [])) (sym (append_assoc ls (Comma ∷ []) js)) (terms_snoc r js t i))

-- what is read of a term spells it
read_spells : (m : ℕ) (r : Read) (ks : List Token) → IsRead m r ks → SpellsTerm m ks (read_term r)
read_spells m (Variable x) ks (i, e) = subst (λ (js : List Token). SpellsTerm m js (Var x)) (sym e) (variable m x i)
read_spells m (Symbol k) ks (i, e) = subst (λ (js : List Token). SpellsTerm m js (Name k)) (sym e) (name m k i)
read_spells m (Function t) ks i = i

-- a term has come
term_taken : (n : ℕ) (spot : Spot) (cs : List Call) (w : Word) (r : Read) (now : List Token) → ToTerm n spot cs now → word_of w ≡ Some r → WithTerm n spot cs r (now ++ Identifier w ∷ [])
term_taken n spot cs w r now d i = record { before = now; to = d; term = Identifier w ∷ []; is_read = word_found d.left w r i; all = refl }

taken_built : (top : ℕ) (spot : Spot) (cs : List Call) (w : Word) (h : Group) (o : List Group) (ks : List Token) → Built top (state (WantsTerm spot cs) h o) ks → (r : Read) → word_of w ≡ Some r → Built top (state (HasTerm spot cs r) h o) (ks ++ Identifier w ∷ [])
taken_built top spot cs w h o ks b r i = goes_on top (WantsTerm spot cs) (HasTerm spot cs r) h o ks (Identifier w) b (term_taken b.left spot cs w r b.now b.pending.1 i)

term_goes_on : (top : ℕ) (spot : Spot) (cs : List Call) (h : Group) (o : List Group) (ks : List Token) (k : Token) → Built top (state (WantsTerm spot cs) h o) ks → Next top (take_term spot cs h o k) (ks ++ k ∷ [])
term_goes_on top spot cs h o ks (Identifier w) b = next_word top w (λ r. state (HasTerm spot cs r) h o) (ks ++ Identifier w ∷ []) (taken_built top spot cs w h o ks b) (word_of w) refl
term_goes_on top spot cs h o ks k b = tt

-- functions

calls_room : (n : ℕ) (cs : List Call) (m : ℕ) (ks : List Token) → InCalls n cs m ks → n ≡ m + length cs
calls_room n [] m ks (e, f) = omega (arith, e)
calls_room n (c ∷ cs) m ks (outside, (js, (i, (d, f)))) = omega (arith, calls_room n cs (suc m) outside d)

some_room : (r n l c m : ℕ) → r ≡ n + l → n ≡ m + c → nat_lt (l + c) r ≡ true → m ≡ suc (m - 1)
some_room r n l c m e f t = let h : l + c < r = ltb-true (l + c) r t in omega (arith, e, f, h)

not_first : (spot : Spot) (c : Call) (cs : List Call) → NotFirst spot (c ∷ cs)
not_first Left c cs = tt
not_first (Argument p ts) c cs = tt
not_first (Right a r) c cs = tt

opens_all : (now before term : List Token) (outer inner : List Token) (g : Word) → now ≡ before ++ term → before ≡ outer ++ inner → term ≡ Identifier g ∷ [] → now ++ Open ∷ [] ≡ outer ++ (inner ++ Identifier g ∷ Open ∷ [])
opens_all now before term outer inner g e f d =
    ap (λ (xs : List Token). xs ++ Open ∷ []) (e ∙ ap (λ (xs : List Token). xs ++ term) f ∙ ap (λ (xs : List Token). (outer ++ inner) ++ xs) d) ∙ simp append_assoc

call_pending : (n : ℕ) (spot : Spot) (cs : List Call) (g : Word) (now : List Token) (w : WithTerm n spot cs (Symbol g) now) → w.to.left ≡ suc (w.to.left - 1) → ToTerm n spot (call_of g [] ∷ cs) (now ++ Open ∷ [])
call_pending n spot cs g now w e = record {
  outer = w.to.outer;
  inner = w.to.inner ++ Identifier g ∷ Open ∷ [];
  left = w.to.left - 1;
  at = w.to.at;
  calls = (w.to.inner, ([], (w.is_read.0, (subst (λ (m : ℕ). InCalls n cs m w.to.inner) e w.to.calls, (inl (refl, refl), refl)))));
  all = opens_all now w.before w.term w.to.outer w.to.inner g w.all w.to.all w.is_read.1;
}

call_built : (top : ℕ) (g : Word) (spot : Spot) (cs : List Call) (h : Group) (o : List Group) (ks : List Token) → Built top (state (HasTerm spot cs (Symbol g)) h o) ks → nat_lt (length h.prefixes + length cs) h.room ≡ true → Built top (state (WantsTerm spot (call_of g [] ∷ cs)) h o) (ks ++ Open ∷ [])
call_built top g spot cs h o ks b e = goes_on top (HasTerm spot cs (Symbol g)) (WantsTerm spot (call_of g [] ∷ cs)) h o ks Open b (
  not_first spot (call_of g []) cs,
  call_pending b.left spot cs g b.now b.pending
      (some_room h.room b.left (length h.prefixes) (length cs) b.pending.to.left b.room (calls_room b.left cs b.pending.to.left b.pending.to.inner b.pending.to.calls) e),
)

call_opened : (top : ℕ) (g : Word) (spot : Spot) (cs : List Call) (h : Group) (o : List Group) (ks : List Token) → Built top (state (HasTerm spot cs (Symbol g)) h o) ks → Next top (open_call g spot cs h o) (ks ++ Open ∷ [])
call_opened top g spot cs h o ks b = next_if top (nat_lt (length h.prefixes + length cs) h.room) (state (WantsTerm spot (call_of g [] ∷ cs)) h o) TooDeep (ks ++ Open ∷ []) (call_built top g spot cs h o ks b)

-- an argument of a function is complete

inner_all : (now before term outer inner outside js : List Token) (g : Word) (k : Token) → now ≡ before ++ term → before ≡ outer ++ inner → inner ≡ outside ++ Identifier g ∷ Open ∷ js
    → now ++ k ∷ [] ≡ outer ++ (outside ++ Identifier g ∷ Open ∷ (js ++ term ++ k ∷ []))
inner_all now before term outer inner outside js g k e f d =
    ap (λ (xs : List Token). xs ++ k ∷ []) (e ∙ ap (λ (xs : List Token). xs ++ term) (f ∙ ap (λ (xs : List Token). outer ++ xs) d)) ∙ simp append_assoc

comma_pending : (n : ℕ) (spot : Spot) (c : Call) (cs : List Call) (r : Read) (now : List Token) → WithTerm n spot (c ∷ cs) r now → ToTerm n spot (call_of c.symbol (c.arguments ++ read_term r ∷ []) ∷ cs) (now ++ Comma ∷ [])
comma_pending n spot c cs r now w =
    let (outside, (js, (i, (d, (l, f))))) = w.to.calls in
    record {
      outer = w.to.outer;
      inner = outside ++ Identifier c.symbol ∷ Open ∷ (js ++ w.term ++ Comma ∷ []);
      left = w.to.left;
      at = w.to.at;
      calls = (outside, (js ++ w.term ++ Comma ∷ [], (i, (d, (inr (js ++ w.term, (listing_more w.to.left c.arguments js w.term (read_term r) l (read_spells w.to.left r w.term w.is_read), refl)), refl)))));
      all = inner_all now w.before w.term w.to.outer w.to.inner outside js c.symbol Comma w.all w.to.all f;
    }

function_all : (now before term outer inner outside js : List Token) (g : Word) (k : Token) → now ≡ before ++ term → before ≡ outer ++ inner → inner ≡ outside ++ Identifier g ∷ Open ∷ js
    → now ++ k ∷ [] ≡ (outer ++ outside) ++ (Identifier g ∷ Open ∷ (js ++ term) ++ k ∷ [])
function_all now before term outer inner outside js g k e f d =
    ap (λ (xs : List Token). xs ++ k ∷ []) (e ∙ ap (λ (xs : List Token). xs ++ term) (f ∙ ap (λ (xs : List Token). outer ++ xs) d)) ∙ simp append_assoc

close_pending : (n : ℕ) (spot : Spot) (c : Call) (cs : List Call) (r : Read) (now : List Token) → WithTerm n spot (c ∷ cs) r now → WithTerm n spot cs (Function (App c.symbol (c.arguments ++ read_term r ∷ []))) (now ++ Close ∷ [])
close_pending n spot c cs r now w =
    let (outside, (js, (i, (d, (l, f))))) = w.to.calls in
    record {
      before = w.to.outer ++ outside;
      to = record { outer = w.to.outer; inner = outside; left = suc w.to.left; at = w.to.at; calls = d; all = refl };
      term = Identifier c.symbol ∷ Open ∷ (js ++ w.term) ++ Close ∷ [];
      is_read = function w.to.left c.symbol (js ++ w.term) (c.arguments ++ read_term r ∷ []) i (listing_more w.to.left c.arguments js w.term (read_term r) l (read_spells w.to.left r w.term w.is_read));
      all = function_all now w.before w.term w.to.outer w.to.inner outside js c.symbol Close w.all w.to.all f;
    }

call_goes_on : (top : ℕ) (spot : Spot) (c : Call) (cs : List Call) (r : Read) (h : Group) (o : List Group) (ks : List Token) (k : Token) → Built top (state (HasTerm spot (c ∷ cs) r) h o) ks → Next top (in_call spot c.symbol c.arguments cs (read_term r) h o k) (ks ++ k ∷ [])
call_goes_on top spot c cs r h o ks Comma b = goes_on top (HasTerm spot (c ∷ cs) r) (WantsTerm spot (call_of c.symbol (c.arguments ++ read_term r ∷ []) ∷ cs)) h o ks Comma b
    (not_first spot (call_of c.symbol (c.arguments ++ read_term r ∷ [])) cs, comma_pending b.left spot c cs r b.now b.pending)
call_goes_on top spot c cs r h o ks Close b = goes_on top (HasTerm spot (c ∷ cs) r) (HasTerm spot cs (Function (App c.symbol (c.arguments ++ read_term r ∷ [])))) h o ks Close b (close_pending b.left spot c cs r b.now b.pending)
call_goes_on top spot c cs r h o ks k b = tt

-- a term in no function is complete

pub record AtTerm (n : ℕ) (spot : Spot) (t : Term) (ks : List Token) : Type 0 where
  pub outer : List Token
  pub term : List Token
  pub at : AtSpot n spot outer
  pub spells : SpellsTerm n term t
  pub all : ks ≡ outer ++ term

at_term : (n : ℕ) (spot : Spot) (r : Read) (ks : List Token) → WithTerm n spot [] r ks → AtTerm n spot (read_term r) ks
at_term n spot r ks w = record {
  outer = w.to.outer;
  term = w.term;
  at = w.to.at;
  spells = subst (λ (m : ℕ). SpellsTerm m w.term (read_term r)) w.to.calls.0 (read_spells w.to.left r w.term w.is_read);
  all = w.all ∙ ap (λ (xs : List Token). xs ++ w.term) (w.to.all ∙ ap (λ (xs : List Token). w.to.outer ++ xs) w.to.calls.1 ∙ append-nil w.to.outer);
}

argument_all : (ks outer term js : List Token) (p : Word) (k : Token) → ks ≡ outer ++ term → outer ≡ Identifier p ∷ Open ∷ js → ks ++ k ∷ [] ≡ Identifier p ∷ Open ∷ (js ++ term ++ k ∷ [])
argument_all ks outer term js p k e f = ap (λ (xs : List Token). xs ++ k ∷ []) (e ∙ ap (λ (xs : List Token). xs ++ term) f)

more_pending : (n : ℕ) (p : Word) (ts : List Term) (t : Term) (ks : List Token) → AtTerm n (Argument p ts) t ks → ToTerm n (Argument p (ts ++ t ∷ [])) [] (ks ++ Comma ∷ [])
more_pending n p ts t ks a =
    let (q, (js, (l, f))) = a.at in
    record {
      outer = ks ++ Comma ∷ [];
      inner = [];
      left = n;
      at = (q, (js ++ a.term ++ Comma ∷ [], (inr (js ++ a.term, (listing_more n ts js a.term t l a.spells, refl)), argument_all ks a.outer a.term js p Comma a.all f)));
      calls = (refl, refl);
      all = sym (append-nil (ks ++ Comma ∷ []));
    }

atom_spelled : (n : ℕ) (p : Word) (ts : List Term) (t : Term) (ks : List Token) → AtTerm n (Argument p ts) t ks → SpellsPart n (ks ++ Close ∷ []) (Atom p (ts ++ t ∷ []))
atom_spelled n p ts t ks a =
    let (q, (js, (l, f))) = a.at in
    subst (λ (xs : List Token). SpellsPart n xs (Atom p (ts ++ t ∷ []))) (sym (argument_all ks a.outer a.term js p Close a.all f))
    (atom n p (js ++ a.term) (ts ++ t ∷ []) q (listing_more n ts js a.term t l a.spells))

argument_goes_on : (top : ℕ) (p : Word) (ts : List Term) (r : Read) (h : Group) (o : List Group) (ks : List Token) (k : Token) → Built top (state (HasTerm (Argument p ts) [] r) h o) ks → Next top (after_argument p (ts ++ read_term r ∷ []) h o k) (ks ++ k ∷ [])
argument_goes_on top p ts r h o ks Comma b = goes_on top (HasTerm (Argument p ts) [] r) (WantsTerm (Argument p (ts ++ read_term r ∷ [])) []) h o ks Comma b (tt, more_pending b.left p ts (read_term r) b.now (at_term b.left (Argument p ts) r b.now b.pending))
argument_goes_on top p ts r h o ks Close b = completes top (HasTerm (Argument p ts) [] r) h o ks Close (Atom p (ts ++ read_term r ∷ [])) b (atom_spelled b.left p ts (read_term r) b.now (at_term b.left (Argument p ts) r b.now b.pending))
argument_goes_on top p ts r h o ks k b = tt

-- equations

relation_pending : (n : ℕ) (a : Term) (r : Relation) (ks : List Token) → AtTerm n Left a ks → ToTerm n (Right a r) [] (ks ++ relation_sign r ∷ [])
relation_pending n a r ks d = record {
  outer = ks ++ relation_sign r ∷ [];
  inner = [];
  left = n;
  at = (d.term, (d.spells, ap (λ (xs : List Token). xs ++ relation_sign r ∷ []) (d.all ∙ ap (λ (xs : List Token). xs ++ d.term) d.at)));
  calls = (refl, refl);
  all = sym (append-nil (ks ++ relation_sign r ∷ []));
}

relation_built : (top : ℕ) (q : Read) (r : Relation) (h : Group) (o : List Group) (ks : List Token) → Built top (state (HasTerm Left [] q) h o) ks → Built top (state (WantsTerm (Right (read_term q) r) []) h o) (ks ++ relation_sign r ∷ [])
relation_built top q r h o ks b = goes_on top (HasTerm Left [] q) (WantsTerm (Right (read_term q) r) []) h o ks (relation_sign r) b (tt, relation_pending b.left (read_term q) r b.now (at_term b.left Left q b.now b.pending))

left_goes_on : (top : ℕ) (q : Read) (h : Group) (o : List Group) (ks : List Token) (k : Token) → Built top (state (HasTerm Left [] q) h o) ks → Next top (after_left (read_term q) h o k) (ks ++ k ∷ [])
left_goes_on top q h o ks Equals b = relation_built top q Same h o ks b
left_goes_on top q h o ks Unequal b = relation_built top q Different h o ks b
left_goes_on top q h o ks k b = tt

related_spelled : (n : ℕ) (r : Relation) (ks js : List Token) (a b : Term) → SpellsTerm n ks a → SpellsTerm n js b → SpellsPart n (ks ++ relation_sign r ∷ js) (related a r b)
related_spelled n Same ks js a b x y = equation n ks js a b x y
related_spelled n Different ks js a b x y = inequation n ks js a b x y

right_spelled : (n : ℕ) (a : Term) (r : Relation) (t : Term) (ks : List Token) → AtTerm n (Right a r) t ks → SpellsPart n ks (related a r t)
right_spelled n a r t ks d =
    let (js, (i, f)) = d.at in
    subst (λ (xs : List Token). SpellsPart n xs (related a r t)) (sym (d.all ∙ more_front js d.term d.outer (relation_sign r) f)) (related_spelled n r js d.term a t i d.spells)

pub right_built : (top : ℕ) (a : Term) (r : Relation) (q : Read) (h : Group) (o : List Group) (ks : List Token) → Built top (state (HasTerm (Right a r) [] q) h o) ks → Built top (finished (related a r (read_term q)) h o) ks
right_built top a r q h o ks b = finished_built top (HasTerm (Right a r) [] q) h o ks b.now (related a r (read_term q)) b ks b.all (right_spelled b.left a r (read_term q) b.now (at_term b.left (Right a r) q b.now b.pending))

pub at_right : (top : ℕ) (a : Term) (r : Relation) (q : Read) (h : Group) (o : List Group) (ks : List Token) → Built top (state (HasTerm (Right a r) [] q) h o) ks → AtPart top (wrapped h.prefixes (related a r (read_term q))) (group_of h.room [] h.begun) o ks
at_right top a r q h o ks b = at_part top (wrapped h.prefixes (related a r (read_term q))) (group_of h.room [] h.begun) o ks (right_built top a r q h o ks b)

right_goes_on : (top : ℕ) (a : Term) (r : Relation) (q : Read) (h : Group) (o : List Group) (ks : List Token) (k : Token) → Built top (state (HasTerm (Right a r) [] q) h o) ks → Next top (after_right (related a r (read_term q)) h o k) (ks ++ k ∷ [])
right_goes_on top a r q h o ks k b = part_goes_on top (wrapped h.prefixes (related a r (read_term q))) (group_of h.room [] h.begun) o ks k (at_right top a r q h o ks b)

behind_goes_on : (top : ℕ) (spot : Spot) (cs : List Call) (r : Read) (h : Group) (o : List Group) (ks : List Token) (k : Token) → Built top (state (HasTerm spot cs r) h o) ks → Next top (behind_term spot cs (read_term r) h o k) (ks ++ k ∷ [])
behind_goes_on top (Argument p ts) [] r h o ks k b = argument_goes_on top p ts r h o ks k b
behind_goes_on top Left [] r h o ks k b = left_goes_on top r h o ks k b
behind_goes_on top (Right a q) [] r h o ks k b = right_goes_on top a q r h o ks k b
behind_goes_on top spot (c ∷ cs) r h o ks k b = call_goes_on top spot c cs r h o ks k b

has_goes_on : (top : ℕ) (spot : Spot) (cs : List Call) (r : Read) (h : Group) (o : List Group) (ks : List Token) (k : Token) → Built top (state (HasTerm spot cs r) h o) ks → Next top (after_term spot cs r h o k) (ks ++ k ∷ [])
has_goes_on top spot cs (Symbol g) h o ks Open b = call_opened top g spot cs h o ks b
has_goes_on top spot cs (Symbol g) h o ks k b = behind_goes_on top spot cs (Symbol g) h o ks k b
has_goes_on top spot cs (Variable x) h o ks k b = behind_goes_on top spot cs (Variable x) h o ks k b
has_goes_on top spot cs (Function t) h o ks k b = behind_goes_on top spot cs (Function t) h o ks k b

step_keeps : (top : ℕ) (m : Mode) (h : Group) (o : List Group) (ks : List Token) (k : Token) → Built top (state m h o) ks → Next top (step_in m h o k) (ks ++ k ∷ [])
step_keeps top WantsPart h o ks k b = begins top h o ks k b
step_keeps top (WantsVariable q) h o ks k b = variable_goes_on top q h o ks k b
step_keeps top (HasPredicate p) h o ks k b = predicate_goes_on top p h o ks k b
step_keeps top (WantsTerm spot cs) h o ks k b = term_goes_on top spot cs h o ks k b
step_keeps top (HasTerm spot cs r) h o ks k b = has_goes_on top spot cs r h o ks k b
step_keeps top (HasPart s) h o ks k b = part_goes_on top s h o ks k (at_part top s h o ks b)

-- a token that is taken keeps what the state stands for
pub step_built : (top : ℕ) (st next : State) (ks : List Token) (k : Token) → Built top st ks → step st k ≡ Ok next → Built top next (ks ++ k ∷ [])
step_built top st next ks k b e = subst (λ (o : Result State Refusal). Next top o (ks ++ k ∷ [])) e (step_keeps top st.mode st.here st.outer ks k b)

abbrev ReadAs : ℕ → Result Sent Refusal → List Token → Type 0
ReadAs top (Err refusal) ks = Unit {0}
ReadAs top (Ok s) ks = Spells top ks s

last_spelled : (top : ℕ) (s : Sent) (h : Group) (ks : List Token) → AtPart top s h [] ks → Spells top ks (whole h.begun s)
last_spelled top s h ks a =
    let e : ks ≡ a.chain ++ a.now = a.all ∙ ap (λ (xs : List Token). xs ++ a.chain ++ a.now) a.inside.1 in
    subst (λ (xs : List Token). Spells top xs (whole h.begun s)) (sym e)
    (subst (λ (n : ℕ). Spells n (a.chain ++ a.now) (whole h.begun s)) a.inside.0 (whole_spelled h.room h.begun a.chain a.now s a.begun a.spells))

end_keeps : (top : ℕ) (m : Mode) (h : Group) (o : List Group) (ks : List Token) → Built top (state m h o) ks → ReadAs top (ended_in m h o) ks
end_keeps top (HasPart s) h [] ks b = last_spelled top s h ks (at_part top s h [] ks b)
end_keeps top (HasPredicate p) h [] ks b = last_spelled top (wrapped h.prefixes (Atom p [])) (group_of h.room [] h.begun) ks (at_part top (wrapped h.prefixes (Atom p [])) (group_of h.room [] h.begun) [] ks (letter_built top p h [] ks b))
end_keeps top (HasTerm (Right a r) [] q) h [] ks b = last_spelled top (wrapped h.prefixes (related a r (read_term q))) (group_of h.room [] h.begun) ks (at_right top a r q h [] ks b)
end_keeps top (HasTerm (Right a r) (c ∷ cs) q) h [] ks b = tt
end_keeps top (HasTerm (Argument p ts) cs q) h [] ks b = tt
end_keeps top (HasTerm Left cs q) h [] ks b = tt
end_keeps top m h o ks b = tt

-- where a sentence is whole, the tokens spell it
pub ended_spells : (top : ℕ) (st : State) (s : Sent) (ks : List Token) → Built top st ks → ended st ≡ Ok s → Spells top ks s
ended_spells top st s ks b e = subst (λ (o : Result Sent Refusal). ReadAs top o ks) e (end_keeps top st.mode st.here st.outer ks b)
