-- Where no variable has a term, a sentence stays as it is.
use Rattle.std.proofs.Common.{◌≡◌, List, [], ◌∷◌, map, refl, ap, ap₂, ◌∙◌, subst, Bool, true, false}
use Rattle.std.specs.Prelude.{cond, None}
use Rattle.std.specs.Str.{bytes_eq}
use Rattle.fol_core.specs.declared.sent.Term.{Term, roll-Term}
use Rattle.fol_core.specs.declared.sent.Term.TheVariants.{App}
use Rattle.fol_core.specs.declared.sent.Term.TheOpen.{Term-F}
use Rattle.fol_core.specs.declared.sent.Term.TheOpen as t
use Rattle.fol_core.specs.declared.sent.Term.TheFolds.{ind-Term, fold-roll-Term, map-Term}
use Rattle.fol_core.specs.declared.sent.Sent.{Sent, roll-Sent}
use Rattle.fol_core.specs.declared.sent.Sent.TheOpen.{Sent-F}
use Rattle.fol_core.specs.declared.sent.Sent.TheOpen as f
use Rattle.fol_core.specs.declared.sent.Sent.TheVariants as s
use Rattle.fol_core.specs.declared.sent.Sent.TheFolds.{ind-Sent, fold-roll-Sent, map-Sent}
use Rattle.fol_core.specs.Word.{Word}
use Rattle.fol_core.proofs.TermEquality.{rolls_var, rolls_name, rolls_app}
use denote.Hole.Carrier.{roll}
use Rattle.rules_quant.specs.Naming.{Entry, term_for, or_itself, put_term_step, put_term, hiding, put_step, put}

abbrev NoNames : List Entry → Type 0
NoNames es = (y : Word) → term_for es y ≡ None

abbrev Stays : Sent → Type 0
Stays p = (es : List Entry) → NoNames es → put p es ≡ p

abbrev Held : Type 0
Held = (p : Sent) × Stays p

abbrev bare : Sent-F Held → Sent-F Sent
bare = map-Sent Held Sent (λ e. e.0)

-- one term
abbrev StaysTerm : List Entry → Term → Type 0
StaysTerm es u = put_term es u ≡ u

abbrev HeldTerm : List Entry → Type 0
HeldTerm es = (u : Term) × StaysTerm es u

abbrev bare_term : (es : List Entry) → Term-F (HeldTerm es) → Term-F Term
bare_term es = map-Term (HeldTerm es) Term (λ e. e.0)

args_stay : (es : List Entry) (hs : List (HeldTerm es)) → map (put_term es) (map (λ (e : HeldTerm es). e.0) hs) ≡ map (λ (e : HeldTerm es). e.0) hs
args_stay es [] = refl
args_stay es (h ∷ hs) = ap₂ ◌∷◌ h.1 (args_stay es hs)

term_step : (es : List Entry) → NoNames es → (y : Term-F (HeldTerm es)) → put_term_step es (map-Term Term Term (put_term es) (bare_term es y)) ≡ roll-Term (bare_term es y)
term_step es n (t.Name m) = rolls_name m
term_step es n (t.Var y) = ap (λ o. or_itself o y) (n y) ∙ rolls_var y
term_step es n (t.App g hs) = ap (App g) (args_stay es hs) ∙ rolls_app g _

term_stays : (es : List Entry) → NoNames es → (u : Term) → put_term es u ≡ u
term_stays es n = ind-Term (StaysTerm es) (λ l y is.
    subst (λ (w : Term-F Term). StaysTerm es (roll-Term w)) is (fold-roll-Term Term (put_term_step es) (bare_term es y) ∙ term_step es n y))

terms_stay : (es : List Entry) → NoNames es → (ts : List Term) → map (put_term es) ts ≡ ts
terms_stay es n [] = refl
terms_stay es n (t ∷ ts) = ap₂ ◌∷◌ (term_stays es n t) (terms_stay es n ts)

parts_stay : (es : List Entry) → NoNames es → (hs : List Held) → map (λ (h : List Entry → Sent). h es) (map put (map (λ (e : Held). e.0) hs)) ≡ map (λ (e : Held). e.0) hs
parts_stay es n [] = refl
parts_stay es n (h ∷ hs) = ap₂ ◌∷◌ (h.1 es n) (parts_stay es n hs)

none_under : (z : Word) (es : List Entry) → NoNames es → NoNames (hiding z es)
none_under z es n y = go (bytes_eq z y)
  where
    go : (b : Bool) → cond b None (term_for es y) ≡ None
    go true = refl
    go false = n y

step_stays : (y : Sent-F Held) (es : List Entry) → NoNames es → put_step (map-Sent Sent (List Entry → Sent) put (bare y)) es ≡ roll-Sent (bare y)
unfolding roll-Sent roll
step_stays (f.Atom p ts) es n = ap (s.Atom p) (terms_stay es n ts)
step_stays (f.Eq a b) es n = ap₂ s.Eq (term_stays es n a) (term_stays es n b)
step_stays f.Bottom es n = refl
step_stays (f.Not h) es n = ap s.Not (h.1 es n)
step_stays (f.And hs) es n = ap s.And (parts_stay es n hs)
step_stays (f.Or hs) es n = ap s.Or (parts_stay es n hs)
step_stays (f.If g h) es n = ap₂ s.If (g.1 es n) (h.1 es n)
step_stays (f.Iff g h) es n = ap₂ s.Iff (g.1 es n) (h.1 es n)
step_stays (f.All z h) es n = ap (s.All z) (h.1 (hiding z es) (none_under z es n))
step_stays (f.Ex z h) es n = ap (s.Ex z) (h.1 (hiding z es) (none_under z es n))

stays : (p : Sent) → Stays p
stays = ind-Sent Stays (λ l y is.
    subst (λ (m : Sent-F Sent). Stays (roll-Sent m)) is (λ es n.
    ap (λ (g : List Entry → Sent). g es) (fold-roll-Sent (List Entry → Sent) put_step (bare y)) ∙ step_stays y es n))

pub put_nothing : (p : Sent) → put p [] ≡ p
put_nothing p = stays p [] (λ y. refl)
