-- A statement is closed.
use Rattle.std.proofs.Common.{◌≡◌, List, [], ◌∷◌, map, refl, ap, ap₂, sym, ◌∙◌, subst, Bool, true, IsTrue}
use Rattle.std.proofs.lemmas.Bool.{and_parts}
use Rattle.std.specs.Prelude.{◌&&◌, nat_le, length}
use Rattle.std.specs.List.{list_all}
use Rattle.fol_core.specs.declared.sent.Term.{Term, roll-Term}
use Rattle.fol_core.specs.declared.sent.Term.TheOpen.{Term-F}
use Rattle.fol_core.specs.declared.sent.Term.TheOpen as t
use Rattle.fol_core.specs.declared.sent.Term.TheFolds.{ind-Term, fold-roll-Term, map-Term}
use Rattle.fol_core.specs.declared.sent.Sent.{Sent, roll-Sent}
use Rattle.fol_core.specs.declared.sent.Sent.TheOpen.{Sent-F}
use Rattle.fol_core.specs.declared.sent.Sent.TheOpen as f
use Rattle.fol_core.specs.declared.sent.Sent.TheFolds.{ind-Sent, fold-roll-Sent, map-Sent}
use Rattle.fol_core.specs.Word.{Word, is_ident}
use Rattle.fol_core.specs.Subst.{itself}
use Rattle.fol_core.specs.Closed.{is_among, is_bound, bound_step, closed_under, closed_step, closed}
use Rattle.fol_core.specs.Statements.{grounded, grounded_step, stated_under, stated_step, statement}

-- terms

abbrev IsBoundToo : List Word → Term → Type 0
IsBoundToo B u = grounded B u ≡ true → is_bound B u ≡ true

abbrev Bound : List Word → Type 0
Bound B = (u : Term) × IsBoundToo B u

abbrev bare_term : (B : List Word) → Term-F (Bound B) → Term-F Term
bare_term B = map-Term (Bound B) Term (λ e. e.0)

args_bound : (B : List Word) (es : List (Bound B)) → list_all itself (map (grounded B) (map (λ (e : Bound B). e.0) es)) ≡ true → list_all itself (map (is_bound B) (map (λ (e : Bound B). e.0) es)) ≡ true
args_bound B [] h = refl
args_bound B (e ∷ es) h = let w = and_parts (grounded B e.0) (list_all itself (map (grounded B) (map (λ (d : Bound B). d.0) es))) h in ap₂ ◌&&◌ (e.1 w.0) (args_bound B es w.1)

term_step : (B : List Word) (y : Term-F (Bound B)) → grounded_step B (map-Term Term Bool (grounded B) (bare_term B y)) ≡ true → bound_step B (map-Term Term Bool (is_bound B) (bare_term B y)) ≡ true
term_step B (t.Var x) h = (and_parts (is_ident x) (is_among x B) h).1
term_step B (t.Name n) h = refl
term_step B (t.App g es) h = args_bound B es ((and_parts (nat_le 1 (length (map (grounded B) (map (λ (e : Bound B). e.0) es)))) _ ((and_parts (is_ident g) _ h).1)).1)

term_bound : (B : List Word) (u : Term) → IsBoundToo B u
term_bound B = ind-Term (IsBoundToo B) (λ l y is.
    subst (λ (w : Term-F Term). IsBoundToo B (roll-Term w)) is (λ h.
    fold-roll-Term Bool (bound_step B) (bare_term B y) ∙ term_step B y (sym (fold-roll-Term Bool (grounded_step B) (bare_term B y)) ∙ h)))

terms_bound : (B : List Word) (ts : List Term) → list_all (grounded B) ts ≡ true → list_all (is_bound B) ts ≡ true
terms_bound B [] h = refl
terms_bound B (u ∷ ts) h = let w = and_parts (grounded B u) (list_all (grounded B) ts) h in ap₂ ◌&&◌ (term_bound B u w.0) (terms_bound B ts w.1)

-- sentences

abbrev IsClosedToo : Sent → Type 0
IsClosedToo p = (B : List Word) → stated_under p B ≡ true → closed_under p B ≡ true

abbrev Held : Type 0
Held = (p : Sent) × IsClosedToo p

abbrev bare : Sent-F Held → Sent-F Sent
bare = map-Sent Held Sent (λ e. e.0)

parts_closed : (es : List Held) (B : List Word) → list_all (λ (g : List Word → Bool). g B) (map stated_under (map (λ (e : Held). e.0) es)) ≡ true →
    list_all (λ (g : List Word → Bool). g B) (map closed_under (map (λ (e : Held). e.0) es)) ≡ true
parts_closed [] B h = refl
parts_closed (e ∷ es) B h = let w = and_parts (stated_under e.0 B) _ h in ap₂ ◌&&◌ (e.1 B w.0) (parts_closed es B w.1)

chain_closed : (es : List Held) (B : List Word) →
    (nat_le 2 (length (map stated_under (map (λ (e : Held). e.0) es))) && list_all (λ (g : List Word → Bool). g B) (map stated_under (map (λ (e : Held). e.0) es))) ≡ true →
    list_all (λ (g : List Word → Bool). g B) (map closed_under (map (λ (e : Held). e.0) es)) ≡ true
chain_closed es B h = parts_closed es B ((and_parts (nat_le 2 (length (map stated_under (map (λ (e : Held). e.0) es)))) _ h).1)

two_closed : (d e : Held) (B : List Word) → (stated_under d.0 B && stated_under e.0 B) ≡ true → (closed_under d.0 B && closed_under e.0 B) ≡ true
two_closed d e B h = let w = and_parts (stated_under d.0 B) (stated_under e.0 B) h in ap₂ ◌&&◌ (d.1 B w.0) (e.1 B w.1)

step_closed : (y : Sent-F Held) (B : List Word) → stated_step (map-Sent Sent (List Word → Bool) stated_under (bare y)) B ≡ true → closed_step (map-Sent Sent (List Word → Bool) closed_under (bare y)) B ≡ true
step_closed (f.Atom p ts) B h = terms_bound B ts ((and_parts (is_ident p) (list_all (grounded B) ts) h).1)
step_closed (f.Eq a b) B h = let w = and_parts (grounded B a) (grounded B b) h in ap₂ ◌&&◌ (term_bound B a w.0) (term_bound B b w.1)
step_closed f.Bottom B h = refl
step_closed (f.Not e) B h = e.1 B h
step_closed (f.And es) B h = chain_closed es B h
step_closed (f.Or es) B h = chain_closed es B h
step_closed (f.If d e) B h = two_closed d e B h
step_closed (f.Iff d e) B h = two_closed d e B h
step_closed (f.All x e) B h = e.1 (x ∷ B) ((and_parts (is_ident x) (stated_under e.0 (x ∷ B)) h).1)
step_closed (f.Ex x e) B h = e.1 (x ∷ B) ((and_parts (is_ident x) (stated_under e.0 (x ∷ B)) h).1)

stated_closed : (p : Sent) → IsClosedToo p
stated_closed = ind-Sent IsClosedToo (λ l y is.
    subst (λ (m : Sent-F Sent). IsClosedToo (roll-Sent m)) is (λ B h.
    ap (λ (g : List Word → Bool). g B) (fold-roll-Sent (List Word → Bool) closed_step (bare y))
    ∙ step_closed y B (sym (ap (λ (g : List Word → Bool). g B) (fold-roll-Sent (List Word → Bool) stated_step (bare y))) ∙ h)))

pub statement_closed : (p : Sent) → IsTrue (statement p) → IsTrue (closed p)
statement_closed p h = stated_closed p [] h
