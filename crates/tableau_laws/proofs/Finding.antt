-- The first that passes a test.
use Rattle.std.proofs.Common.{◌≡◌, List, [], ◌∷◌, refl, ap, sym, subst, Bool, true, false, inl, inr, true≢false, Option, Some, None}
use Rattle.std.specs.Prelude.{if◌then◌else◌}
use Rattle.std.specs.List.{find}
use Rattle.tableau_laws.proofs.Lists.{Elem}

is_some : {X : Type 0} → Option X → Bool
is_some None = false
is_some (Some x) = true

abbrev value_or : {X : Type 0} → X → Option X → X
value_or d None = d
value_or d (Some x) = x

found_at : {X : Type 0} (test : X → Bool) (y x : X) (rest : Option X) → (rest ≡ Some x → test x ≡ true) → (b : Bool) → test y ≡ b → (if b then Some y else rest) ≡ Some x → test x ≡ true
found_at test y x rest f true e h = subst (λ z. test z ≡ true) (ap (value_or x) h) e
found_at test y x rest f false e h = f h

pub found : {X : Type 0} (test : X → Bool) (xs : List X) (x : X) → find test xs ≡ Some x → test x ≡ true
unfolding is_some
found test [] x h = absurd (true≢false (sym (ap is_some h)))
found test (y ∷ ys) x h = found_at test y x (find test ys) (found test ys x) (test y) refl h

member_at : {X : Type 0} (y x : X) (ys : List X) (rest : Option X) → (rest ≡ Some x → Elem ys x) → (b : Bool) → (if b then Some y else rest) ≡ Some x → Elem (y ∷ ys) x
member_at y x ys rest f true h = inl (ap (value_or x) h)
member_at y x ys rest f false h = inr (f h)

pub found_in : {X : Type 0} (test : X → Bool) (xs : List X) (x : X) → find test xs ≡ Some x → Elem xs x
unfolding is_some
found_in test [] x h = absurd (true≢false (sym (ap is_some h)))
found_in test (y ∷ ys) x h = member_at y x ys (find test ys) (found_in test ys x) (test y) h
