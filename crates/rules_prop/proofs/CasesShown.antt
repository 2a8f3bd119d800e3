-- The cited subproofs that end in a sentence, one after the other, and the cases that they show.
use Rattle.std.proofs.Common.{◌≡◌, ◌≢◌, ℕ, zero, suc, ◌+◌, ◌-◌, ◌<◌, ◌≤◌, Bool, true, false, List, [], ◌∷◌, length, refl, ap, sym, subst, ◌∙◌, cond, arith, Option, Some, None, Contains, IsTrue, ◌↔◌, ◌⊎◌, inl, inr}
use Rattle.std.specs.Prelude.{slice_get, ◌||◌}
use Rattle.std.specs.List.{AllByRecursion}
use Rattle.std.proofs.lemmas.Option.{slice_get_within}
use Rattle.fol_core.specs.declared.sent.Sent.{Sent}
use Rattle.deriv_laws.specs.declared.line.Cite.{Cite}
use Rattle.deriv_laws.specs.declared.line.FlatLine.{FlatLine}
use Rattle.deriv_laws.proofs.Members.{contains_here, contains_there, contains_cases}
use Rattle.deriv_laws.proofs.Lists.{all_turn}
use Rattle.nested_proofs.specs.Scope.{Subproof, prepend}
use Rattle.nested_proofs.specs.Rules.{Goes}
use Rattle.nested_proofs.specs.ReadOff.{stated_by, stated_at, begun_by, subproof_between, concluded_by, subproofs_read}
use Rattle.bit_sets.specs.BitSets.{has}
use Rattle.rules_prop.specs.Shown.{SomeGoes}
use Rattle.rules_prop.specs.inside.Ending.{EndsIn, AreEnding, SomeBegins}

-- The first places, so many, are those of subproofs that end in s, and no other place is in the set.
pub record EndingSoFar (ls : List FlatLine) (cs : List Cite) (s : Sent) (n bits : ℕ) : Type 0 where
  pub found : (k : ℕ) (c : Cite) → k < n → slice_get cs k ≡ Some c → IsTrue (has bits k) ↔ EndsIn ls s c
  pub none_yet : (k : ℕ) → n ≤ k → k < 64 → has bits k ≡ false

-- a subproof that is read begins and ends as its lines do
begins_ends : (ls : List FlatLine) (c : Cite) (b : Subproof) → subproof_between ls c.first c.last ≡ Some b → (b.hypothesis ≡ stated_at ls c.first) × (Some b ≡ subproof_between ls c.first c.last)
begins_ends ls c b e = (begun (slice_get ls (c.first - 1)) e, sym e)
  where
    begun : (o : Option FlatLine) → begun_by ls c.first c.last o ≡ Some b → b.hypothesis ≡ stated_by o
    begun None f = cc
    begun (Some l) f = cc

ends_as : (o : Option Subproof) (b : Subproof) (s : Sent) → o ≡ Some b → concluded_by o ≡ Some s → b.conclusion ≡ Some s
ends_as o b s e f = subst (λ x. concluded_by x ≡ Some s) e f

-- the subproof of a cite that begins with p and ends in s
there : (ls : List FlatLine) (c : Cite) (p s : Sent) → stated_at ls c.first ≡ Some p → concluded_by (subproof_between ls c.first c.last) ≡ Some s → (b : Subproof) × (subproof_between ls c.first c.last ≡ Some b) × Goes b p s
there ls c p s e f = go (subproof_between ls c.first c.last) refl f
  where
    go : (o : Option Subproof) → subproof_between ls c.first c.last ≡ o → concluded_by o ≡ Some s → (b : Subproof) × (o ≡ Some b) × Goes b p s
    go None g h = cc
    go (Some b) g h = (b, refl, record { from = (begins_ends ls c b g).0 ∙ e; to = h })

-- a cited subproof is among those that are read
among : (ls : List FlatLine) (cs : List Cite) (k : ℕ) (c : Cite) (b : Subproof) → slice_get cs k ≡ Some c → c.sub ≡ true → subproof_between ls c.first c.last ≡ Some b → Contains (subproofs_read ls cs) b
among ls [] k c b e t f = cc
among ls (x ∷ cs) k c b e t f = go k e (λ i g. among ls cs i c b g t f)
  where
    later : (y : Bool) (o : Option Subproof) → Contains (subproofs_read ls cs) b → Contains (cond y (prepend o (subproofs_read ls cs)) (subproofs_read ls cs)) b
    later true None h = h
    later true (Some d) h = contains_there d b (subproofs_read ls cs) h
    later false o h = h

    here : (y : Bool) (o : Option Subproof) → y ≡ true → o ≡ Some b → Contains (cond y (prepend o (subproofs_read ls cs)) (subproofs_read ls cs)) b
    here true (Some d) p q = let i : d ≡ b = cc in subst (λ z. Contains (z ∷ subproofs_read ls cs) b) (sym i) (contains_here b (subproofs_read ls cs))
    here true None p q = cc
    here false o p q = cc

    go : (k : ℕ) → slice_get (x ∷ cs) k ≡ Some c → ((i : ℕ) → slice_get cs i ≡ Some c → Contains (subproofs_read ls cs) b) → Contains (cond x.sub (prepend (subproof_between ls x.first x.last) (subproofs_read ls cs)) (subproofs_read ls cs)) b
    go zero e rest = let i : x ≡ c = cc in here x.sub (subproof_between ls x.first x.last) (ap (λ (y : Cite). y.sub) i ∙ t) (ap (λ (y : Cite). subproof_between ls y.first y.last) i ∙ f)
    go (suc k) e rest = later x.sub (subproof_between ls x.first x.last) (rest k e)

-- where a cited subproof stands among the cites
abbrev CitedAt : List FlatLine → List Cite → Subproof → Type 0
CitedAt ls cs b = (k : ℕ) × (c : Cite) × (slice_get cs k ≡ Some c) × (c.sub ≡ true) × (subproof_between ls c.first c.last ≡ Some b)

cited_at : (ls : List FlatLine) (cs : List Cite) (b : Subproof) → Contains (subproofs_read ls cs) b → CitedAt ls cs b
cited_at ls [] b (k, l, e) = absurd (omega (arith, l))
cited_at ls (x ∷ cs) b h = go x.sub (subproof_between ls x.first x.last) refl refl (λ i. cited_at ls cs b i) h
  where
    after : CitedAt ls cs b → CitedAt ls (x ∷ cs) b
    after (k, c, e, t, f) = (suc k, c, e, t, f)

    go : (y : Bool) (o : Option Subproof) → x.sub ≡ y → subproof_between ls x.first x.last ≡ o → (Contains (subproofs_read ls cs) b → CitedAt ls cs b) → Contains (cond y (prepend o (subproofs_read ls cs)) (subproofs_read ls cs)) b → CitedAt ls (x ∷ cs) b
    go false o t e rest h = after (rest h)
    go true None t e rest h = after (rest h)
    go true (Some d) t e rest h = contains_cases (CitedAt ls (x ∷ cs) b) d b (subproofs_read ls cs) (λ i. (0, x, refl, t, e ∙ ap Some i)) (λ i. after (rest i)) h

-- what begins with p at a place of the set goes from p to s
begins_goes : (ls : List FlatLine) (cs : List Cite) (s : Sent) (bits : ℕ) → AreEnding ls cs s bits → (p : Sent) → SomeBegins ls cs bits p → SomeGoes (subproofs_read ls cs) p s
begins_goes ls cs s bits are p (k, c, e, h, f) =
    let ends = (are k c e).0 h in
    let b = there ls c p s f ends.1 in
    (b.0, among ls cs k c b.0 e ends.0 b.1, b.2)

goes_begins : (ls : List FlatLine) (cs : List Cite) (s : Sent) (bits : ℕ) → AreEnding ls cs s bits → (p : Sent) → SomeGoes (subproofs_read ls cs) p s → SomeBegins ls cs bits p
goes_begins ls cs s bits are p (b, i, g) = go (cited_at ls cs b i)
  where
    go : CitedAt ls cs b → SomeBegins ls cs bits p
    go (k, c, e, t, f) = (k, c, e, (are k c e).1 (t, ap concluded_by f ∙ g.to), sym (begins_ends ls c b f).0 ∙ g.from)

-- for each part
pub cases_shown : (ls : List FlatLine) (cs : List Cite) (parts : List Sent) (s : Sent) (bits : ℕ) (b : Bool) → AreEnding ls cs s bits → IsTrue b ↔ AllByRecursion (SomeBegins ls cs bits) parts →
    IsTrue b ↔ AllByRecursion (λ p. SomeGoes (subproofs_read ls cs) p s) parts
cases_shown ls cs parts s bits b are h = (
  λ i. all_turn (SomeBegins ls cs bits) (λ p. SomeGoes (subproofs_read ls cs) p s) (begins_goes ls cs s bits are) parts (h.0 i),
  λ g. h.1 (all_turn (λ p. SomeGoes (subproofs_read ls cs) p s) (SomeBegins ls cs bits) (goes_begins ls cs s bits are) parts g),
)

-- so far without a cite
pub none_found : (ls : List FlatLine) (cs : List Cite) (s : Sent) (bits : ℕ) → ((k : ℕ) → k < 64 → has bits k ≡ false) → EndingSoFar ls cs s 0 bits
none_found ls cs s bits h = record { found = λ k c l. absurd (omega (arith, l)); none_yet = λ k l m. h k m }

-- with one cite more
pub one_more : (ls : List FlatLine) (cs : List Cite) (s : Sent) (i old new : ℕ) (c : Cite) (b : Bool) → i < 64 → slice_get cs i ≡ Some c → EndingSoFar ls cs s i old → IsTrue b ↔ EndsIn ls s c →
    has new i ≡ (has old i || b) → ((k : ℕ) → k ≢ i → has new k ≡ has old k) → EndingSoFar ls cs s (i + 1) new
one_more ls cs s i old new c b low at so ends here elsewhere = record { found = found; none_yet = none_yet }
  where
    added : has new i ≡ b
    added = here ∙ ap (λ x. x || b) (so.none_yet i (omega arith) low)

    found : (k : ℕ) (d : Cite) → k < i + 1 → slice_get cs k ≡ Some d → IsTrue (has new k) ↔ EndsIn ls s d
    found k d l e = go (cases k i l)
      where
        cases : (k i : ℕ) → k < i + 1 → (k ≡ i) ⊎ (k < i)
        cases k i l = grind arith

        go : ((k ≡ i) ⊎ (k < i)) → IsTrue (has new k) ↔ EndsIn ls s d
        go (inl q) =
            let same : c ≡ d = (let f : Some c ≡ Some d = sym at ∙ ap (slice_get cs) (sym q) ∙ e in cc) in
            subst (λ x. IsTrue (has new x) ↔ EndsIn ls s d) (sym q) (subst (λ x. IsTrue x ↔ EndsIn ls s d) (sym added) (subst (λ x. IsTrue b ↔ EndsIn ls s x) same ends))
        go (inr less) = subst (λ x. IsTrue x ↔ EndsIn ls s d) (sym (elsewhere k (λ q. omega (arith, q, less)))) (so.found k d less e)

    none_yet : (k : ℕ) → i + 1 ≤ k → k < 64 → has new k ≡ false
    none_yet k l m = elsewhere k (λ q. omega (arith, q, l)) ∙ so.none_yet k (omega (arith, l)) m

-- with all cites
pub all_found : (ls : List FlatLine) (cs : List Cite) (s : Sent) (n bits : ℕ) → length cs ≤ n → EndingSoFar ls cs s n bits → AreEnding ls cs s bits
all_found ls cs s n bits l so k c e = so.found k c (omega (arith, l, slice_get_within cs k c e)) e
