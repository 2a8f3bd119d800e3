-- A constant that was fresh where it was boxed before.
use Rattle.std.proofs.Common.{◌≡◌, ℕ, zero, suc, ◌-◌, ◌<◌, ◌≤◌, min, Bool, true, false, cond, List, length, refl, ap, sym, ◌∙◌, arith, Option, Some, None}
use Rattle.std.specs.Prelude.{slice_get, nat_le, ◌&&◌}
use Rattle.std.specs.List.{list_any}
use Rattle.std.proofs.lemmas.Bool.{leb-true, le-leb}
use Rattle.std.proofs.lemmas.Option.{get_or_from_slice_get}
use Rattle.fol_core.specs.declared.sent.Sent.{Sent}
use Rattle.fol_core.specs.Word.{Word}
use Rattle.fol_core.specs.Subst.{occurs}
use Rattle.fol_core.proofs.Equality.{word_same}
use Rattle.deriv_laws.specs.declared.rule.Rule.{Rule}
use Rattle.deriv_laws.specs.declared.rule.Rule.TheVariants as r
use Rattle.deriv_laws.specs.declared.line.FlatLine.{FlatLine}
use Rattle.deriv_laws.proofs.Lists.{all_turn}
use Rattle.nested_proofs.specs.Items.{opens}
use Rattle.nested_proofs.specs.Placed.{Placed, lines_of}
use Rattle.nested_proofs.specs.Levels.{level}
use Rattle.nested_proofs.specs.Limits.{AreLines}
use Rattle.nested_proofs.specs.AtLine.{AtLine}
use Rattle.nested_proofs.specs.Fresh.{HasFreshBox}
use Rattle.nested_proofs.specs.Hearing.{is_word, speaks_of, silent_before, silent}
use Rattle.nested_proofs.specs.Faults.{IsFailureBy}
use Rattle.nested_proofs.proofs.AtCited.{line_placed}
use Rattle.nested_proofs.proofs.Silence.{FreshAsSaid, fresh_where_silent, passes_on}
use Rattle.fitch_file.specs.declared.task.Task.{Task}
use Rattle.proof_check.specs.Failing.{is_allowed, answers, Passes}
use Rattle.proof_check.specs.Readers.{PassBefore}
use Rattle.proof_check.proofs.LineFaults.{at_both}

-- a line that is past a smaller reach too
less_said : (a b s : Bool) (p q : Bool) → (b ≡ true → a ≡ true) → (p ≡ true → q ≡ true) → cond (a && s) false p ≡ true → cond (b && s) false q ≡ true
less_said a false s p q i k e = go a s e
  where
    go : (a s : Bool) → cond (a && s) false p ≡ true → q ≡ true
    go true true e = cc
    go true false e = k e
    go false s e = k e
less_said true true true p q i k e = cc
less_said true true false p q i k e = k e
less_said false true s p q i k e = let f = i refl in cc

-- with a smaller reach fewer lines count
pub quieter : (c : Word) (ls : List FlatLine) (n u v : ℕ) → u ≤ v → silent c ls n v ≡ true → silent c ls n u ≡ true
quieter c ls zero u v h e = refl
quieter c ls (suc n) u v h e = go (slice_get ls n) (λ a b g f. quieter c ls n a b g f) e
  where
    go : (o : Option FlatLine) → ((a b : ℕ) → a ≤ b → silent c ls n b ≡ true → silent c ls n a ≡ true) → silent_before c v (silent c ls n) o ≡ true → silent_before c u (silent c ls n) o ≡ true
    go None later e = refl
    go (Some l) later e =
        less_said (nat_le l.depth v) (nat_le l.depth u) (speaks_of c l) (silent c ls n (min v (level l))) (silent c ls n (min u (level l)))
        (λ f. le-leb l.depth v (omega (arith, leb-true l.depth u f, h)))
        (later (min u (level l)) (min v (level l)) (omega (arith, h))) e

-- an opening that passes its test has a fresh box
passes_fresh : (task : Task) (x : Placed) → opens x.line.rule ≡ true → Passes task x → HasFreshBox task.premises x.around x.line.boxed
passes_fresh task x e h = go x.line.rule x.line.sentence e h
  where
    go : (rule : Rule) (s : Option Sent) → opens rule ≡ true → IsFailureBy (is_allowed task.allowed) answers task.premises x rule s None → HasFreshBox task.premises x.around x.line.boxed
    go r.Assume s e h = h
    go r.BoxOnly s e h = h
    go rule s e h = cc

-- line k passes its tests
passes_at : (task : Task) (ls : List FlatLine) (j k : ℕ) → PassBefore task ls j → k < j → AtLine ls k (Passes task)
passes_at task ls j k before h p o e = all_turn (λ (x : Placed). x.number < j → Passes task x) (λ (x : Placed). x.number ≡ k → Passes task x) (λ x f n. f (omega (arith, n, h))) (lines_of p) (before p o e)

-- a word that is c
is_the_word : (c : Word) (o : Option Word) → is_word c o ≡ true → o ≡ Some c
is_the_word c None e = cc
is_the_word c (Some w) e = ap Some (word_same w c e)

and_both : (a b : Bool) → (a && b) ≡ true → (a ≡ true) × (b ≡ true)
and_both true b e = (refl, e)
and_both false b e = cc

-- where line k boxes c and passes its tests, no premise has c and what stands before that line is silent of it
pub was_silent : (task : Task) (ls : List FlatLine) (j k : ℕ) (l : FlatLine) (c : Word) → AreLines ls → 0 < k → k ≤ length ls → k < j → PassBefore task ls j → slice_get ls (k - 1) ≡ Some l →
    (opens l.rule && is_word c l.boxed) ≡ true → (list_any (occurs c) task.premises ≡ false) × (silent c ls (k - 1) (level l) ≡ true)
was_silent task ls j k l c w low high less before g b =
    let both : (opens l.rule ≡ true) × (is_word c l.boxed ≡ true) = and_both (opens l.rule) (is_word c l.boxed) b in
    let x = line_placed ls k (λ x. Passes task x × FreshAsSaid task.premises ls k l c x) w low high
    (at_both ls k (Passes task) (FreshAsSaid task.premises ls k l c) (λ x. Passes task x × FreshAsSaid task.premises ls k l c x) (λ x p q. (p, q))
    (passes_at task ls j k before less) (fresh_where_silent task.premises ls k l c g (is_the_word c l.boxed both.1))) in
    let same : x.0.line ≡ l = (let e : Some x.0.line ≡ Some l = sym x.1.line ∙ g in cc) in
    x.2.1.1 (passes_fresh task x.0 (ap (λ (y : FlatLine). opens y.rule) same ∙ both.0) x.2.0)

-- so the lines before the one that is looked at are silent too
pub silent_since : (task : Task) (ls : List FlatLine) (j k v : ℕ) (l : FlatLine) (c : Word) → AreLines ls → 0 < k → k ≤ length ls → k < j → PassBefore task ls j → slice_get ls (k - 1) ≡ Some l →
    (nat_le l.depth v && speaks_of c l) ≡ false → (opens l.rule && is_word c l.boxed) ≡ true → silent c ls k v ≡ true
silent_since task ls j k v l c w low high less before g f b =
    let s = was_silent task ls j k l c w low high less before g b in
    passes_on c ls k v l low high (sym (get_or_from_slice_get ls (k - 1) l l g)) f ∙ quieter c ls (k - 1) (min v (level l)) (level l) (omega arith) s.1
