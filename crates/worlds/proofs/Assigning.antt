-- Assignments to blocks of a world.
use Rattle.std.proofs.Common.{◌≡◌, ℕ, ◌+◌, ◌≤◌, ◌<◌, Bool, true, false, List, [], ◌∷◌, length, map, refl, ap, ap₂, ◌∙◌, arith}
use Rattle.std.specs.Prelude.{◌&&◌, if◌then◌else◌}
use Rattle.std.specs.List.{list_all}
use Rattle.std.specs.Str.{bytes_eq}
use Rattle.std.proofs.lemmas.Bool.{and_parts, le-leb}
use Rattle.fol_core.specs.Word.{Word}
use Rattle.fol_core.specs.declared.sent.Term.{Term, out-Term}
use Rattle.fol_core.specs.declared.sent.Term.TheOpen.{Term-F}
use Rattle.fol_core.specs.declared.sent.Term.TheOpen as t
use Rattle.fol_core.specs.declared.sent.Term.TheFolds.{fold_out-Term, map-Term}
use Rattle.worlds.specs.declared.block.Block.{Block}
use Rattle.worlds.specs.Geometry.{bears, letters}
use Rattle.worlds.specs.Worlds.{bearer, bearer_from}
use Rattle.worlds.specs.Assignments.{Assignment, AreBlocks, Standing, Value, is_number, block_for, value_for, number_at, number_step, put, own_names}

is_one : (w : List Block) (n : ℕ) → 1 ≤ n → n ≤ length w → is_number w n ≡ true
is_one w n low high = ap₂ (λ b c. b && c) (le-leb 1 n low) (le-leb n (length w) high)

either : (w : List Block) (c : Bool) (m n : ℕ) → is_number w m ≡ true → is_number w n ≡ true → is_number w (if c then m else n) ≡ true
either w true m n h i = h
either w false m n h i = i

block_within : (w : List Block) → is_number w 1 ≡ true → (ss : List Standing) → list_all (λ s. is_number w s.block) ss ≡ true → (x : Word) → is_number w (block_for ss x) ≡ true
block_within w one [] h x = one
block_within w one (s ∷ ss) h x =
    let (here, rest) = and_parts (is_number w s.block) (list_all (λ s. is_number w s.block) ss) h in
    either w (bytes_eq s.word x) s.block (block_for ss x) here (block_within w one ss rest x)

value_within : (w : List Block) → is_number w 1 ≡ true → (vs : List Value) → list_all (λ v. is_number w v.block) vs ≡ true → (g : Word) (ns : List ℕ) → is_number w (value_for vs g ns) ≡ true
value_within w one [] h g ns = one
value_within w one (v ∷ vs) h g ns =
    let (here, rest) = and_parts (is_number w v.block) (list_all (λ v. is_number w v.block) vs) h in
    either w (bytes_eq v.symbol g && bytes_eq v.arguments ns) v.block (value_for vs g ns) here (value_within w one vs rest g ns)

step_within : (w : List Block) (a : Assignment) → is_number w 1 ≡ true → AreBlocks w a → (y : Term-F ℕ) → is_number w (number_step a y) ≡ true
step_within w a one h (t.Var x) = block_within w one a.variables h.variables x
step_within w a one h (t.Name n) = block_within w one a.names h.names n
step_within w a one h (t.App g ns) = value_within w one a.functions h.functions g ns

pub term_within : (w : List Block) (a : Assignment) (t : Term) → 0 < length w → AreBlocks w a → is_number w (number_at a t) ≡ true
term_within w a t some h =
    ap (is_number w) (fold_out-Term ℕ (number_step a) t) ∙ step_within w a (is_one w 1 (omega arith) (omega (arith, some))) h (map-Term Term ℕ (number_at a) (out-Term t))

pub put_keeps : (w : List Block) (a : Assignment) (x : Word) (k : ℕ) → is_number w k ≡ true → AreBlocks w a → AreBlocks w (put x k a)
put_keeps w a x k h i = record {
  variables = ap (λ b. b && list_all (λ (s : Standing). is_number w s.block) a.variables) h ∙ i.variables;
  names = i.names;
  functions = i.functions;
}

bearer_within : (w : List Block) (n : ℕ) (bs : List Block) (l : ℕ) → is_number w 1 ≡ true → 1 ≤ n → n + length bs ≤ 1 + length w → is_number w (bearer_from n bs l) ≡ true
bearer_within w n [] l one low high = one
bearer_within w n (b ∷ bs) l one low high =
    either w (bears b.names l) n (bearer_from (n + 1) bs l) (is_one w n low (omega (arith, high))) (bearer_within w (n + 1) bs l one (omega arith) (omega (arith, high)))

letters_within : (w : List Block) → 0 < length w → (ls : List ℕ) → list_all (λ (s : Standing). is_number w s.block) (map (λ l. record { word = l ∷ []; block = bearer w l }) ls) ≡ true
letters_within w some [] = refl
letters_within w some (l ∷ ls) = ap₂ (λ b c. b && c) (bearer_within w 1 w l (is_one w 1 (omega arith) (omega (arith, some))) (omega arith) (omega arith)) (letters_within w some ls)

pub own_within : (w : List Block) → 0 < length w → AreBlocks w (own_names w)
own_within w some = record { variables = refl; names = letters_within w some letters; functions = refl }
