-- The lines of a text that is cut at its first line feed.
use Rattle.std.proofs.Common.{◌≡◌, ℕ, ◌<◌, ◌||◌, eqb, Bool, true, false, List, [], ◌∷◌, ◌++◌, length, arith, refl, ap, ◌∙◌, eq-eqb}
use Rattle.std.specs.List.{slice_split, onto_first, list_any}
use Rattle.std.specs.Str.Lines.{lines, lines_of_parts, strip_carriage_return}
use Rattle.std.proofs.lemmas.List.Splits.{slice_split-cons_yes, slice_split-cons_no, length-slice_split}
use Rattle.std.proofs.lemmas.Bool.Decides.{nat_tests}
use Rattle.texts.specs.Cuts.{Lacks, IsCut}

pub or_false : (a b : Bool) → (a || b) ≡ false → (a ≡ false) × (b ≡ false)
or_false true b e = absurd (cc)
or_false false b e = (refl, e)

pub split_lacks : (c : ℕ) (xs : List ℕ) → Lacks c xs → slice_split (λ b. eqb b c) xs ≡ xs ∷ []
split_lacks c [] h = refl
split_lacks c (x ∷ xs) h =
    let apart : (eqb x c ≡ false) × Lacks c xs = or_false (eqb x c) (list_any (λ b. eqb b c) xs) h in
    slice_split-cons_no (λ b. eqb b c) x xs apart.0 ∙ ap (onto_first x) (split_lacks c xs apart.1)

split_at : (c : ℕ) (xs ys : List ℕ) → Lacks c xs → slice_split (λ b. eqb b c) (xs ++ c ∷ ys) ≡ xs ∷ slice_split (λ b. eqb b c) ys
split_at c [] ys h = slice_split-cons_yes (λ b. eqb b c) c ys (eq-eqb c c refl)
split_at c (x ∷ xs) ys h =
    let apart : (eqb x c ≡ false) × Lacks c xs = or_false (eqb x c) (list_any (λ b. eqb b c) xs) h in
    slice_split-cons_no (λ b. eqb b c) x (xs ++ c ∷ ys) apart.0 ∙ ap (onto_first x) (split_at c xs ys apart.1)

pub split_cut : (c : ℕ) (text front rest : List ℕ) → IsCut c text front rest → slice_split (λ b. eqb b c) text ≡ front ∷ slice_split (λ b. eqb b c) rest
split_cut c text front rest h = ap (slice_split (λ b. eqb b c)) h.joined ∙ split_at c front rest h.first

more_lines : (x : List ℕ) (parts : List (List ℕ)) → 0 < length parts → lines_of_parts (x ∷ parts) ≡ strip_carriage_return x ∷ lines_of_parts parts
more_lines x [] h = absurd (omega arith)
more_lines x (p ∷ ps) h = refl

pub lines-cut : (text front rest : List ℕ) → IsCut 10 text front rest → lines text ≡ strip_carriage_return front ∷ lines rest
lines-cut text front rest c =
    ap lines_of_parts (split_cut 10 text front rest c)
    ∙ more_lines front (slice_split (λ b. eqb b 10) rest) (omega (arith, length-slice_split (λ b. eqb b 10) rest))

one_line : (text : List ℕ) → 0 < length text → lines_of_parts (text ∷ []) ≡ text ∷ []
one_line text h = grind (arith, nat_tests)

pub lines-last : (text : List ℕ) → 0 < length text → Lacks 10 text → lines text ≡ text ∷ []
lines-last text h l = ap lines_of_parts (split_lacks 10 text l) ∙ one_line text h
