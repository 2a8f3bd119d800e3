-- The steps in which the printer puts a proof's text together.
use Rattle.std.proofs.Common.{◌≡◌, ℕ, zero, suc, ◌+◌, ◌<◌, List, [], ◌∷◌, ◌++◌, length, take, get_or, refl, sym, ap, ◌∙◌, append_assoc, add-one, arith}
use Rattle.std.proofs.lemmas.List.{take_more, length-take-le}
use Rattle.deriv_laws.specs.declared.line.FlatLine.{FlatLine}
use Rattle.fitch_file.specs.PrintedProof.{bars_text, printed_line, printed_lines}

-- bars

more_bars : (n : ℕ) → bars_text (suc n) ≡ bars_text n ++ 124 ∷ 32 ∷ []
more_bars zero = refl
more_bars (suc n) = ap (λ t. 124 ∷ 32 ∷ t) (more_bars n)

pub bars_step : (old now after : List ℕ) (n : ℕ) → now ≡ old ++ bars_text n → after ≡ now ++ 124 ∷ 32 ∷ [] → after ≡ old ++ bars_text (n + 1)
bars_step old now after n h k =
    k ∙ ap (λ t. t ++ 124 ∷ 32 ∷ []) h ∙ append_assoc old (bars_text n) (124 ∷ 32 ∷ []) ∙ ap (λ t. old ++ t) (sym (more_bars n)) ∙ ap (λ m. old ++ bars_text m) (sym (add-one n))

-- lines

lines_snoc : (n : ℕ) (ls : List FlatLine) (l : FlatLine) → printed_lines n (ls ++ l ∷ []) ≡ printed_lines n ls ++ (printed_line (n + length ls) l ++ 10 ∷ [])
lines_snoc n [] l = let e : n + 0 ≡ n = omega arith in ap (λ m. printed_line m l ++ 10 ∷ []) (sym e)
lines_snoc n (x ∷ ls) l =
    let e : n + 1 + length ls ≡ n + length (x ∷ ls) = omega arith in
    ap (λ t. printed_line n x ++ 10 ∷ t) (lines_snoc (n + 1) ls l ∙ ap (λ m. printed_lines (n + 1) ls ++ (printed_line m l ++ 10 ∷ [])) e)
    ∙ sym (append_assoc (printed_line n x) (10 ∷ printed_lines (n + 1) ls) (printed_line (n + length (x ∷ ls)) l ++ 10 ∷ []))

pub lines_step : (old now middle after : List ℕ) (ls : List FlatLine) (i number : ℕ) (l : FlatLine) → i < length ls → l ≡ get_or ls i l → number ≡ i + 1
    → now ≡ old ++ printed_lines 1 (take i ls) → middle ≡ now ++ printed_line number l → after ≡ middle ++ 10 ∷ [] → after ≡ old ++ printed_lines 1 (take (i + 1) ls)
lines_step old now middle after ls i number l lt at n h k m =
    let taken : length (take i ls) ≡ i = length-take-le i ls (omega arith) in
    let same : number ≡ 1 + length (take i ls) = omega arith in
    let front : List FlatLine = take i ls in
    let grown : front ++ l ∷ [] ≡ take (i + 1) ls = ap (λ x. front ++ x ∷ []) at ∙ sym (take_more ls i l lt) in
    m ∙ ap (λ t. t ++ 10 ∷ []) (k ∙ ap (λ t. t ++ printed_line number l) h)
    ∙ append_assoc (old ++ printed_lines 1 front) (printed_line number l) (10 ∷ [])
    ∙ append_assoc old (printed_lines 1 front) (printed_line number l ++ 10 ∷ [])
    ∙ ap (λ p. old ++ (printed_lines 1 front ++ (printed_line p l ++ 10 ∷ []))) same
    ∙ ap (λ t. old ++ t) (sym (lines_snoc 1 front l))
    ∙ ap (λ xs. old ++ printed_lines 1 xs) grown
