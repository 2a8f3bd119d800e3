-- Why a text is no line of a proof, and which line it is.
use Rattle.std.proofs.Common.{◌≡◌, ℕ, ◌+◌, ◌<◌, true, false, List, [], ◌∷◌, ◌++◌, length, arith, refl, sym, ap, subst, ◌∙◌, Result, Ok, Err, IfErr, inl, inr}
use Rattle.std.specs.Prelude.{◌⊎◌, if◌then◌else◌}
use Rattle.std.specs.List.{list_all}
use Rattle.std.proofs.lemmas.Bool.{and_parts}
use Rattle.std.proofs.lemmas.Bool.Decides.{nat_tests}
use Rattle.std.proofs.lemmas.Fmt.{decimal_nonempty}
use Rattle.texts.specs.Blanks.{is_blank, after_blanks}
use Rattle.fol_core.specs.Word.{is_digit}
use Rattle.std.specs.Fmt.{decimal}
use Rattle.std.proofs.lemmas.List.{append_cancel_left}
use Rattle.deriv_laws.specs.declared.line.FlatLine.{FlatLine}
use Rattle.nested_proofs.specs.Limits.{DepthFits, depth_after}
use Rattle.fitch_file.specs.Numbering.{IsNumbered, IsDepth, bars, after_bars}
use Rattle.fitch_file.specs.Claim.{Claim, IsClaim}
use Rattle.fitch_file.specs.Line.{IsClaimed, IsLine}
use Rattle.fitch_file.specs.LineFaults.{NestingFails, LineFails}
use Rattle.fitch_file.specs.declared.fault.TextFault.{TextFault}
use Rattle.fitch_file.specs.declared.fault.TextFault.TheVariants.{Memory, RuleName}
use Rattle.physical_lines.specs.Physical.{IsBlankLine}
use Rattle.fitch_file.proofs.Claiming.{claim_once}
use Rattle.fitch_file.proofs.Digits.{decimal_digits}

pub body_once : (n : ℕ) (text body other : List ℕ) → IsNumbered n text body → IsNumbered n text other → body ≡ other
body_once n text body other h k = append_cancel_left (decimal n) body other (sym h.written ∙ k.written)

pub no_depth : (earlier : List FlatLine) (text body : List ℕ) (l : FlatLine) → IsNumbered (length earlier + 1) text body → (IsDepth (bars body) → ⊥) → IsLine earlier text l → ⊥
no_depth earlier text body l n none h = none (subst (λ t. IsDepth (bars t)) (body_once (length earlier + 1) text h.body body h.numbered n) h.depth)

pub no_claim : (earlier : List FlatLine) (text body : List ℕ) (l : FlatLine) → IsNumbered (length earlier + 1) text body → ((c : Claim) → IsClaim (after_bars body) c → ⊥) → IsLine earlier text l → ⊥
no_claim earlier text body l n none h = none h.claim (subst (λ t. IsClaim (after_bars t) h.claim) (body_once (length earlier + 1) text h.body body h.numbered n) h.claims)

-- what a line that makes a claim is
pub record FitsClaim (earlier : List FlatLine) (body : List ℕ) (claim : Claim) (l : FlatLine) : Type 0 where
  pub fits : DepthFits (depth_after 1 earlier) claim.rule (bars body)
  pub claimed : IsClaimed (bars body) claim l

pub line_of_claim : (earlier : List FlatLine) (text body : List ℕ) (claim : Claim) (l : FlatLine) → IsNumbered (length earlier + 1) text body → IsClaim (after_bars body) claim → IsLine earlier text l →
    FitsClaim earlier body claim l
line_of_claim earlier text body claim l n k h =
    let b : h.body ≡ body = body_once (length earlier + 1) text h.body body h.numbered n in
    let c : h.claim ≡ claim = claim_once (after_bars body) h.claim claim (subst (λ t. IsClaim (after_bars t) h.claim) b h.claims) k in
    subst (λ t. FitsClaim earlier t claim l) b (subst (λ d. FitsClaim earlier h.body d l) c (record { fits = h.fits; claimed = h.claimed }))

-- the first test that a line fails, after those that it passed
pub claim_fails : (earlier : List FlatLine) (text body : List ℕ) → length earlier < 2000 → IsNumbered (length earlier + 1) text body → IsDepth (bars body) →
    ((c : Claim) → IsClaim (after_bars body) c → ⊥) → LineFails earlier text RuleName
claim_fails earlier text body room n d none = inr (room, inr (body, n, inr (d, inl (none, refl))))

pub nesting_fails : (earlier : List FlatLine) (text body : List ℕ) (claim : Claim) (r : Result FlatLine TextFault) → length earlier < 2000 → IsNumbered (length earlier + 1) text body → IsDepth (bars body) →
    IsClaim (after_bars body) claim → IfErr r (λ fault. (fault ≡ Memory) ⊎ NestingFails (depth_after 1 earlier) (bars body) claim fault) → IfErr r (λ fault. (fault ≡ Memory) ⊎ LineFails earlier text fault)
nesting_fails earlier text body claim (Ok l) room n d k h = tt
nesting_fails earlier text body claim (Err fault) room n d k (inl m) = inl m
nesting_fails earlier text body claim (Err fault) room n d k (inr f) = inr (inr (room, inr (body, n, inr (d, inr (claim, k, f)))))

digit_not_blank : (c : ℕ) → is_digit c ≡ true → is_blank c ≡ false
digit_not_blank c h = grind (arith, nat_tests)

digits_written : (ds body : List ℕ) → list_all is_digit ds ≡ true → 0 < length ds → after_blanks (ds ++ body) ≡ [] → ⊥
digits_written [] body h k e = absurd (omega arith)
digits_written (c ∷ cs) body h k e =
    let d : is_digit c ≡ true = (and_parts (is_digit c) (list_all is_digit cs) h).0 in
    let b : is_blank c ≡ false = digit_not_blank c d in
    let f : c ∷ (cs ++ body) ≡ [] = subst (λ x. (if x then after_blanks (cs ++ body) else c ∷ (cs ++ body)) ≡ []) b e in
    absurd (cc)

pub blank_is_no_line : (earlier : List FlatLine) (text : List ℕ) (l : FlatLine) → IsBlankLine text → IsLine earlier text l → ⊥
blank_is_no_line earlier text l blank h =
    digits_written (decimal (length earlier + 1)) h.body (decimal_digits (length earlier + 1) (omega (arith, h.room))) (decimal_nonempty (length earlier + 1) (omega (arith, h.room)))
    (sym (ap after_blanks h.numbered.written) ∙ blank)
