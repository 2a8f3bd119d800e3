use Rattle.std.proofs.Common.{◌≡◌, ◌+◌, ◌<◌, length, sym, subst, rules, arith, inr, IfErr}
use Rattle.std.specs.Prelude.{◌⊎◌}
use Rattle.fitch_file.specs.Numbering.{IsNumbered, IsDepth, bars, after_bars}
use Rattle.fitch_file.specs.Claim.{Claim, IsClaim}
use Rattle.nested_proofs.specs.Limits.{DepthFits, depth_after}
use Rattle.fitch_file.specs.Line.{IsClaimed}
use Rattle.fitch_file.specs.LineFaults.{NestingFails}
use Rattle.fitch_file.specs.Readers.{claim_of}
use Rattle.fitch_file.specs.declared.fault.TextFault.TheVariants.{Memory}
use Rattle.fitch_file.proofs.Lengths.{claim_fits, claim_boxes_word}
use Rattle.fitch_file.proofs.Lining.{no_depth, no_claim, FitsClaim, line_of_claim, claim_fails, nesting_fails}
use Rattle.fitch_file.proofs.proof_line.read_line.Goals as goal

pub returns-in_default-read_claim-clause-exact : goal.returns-in_default-read_claim-clause-exact
returns-in_default-read_claim-clause-exact c = λ l h.
    let n : IsNumbered (length c.args.earlier.now + 1) c.args.text.now c.in-Some.body.now = subst (λ k. IsNumbered (k + 1) c.args.text.now c.in-Some.body.now) c.len.ensures.value c.in-Some.ensures.value in
    let none : (x : Claim) → IsClaim (after_bars c.in-Some.body.now) x → ⊥ = subst (λ t. (x : Claim) → IsClaim t x → ⊥) c.split_bars-bars.ensures.rest c.in_default-read_claim.ensures in
    absurd (no_claim c.args.earlier.now c.args.text.now c.in-Some.body.now l n none h)

pub returns-in_default-read_claim-clause-refused : goal.returns-in_default-read_claim-clause-refused
returns-in_default-read_claim-clause-refused c =
    let n : IsNumbered (length c.args.earlier.now + 1) c.args.text.now c.in-Some.body.now = subst (λ k. IsNumbered (k + 1) c.args.text.now c.in-Some.body.now) c.len.ensures.value c.in-Some.ensures.value in
    let none : (x : Claim) → IsClaim (after_bars c.in-Some.body.now) x → ⊥ = subst (λ t. (x : Claim) → IsClaim t x → ⊥) c.split_bars-bars.ensures.rest c.in_default-read_claim.ensures in
    let room : length c.args.earlier.now < 2000 = c.has_room.ensures.room.0 (search rules) in
    let deep : IsDepth (bars c.in-Some.body.now) = subst IsDepth c.split_bars-bars.ensures.count (c.is_depth.ensures.0 (search rules)) in
    inr (claim_fails c.args.earlier.now c.args.text.now c.in-Some.body.now room n deep none)

pub read_claimed-requires-clause-short : goal.read_claimed-requires-clause-short
read_claimed-requires-clause-short c =
    let n : IsNumbered (length c.args.earlier.now + 1) c.args.text.now c.in-Some.body.now = subst (λ k. IsNumbered (k + 1) c.args.text.now c.in-Some.body.now) c.len.ensures.value c.in-Some.ensures.value in
    let k : IsClaim (after_bars c.in-Some.body.now) (claim_of c.in-Some-read_claim.claim) = subst (λ t. IsClaim t (claim_of c.in-Some-read_claim.claim)) c.split_bars-bars.ensures.rest c.in-Some-read_claim.ensures in
    omega (arith, c.requires, claim_fits (length c.args.earlier.now + 1) c.args.text.now c.in-Some.body.now (claim_of c.in-Some-read_claim.claim) n k)

pub read_claimed-requires-clause-named : goal.read_claimed-requires-clause-named
read_claimed-requires-clause-named c = claim_boxes_word c.split_bars-bars.result.1.now (claim_of c.in-Some-read_claim.claim) c.in-Some-read_claim.ensures

pub returns-clause-exact : goal.returns-clause-exact
returns-clause-exact c = λ l h.
    let n : IsNumbered (length c.args.earlier.now + 1) c.args.text.now c.in-Some.body.now = subst (λ k. IsNumbered (k + 1) c.args.text.now c.in-Some.body.now) c.len.ensures.value c.in-Some.ensures.value in
    let k : IsClaim (after_bars c.in-Some.body.now) (claim_of c.in-Some-read_claim.claim) = subst (λ t. IsClaim t (claim_of c.in-Some-read_claim.claim)) c.split_bars-bars.ensures.rest c.in-Some-read_claim.ensures in
    let f : FitsClaim c.args.earlier.now c.in-Some.body.now (claim_of c.in-Some-read_claim.claim) l = line_of_claim c.args.earlier.now c.args.text.now c.in-Some.body.now (claim_of c.in-Some-read_claim.claim) l n k h in
    c.read_claimed.ensures.exact l
    (subst (λ d. DepthFits (depth_after 1 c.args.earlier.now) c.in-Some-read_claim.claim.rule d) (sym c.split_bars-bars.ensures.count) f.fits)
    (subst (λ d. IsClaimed d (claim_of c.in-Some-read_claim.claim) l) (sym c.split_bars-bars.ensures.count) f.claimed)

pub returns-clause-refused : goal.returns-clause-refused
returns-clause-refused c =
    let n : IsNumbered (length c.args.earlier.now + 1) c.args.text.now c.in-Some.body.now = subst (λ k. IsNumbered (k + 1) c.args.text.now c.in-Some.body.now) c.len.ensures.value c.in-Some.ensures.value in
    let k : IsClaim (after_bars c.in-Some.body.now) (claim_of c.in-Some-read_claim.claim) = subst (λ t. IsClaim t (claim_of c.in-Some-read_claim.claim)) c.split_bars-bars.ensures.rest c.in-Some-read_claim.ensures in
    let room : length c.args.earlier.now < 2000 = c.has_room.ensures.room.0 (search rules) in
    let deep : IsDepth (bars c.in-Some.body.now) = subst IsDepth c.split_bars-bars.ensures.count (c.is_depth.ensures.0 (search rules)) in
    nesting_fails c.args.earlier.now c.args.text.now c.in-Some.body.now (claim_of c.in-Some-read_claim.claim) c.read_claimed.result room n deep k
    (subst (λ d. IfErr c.read_claimed.result (λ fault. (fault ≡ Memory) ⊎ NestingFails (depth_after 1 c.args.earlier.now) d (claim_of c.in-Some-read_claim.claim) fault)) c.split_bars-bars.ensures.count c.read_claimed.ensures.refused)

pub returns-then-not-is_depth-clause-exact : goal.returns-then-not-is_depth-clause-exact
returns-then-not-is_depth-clause-exact c = λ l h.
    let n : IsNumbered (length c.args.earlier.now + 1) c.args.text.now c.in-Some.body.now = subst (λ k. IsNumbered (k + 1) c.args.text.now c.in-Some.body.now) c.len.ensures.value c.in-Some.ensures.value in
    let none : IsDepth (bars c.in-Some.body.now) → ⊥ = λ d. let t = c.is_depth.ensures.1 (subst IsDepth (sym c.split_bars-bars.ensures.count) d) in cc in
    absurd (no_depth c.args.earlier.now c.args.text.now c.in-Some.body.now l n none h)
