-- A line that was read may follow the earlier ones.
use Rattle.std.proofs.Common.{◌≡◌, ℕ, eqb, true, false, not, List, [], ◌∷◌, arith, refl, sym, subst, ◌∙◌, Option, Some, None, inl, inr}
use Rattle.std.specs.Prelude.{◌⊎◌, ◌&&◌, is_some}
use Rattle.std.specs.List.{AllByRecursion, slice_split}
use Rattle.std.proofs.lemmas.Bool.{and_parts}
use Rattle.fol_core.specs.Word.{Word}
use Rattle.fol_core.specs.declared.sent.Sent.{Sent}
use Rattle.texts.specs.Blanks.{trimmed}
use Rattle.deriv_laws.specs.declared.line.Cite.{Cite}
use Rattle.deriv_laws.specs.declared.line.FlatLine.{FlatLine}
use Rattle.deriv_laws.specs.declared.rule.Rule.{Rule}
use Rattle.deriv_laws.specs.declared.rule.Rule.TheVariants as r
use Rattle.nested_proofs.specs.Nesting.{IsShaped}
use Rattle.nested_proofs.specs.Limits.{DepthFits, depth_after, IsCiteForm, AreInForm}
use Rattle.fitch_file.specs.Beside.{Beside}
use Rattle.fitch_file.specs.Cites.{IsPart, AreCited, may_cite}
use Rattle.fitch_file.specs.Claim.{is_nothing, suits}
use Rattle.fitch_file.specs.Line.{IsStated, IsLine}
use Rattle.fitch_file.proofs.Citing.{IsLineCite, IsSubproofCite, kinds}

-- the sentence
some_sentence : (stated : List ℕ) (o : Option Sent) → not (is_nothing stated) ≡ true → IsStated stated o → (s : Sent) × (o ≡ Some s)
some_sentence [] o h k = absurd (cc)
some_sentence (b ∷ bs) (Some s) h k = (s, refl)
some_sentence (b ∷ bs) None h k = absurd (cc)

no_sentence : (stated : List ℕ) (o : Option Sent) → is_nothing stated ≡ true → IsStated stated o → o ≡ None
no_sentence [] (Some s) h k = absurd (k.0 refl)
no_sentence [] None h k = refl
no_sentence (b ∷ bs) o h k = absurd (cc)

-- the box
some_box : (b : Option Word) → is_some b ≡ true → (c : Word) × (b ≡ Some c)
some_box (Some c) h = (c, refl)
some_box None h = absurd (cc)

no_box : (b : Option Word) → not (is_some b) ≡ true → b ≡ None
no_box (Some c) h = absurd (cc)
no_box None h = refl

-- the cites
no_cites : (rule : Rule) (text : Option (List ℕ)) (cites : List Cite) → may_cite rule ≡ false → AreCited rule text cites → cites ≡ []
no_cites rule None cites h k = k
no_cites rule (Some text) cites h k = absurd (cc)

shaped_step : (l : FlatLine) (boxed : Option Word) (stated : List ℕ) → (not (is_some boxed) && not (is_nothing stated)) ≡ true → IsStated stated l.sentence → l.boxed ≡ boxed →
    (s : Sent) × (l.sentence ≡ Some s) × (l.boxed ≡ None)
shaped_step l boxed stated h k b =
    let p : (not (is_some boxed) ≡ true) × (not (is_nothing stated) ≡ true) = and_parts (not (is_some boxed)) (not (is_nothing stated)) h in
    let s : (s : Sent) × (l.sentence ≡ Some s) = some_sentence stated l.sentence p.1 k in
    (s.0, s.1, b ∙ no_box boxed p.0)

shaped : (l : FlatLine) (rule : Rule) (boxed : Option Word) (stated : List ℕ) (text : Option (List ℕ)) → suits rule boxed stated ≡ true → IsStated stated l.sentence → AreCited rule text l.cites →
    l.boxed ≡ boxed → (rule ≡ r.Premise → l.depth ≡ 1) → IsShaped l rule
shaped l r.Assume boxed stated text h k c b d =
    let s : (s : Sent) × (l.sentence ≡ Some s) = some_sentence stated l.sentence h k in
    (s.0, s.1, no_cites r.Assume text l.cites refl c)
shaped l r.BoxOnly boxed stated text h k c b d =
    let p : (is_some boxed ≡ true) × (is_nothing stated ≡ true) = and_parts (is_some boxed) (is_nothing stated) h in
    let w : (c : Word) × (boxed ≡ Some c) = some_box boxed p.0 in
    (w.0, b ∙ w.1, no_sentence stated l.sentence p.1 k, no_cites r.BoxOnly text l.cites refl c)
shaped l r.Premise boxed stated text h k c b d =
    let s : (s : Sent) × (l.sentence ≡ Some s) × (l.boxed ≡ None) = shaped_step l boxed stated h k b in
    (s.0, s.1, s.2, d refl, no_cites r.Premise text l.cites refl c)
shaped l _ boxed stated text h k c b d = shaped_step l boxed stated h k b

pub line_is_shaped : (earlier : List FlatLine) (text : List ℕ) (l : FlatLine) → IsLine earlier text l → IsShaped l l.rule
line_is_shaped earlier text l h =
    let d : h.claim.rule ≡ r.Premise → l.depth ≡ 1 = λ e. h.claimed.deep ∙ h.fits.premise_outside e in
    subst (λ rule. IsShaped l rule) (sym h.claimed.rules) (shaped l h.claim.rule h.claim.boxed h.claim.stated h.claim.cites h.claims.suited h.claimed.stated h.claimed.cited h.claimed.boxes d)

pub line_depth_fits : (earlier : List FlatLine) (text : List ℕ) (l : FlatLine) → IsLine earlier text l → DepthFits (depth_after 1 earlier) l.rule l.depth
line_depth_fits earlier text l h =
    subst (λ rule. DepthFits (depth_after 1 earlier) rule l.depth) (sym h.claimed.rules) (subst (λ d. DepthFits (depth_after 1 earlier) h.claim.rule d) (sym h.claimed.deep) h.fits)

in_form : (text : List ℕ) (c : Cite) → IsLineCite text c ⊎ IsSubproofCite text c → IsCiteForm c
in_form text c (inl h) = subst IsCiteForm (sym h.is) (record { from_one = omega (arith, h.counts.low); in_order = omega arith; four_digits = h.counts.high; one_number = λ _. refl })
in_form text c (inr h) = subst IsCiteForm (sym h.is) (record { from_one = omega (arith, h.ranges.from_line.low); in_order = h.ranges.in_order; four_digits = h.ranges.to_line.high; one_number = λ e. absurd (cc) })

all_in_form : (ts : List (List ℕ)) (cs : List Cite) → Beside IsPart ts cs → AllByRecursion IsCiteForm cs
all_in_form [] [] h = tt
all_in_form [] (c ∷ cs) h = absurd h
all_in_form (t ∷ ts) [] h = absurd h
all_in_form (t ∷ ts) (c ∷ cs) h = (in_form (trimmed t) c (kinds (trimmed t) c h.0), all_in_form ts cs h.1)

cited_in_form : (rule : Rule) (text : Option (List ℕ)) (cs : List Cite) → AreCited rule text cs → AreInForm cs
cited_in_form rule None cs h = subst AreInForm (sym h) (record { few = omega arith; forms = tt })
cited_in_form rule (Some text) cs h = record { few = h.1.few; forms = all_in_form (slice_split (λ b. eqb b 44) text) cs h.1.each }

pub line_cites_in_form : (earlier : List FlatLine) (text : List ℕ) (l : FlatLine) → IsLine earlier text l → AreInForm l.cites
line_cites_in_form earlier text l h = cited_in_form h.claim.rule h.claim.cites l.cites h.claimed.cited
