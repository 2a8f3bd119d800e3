-- Reading the cites of a line one by one.
use Rattle.std.proofs.Common.{◌≡◌, ℕ, ◌<◌, ◌≤◌, eqb, true, false, List, [], ◌∷◌, length, arith, refl, sym, ap, ap₂, subst, ◌∙◌, Option, Some, None, inl, inr}
use Rattle.std.specs.Prelude.{◌⊎◌}
use Rattle.std.specs.List.{slice_split}
use Rattle.texts.specs.Blanks.{trimmed}
use Rattle.texts.specs.Cuts.{Lacks, IsCut}
use Rattle.texts.specs.Numbers.{IsCount}
use Rattle.texts.proofs.Splitting.{split_cut, split_lacks}
use Rattle.texts.proofs.Cutting.{cut_once, lacks_not_cut}
use Rattle.deriv_laws.specs.declared.line.Cite.{Cite}
use Rattle.fitch_file.specs.Cites.{IsCite, line, subproof, IsRange, IsPart, AreCites, line_cite, subproof_cite}
use Rattle.fitch_file.specs.Readers.{Finds, TakesCite}
use Rattle.fitch_file.proofs.Digits.{count_once, count_lacks_hyphen}
use Rattle.fitch_file.proofs.Resuming.{Resumes, resumes_step, resumes_end, resumes_none, resumes_more, beside_once}

-- ranges
pub range_of : (text front back : List ℕ) (n m : ℕ) → IsCut 45 text front back → IsCount front n → IsCount back m → n ≤ m → IsRange text n m
range_of text front back n m c h k le = record { front = front; back = back; parted = c; from_line = h; to_line = k; in_order = le }

pub no_range_uncut : (text : List ℕ) (n m : ℕ) → Lacks 45 text → IsRange text n m → ⊥
no_range_uncut text n m l r = lacks_not_cut 45 text r.front r.back l r.parted

pub no_range_front : (text front back : List ℕ) (n m : ℕ) → IsCut 45 text front back → ((k : ℕ) → IsCount front k → ⊥) → IsRange text n m → ⊥
no_range_front text front back n m c none r =
    let e : (r.front ≡ front) × (r.back ≡ back) = cut_once 45 text r.front r.back front back r.parted c in
    none n (subst (λ t. IsCount t n) e.0 r.from_line)

pub no_range_back : (text front back : List ℕ) (n m : ℕ) → IsCut 45 text front back → ((k : ℕ) → IsCount back k → ⊥) → IsRange text n m → ⊥
no_range_back text front back n m c none r =
    let e : (r.front ≡ front) × (r.back ≡ back) = cut_once 45 text r.front r.back front back r.parted c in
    none m (subst (λ t. IsCount t m) e.1 r.to_line)

record AreSame (n m n' m' : ℕ) : Type 0 where
  pub first : n ≡ n'
  pub last : m ≡ m'

range_once : (text : List ℕ) (n m n' m' : ℕ) → IsRange text n m → IsRange text n' m' → AreSame n m n' m'
range_once text n m n' m' r s =
    let e : (s.front ≡ r.front) × (s.back ≡ r.back) = cut_once 45 text s.front s.back r.front r.back s.parted r.parted in
    record {
      first = count_once r.front n n' r.from_line (subst (λ t. IsCount t n') e.0 s.from_line);
      last = count_once r.back m m' r.to_line (subst (λ t. IsCount t m') e.1 s.to_line);
    }

pub no_range_order : (text front back : List ℕ) (n m n' m' : ℕ) → IsCut 45 text front back → IsCount front n → IsCount back m → m < n → IsRange text n' m' → ⊥
no_range_order text front back n m n' m' c h k lt r =
    let e : (r.front ≡ front) × (r.back ≡ back) = cut_once 45 text r.front r.back front back r.parted c in
    let f : n' ≡ n = count_once front n' n (subst (λ t. IsCount t n') e.0 r.from_line) h in
    let g : m' ≡ m = count_once back m' m (subst (λ t. IsCount t m') e.1 r.to_line) k in
    absurd (omega (arith, r.in_order))

-- the two kinds of cites
pub record IsLineCite (text : List ℕ) (c : Cite) : Type 0 where
  pub number : ℕ
  pub is : c ≡ line_cite number
  pub counts : IsCount text number

pub record IsSubproofCite (text : List ℕ) (c : Cite) : Type 0 where
  pub from_line : ℕ
  pub to_line : ℕ
  pub is : c ≡ subproof_cite from_line to_line
  pub ranges : IsRange text from_line to_line

pub kinds : (text : List ℕ) (c : Cite) → IsCite text c → IsLineCite text c ⊎ IsSubproofCite text c
kinds _ _ (line text n h) = inl (record { number = n; is = refl; counts = h })
kinds _ _ (subproof text n m h) = inr (record { from_line = n; to_line = m; is = refl; ranges = h })

same_kinds : (text : List ℕ) (c d : Cite) → IsLineCite text c ⊎ IsSubproofCite text c → IsLineCite text d ⊎ IsSubproofCite text d → c ≡ d
same_kinds text c d (inl h) (inl k) = h.is ∙ ap line_cite (count_once text h.number k.number h.counts k.counts) ∙ sym k.is
same_kinds text c d (inl h) (inr k) = absurd (no_range_uncut text k.from_line k.to_line (count_lacks_hyphen text h.number h.counts) k.ranges)
same_kinds text c d (inr h) (inl k) = absurd (no_range_uncut text h.from_line h.to_line (count_lacks_hyphen text k.number k.counts) h.ranges)
same_kinds text c d (inr h) (inr k) =
    let s : AreSame h.from_line h.to_line k.from_line k.to_line = range_once text h.from_line h.to_line k.from_line k.to_line h.ranges k.ranges in
    h.is ∙ ap₂ subproof_cite s.first s.last ∙ sym k.is

pub cite_once : (text : List ℕ) (c d : Cite) → IsCite text c → IsCite text d → c ≡ d
cite_once text c d h k = same_kinds text c d (kinds text c h) (kinds text d k)

none_of : (text : List ℕ) → ((n : ℕ) → IsCount text n → ⊥) → ((c : Cite) → IsRange text c.first c.last × (c ≡ subproof_cite c.first c.last) → ⊥) → (c : Cite) → IsLineCite text c ⊎ IsSubproofCite text c → ⊥
none_of text no_count no_range c (inl h) = no_count h.number h.counts
none_of text no_count no_range c (inr h) = no_range (subproof_cite h.from_line h.to_line) (h.ranges, refl)

pub found_range : (text : List ℕ) (r : Option Cite) → ((n : ℕ) → IsCount text n → ⊥) → Finds (λ (c : Cite). IsRange text c.first c.last × (c ≡ subproof_cite c.first c.last)) r → Finds (IsCite text) r
found_range text (Some c) none h = subst (IsCite text) (sym h.1) (subproof text c.first c.last h.0)
found_range text None none h = λ c k. none_of text none h c (kinds text c k)

-- the loop over the parts between commas
abbrev pub at_commas : List ℕ → List (List ℕ)
at_commas text = slice_split (λ b. eqb b 44) text

abbrev pub Citing : List ℕ → List (List ℕ) → List Cite → Type 0
Citing text left old = Resumes IsPart (at_commas text) left old

taken : (text part : List ℕ) (left : List (List ℕ)) (old new : List Cite) → Citing text (part ∷ left) old → TakesCite part old new true → Citing text left new
taken text part left old new h t =
    subst (Citing text left) (sym t.1) (resumes_step IsPart (at_commas text) left old part t.0 h t.2 (λ m k. cite_once (trimmed part) m t.0 k t.2))

refused : (text part : List ℕ) (left : List (List ℕ)) (old new : List Cite) → Citing text (part ∷ left) old → TakesCite part old new false → (ks : List Cite) → AreCites text ks → ⊥
refused text part left old new h (inl none) ks k = resumes_none IsPart (at_commas text) left old part h none ks k.each
refused text part left old new h (inr full) ks k = let more : length old < length ks = resumes_more IsPart (at_commas text) left old part h ks k.each in absurd (omega (arith, k.few))

pub taken_at : (text rest part after : List ℕ) (old new : List Cite) → Citing text (at_commas rest) old → IsCut 44 rest part after → TakesCite part old new true → Citing text (at_commas after) new
taken_at text rest part after old new h c t = taken text part (at_commas after) old new (subst (λ l. Citing text l old) (split_cut 44 rest part after c) h) t

pub refused_at : (text rest part after : List ℕ) (old new : List Cite) → Citing text (at_commas rest) old → IsCut 44 rest part after → TakesCite part old new false → (ks : List Cite) → AreCites text ks → ⊥
refused_at text rest part after old new h c t = refused text part (at_commas after) old new (subst (λ l. Citing text l old) (split_cut 44 rest part after c) h) t

pub taken_last : (text rest : List ℕ) (old new : List Cite) → Citing text (at_commas rest) old → Lacks 44 rest → TakesCite rest old new true → AreCites text new
taken_last text rest old new h l t = record {
  each = resumes_end IsPart (at_commas text) new (taken text rest [] old new (subst (λ x. Citing text x old) (split_lacks 44 rest l) h) t);
  few = t.3;
}

pub refused_last : (text rest : List ℕ) (old new : List Cite) → Citing text (at_commas rest) old → Lacks 44 rest → TakesCite rest old new false → (ks : List Cite) → AreCites text ks → ⊥
refused_last text rest old new h l t = refused text rest [] old new (subst (λ x. Citing text x old) (split_lacks 44 rest l) h) t

pub cites_once : (text : List ℕ) (cs ds : List Cite) → AreCites text cs → AreCites text ds → cs ≡ ds
cites_once text cs ds h k = beside_once IsPart (λ t. cite_once (trimmed t)) (at_commas text) cs ds h.each k.each
