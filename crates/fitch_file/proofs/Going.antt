-- Reading the physical lines of a proof one by one.
use Rattle.std.proofs.Common.{◌≡◌, ℕ, ◌+◌, List, [], ◌∷◌, ◌++◌, refl, sym, ap, subst, ◌∙◌, append_assoc, append-nil, Result, Ok, Err, inl, inr, IfErr}
use Rattle.std.specs.Prelude.{◌⊎◌, IsErrAnd}
use Rattle.deriv_laws.specs.declared.line.FlatLine.{FlatLine}
use Rattle.physical_lines.specs.Physical.{IsBlankLine}
use Rattle.fitch_file.specs.Line.{IsLine}
use Rattle.fitch_file.specs.LineFaults.{LineFails}
use Rattle.fitch_file.specs.ProofText.{SpellLines, no_more, blank_line, proof_line}
use Rattle.fitch_file.specs.ProofFaults.{LinesFail, fails_here, past_blank, past_line}
use Rattle.fitch_file.specs.Readers.{PutsLine}
use Rattle.fitch_file.specs.declared.fault.TextFault.{TextFault}
use Rattle.fitch_file.specs.declared.fault.TextFault.TheVariants.{Memory}
use Rattle.fitch_file.proofs.Stating.{Answers}
use Rattle.fitch_file.proofs.Lining.{blank_is_no_line}

-- how the first physical line goes
pub record AddsLine (earlier : List FlatLine) (text : List ℕ) (texts : List (List ℕ)) (ls : List FlatLine) : Type 0 where
  pub line : FlatLine
  pub more : List FlatLine
  pub is : ls ≡ line ∷ more
  pub reads : IsLine earlier text line
  pub spell : SpellLines (earlier ++ line ∷ []) texts more

abbrev pub FirstLine : List FlatLine → List (List ℕ) → List FlatLine → Type 0
FirstLine earlier [] ls = ls ≡ []
FirstLine earlier (text ∷ texts) ls = (IsBlankLine text × SpellLines earlier texts ls) ⊎ AddsLine earlier text texts ls

pub first_line : (earlier : List FlatLine) (texts : List (List ℕ)) (ls : List FlatLine) → SpellLines earlier texts ls → FirstLine earlier texts ls
first_line _ _ _ (no_more earlier) = refl
first_line _ _ _ (blank_line earlier text texts ls b h) = inl (b, h)
first_line _ _ _ (proof_line earlier text texts l ls r h) = inr (record { line = l; more = ls; is = refl; reads = r; spell = h })

-- what is left to spell, after the lines so far
pub record Left (done : List FlatLine) (left : List (List ℕ)) (zs : List FlatLine) : Type 0 where
  pub more : List FlatLine
  pub are : zs ≡ done ++ more
  pub spell : SpellLines done left more

-- The first physical line of the whole is `start`. The first of what is left is `place`, and the lines so far are done.
pub record Going (start : ℕ) (whole : List (List ℕ)) (place : ℕ) (left : List (List ℕ)) (done : List FlatLine) : Type 0 where
  pub on : (ls : List FlatLine) → SpellLines done left ls → SpellLines [] whole (done ++ ls)
  pub back : (zs : List FlatLine) → SpellLines [] whole zs → Left done left zs
  pub fails : (n : ℕ) (fault : TextFault) → LinesFail done place left n fault → LinesFail [] start whole n fault

pub going_start : (start : ℕ) (whole : List (List ℕ)) → Going start whole start whole []
going_start start whole = record {
  on = λ ls h. h;
  back = λ zs h. record { more = zs; are = refl; spell = h };
  fails = λ n fault h. h;
}

after_blank : (done : List FlatLine) (text : List ℕ) (left : List (List ℕ)) (zs : List FlatLine) → IsBlankLine text → Left done (text ∷ left) zs → Left done left zs
after_blank done text left zs b l =
    elim (first_line done (text ∷ left) l.more l.spell) [
      | inl h ↦ record { more = l.more; are = l.are; spell = h.1 }
      | inr h ↦ absurd (blank_is_no_line done text h.line b h.reads)
    ]

going_blank : (start : ℕ) (whole : List (List ℕ)) (place : ℕ) (text : List ℕ) (left : List (List ℕ)) (done : List FlatLine) → Going start whole place (text ∷ left) done → IsBlankLine text →
    Going start whole (place + 1) left done
going_blank start whole place text left done g b = record {
  on = λ ls h. g.on ls (blank_line done text left ls b h);
  back = λ zs h. after_blank done text left zs b (g.back zs h);
  fails = λ n fault h. g.fails n fault (past_blank done place text left n fault b h);
}

after_line : (done : List FlatLine) (text : List ℕ) (left : List (List ℕ)) (l : FlatLine) (zs : List FlatLine) → IsLine done text l → ((m : FlatLine) → IsLine done text m → done ++ l ∷ [] ≡ done ++ m ∷ []) →
    Left done (text ∷ left) zs → Left (done ++ l ∷ []) left zs
after_line done text left l zs r only x =
    elim (first_line done (text ∷ left) x.more x.spell) [
      | inl h ↦ absurd (blank_is_no_line done text l h.0 r)
      | inr h ↦ record {
        more = h.more;
        are = x.are ∙ ap (λ ys. done ++ ys) h.is ∙ sym (append_assoc done (h.line ∷ []) h.more) ∙ ap (λ ys. ys ++ h.more) (sym (only h.line h.reads));
        spell = subst (λ ys. SpellLines ys left h.more) (sym (only h.line h.reads)) h.spell;
      }
    ]

going_line : (start : ℕ) (whole : List (List ℕ)) (place : ℕ) (text : List ℕ) (left : List (List ℕ)) (done : List FlatLine) (l : FlatLine) → Going start whole place (text ∷ left) done →
    IsLine done text l → ((m : FlatLine) → IsLine done text m → done ++ l ∷ [] ≡ done ++ m ∷ []) → Going start whole (place + 1) left (done ++ l ∷ [])
going_line start whole place text left done l g r only = record {
  on = λ ls h. subst (λ ys. SpellLines [] whole ys) (sym (append_assoc done (l ∷ []) ls)) (g.on (l ∷ ls) (proof_line done text left l ls r h));
  back = λ zs h. after_line done text left l zs r only (g.back zs h);
  fails = λ n fault h. g.fails n fault (past_line done place text left l n fault r h);
}

pub going_puts : (start : ℕ) (whole : List (List ℕ)) (place : ℕ) (text : List ℕ) (left : List (List ℕ)) (old new : List FlatLine) → Going start whole place (text ∷ left) old → PutsLine text old new →
    ((m : FlatLine) → IsLine old text m → new ≡ old ++ m ∷ []) → Going start whole (place + 1) left new
going_puts start whole place text left old new g (inl (b, e)) only = subst (Going start whole (place + 1) left) (sym e) (going_blank start whole place text left old g b)
going_puts start whole place text left old new g (inr (l, r, e)) only =
    subst (Going start whole (place + 1) left) (sym e) (going_line start whole place text left old l g r (λ m h. sym e ∙ only m h))

-- at the end
pub spelled_all : (start : ℕ) (whole : List (List ℕ)) (place : ℕ) (done : List FlatLine) → Going start whole place [] done → SpellLines [] whole done
spelled_all start whole place done g = subst (λ ys. SpellLines [] whole ys) (append-nil done) (g.on [] (no_more done))

pub is_all : (start : ℕ) (whole : List (List ℕ)) (place : ℕ) (done zs : List FlatLine) → Going start whole place [] done → SpellLines [] whole zs → done ≡ zs
is_all start whole place done zs g h =
    let l : Left done [] zs = g.back zs h in
    let e : l.more ≡ [] = first_line done [] l.more l.spell in
    sym (l.are ∙ ap (λ ys. done ++ ys) e ∙ append-nil done)

-- where a line is refused
pub fails_at : (start : ℕ) (whole : List (List ℕ)) (place : ℕ) (text : List ℕ) (left : List (List ℕ)) (done : List FlatLine) (fault : TextFault) → Going start whole place (text ∷ left) done →
    (fault ≡ Memory) ⊎ ((IsBlankLine text → ⊥) × LineFails done text fault) → (fault ≡ Memory) ⊎ LinesFail [] start whole place fault
fails_at start whole place text left done fault g (inl m) = inl m
fails_at start whole place text left done fault g (inr f) = inr (g.fails place fault (fails_here done place text left fault f.0 f.1))

blank_memory : (done : List FlatLine) (text : List ℕ) (fault : TextFault) → (fault ≡ Memory) ⊎ ((IsBlankLine text → ⊥) × LineFails done text fault) → IsBlankLine text → fault ≡ Memory
blank_memory done text fault (inl m) b = m
blank_memory done text fault (inr f) b = absurd (f.0 b)

pub memory_at : (start : ℕ) (whole : List (List ℕ)) (place : ℕ) (text : List ℕ) (left : List (List ℕ)) (done : List FlatLine) (fault : TextFault) → Going start whole place (text ∷ left) done →
    (fault ≡ Memory) ⊎ ((IsBlankLine text → ⊥) × LineFails done text fault) → ((l : FlatLine) → IsLine done text l → fault ≡ Memory) → (zs : List FlatLine) → SpellLines [] whole zs → fault ≡ Memory
memory_at start whole place text left done fault g f only zs h =
    let l : Left done (text ∷ left) zs = g.back zs h in
    elim (first_line done (text ∷ left) l.more l.spell) [ inl b ↦ blank_memory done text fault f b.0 | inr a ↦ only a.line a.reads ]

pub no_line : (earlier : List FlatLine) (text : List ℕ) (r : Result FlatLine TextFault) (e : TextFault) (x : Result Unit TextFault) → r ≡ Err e → IsErrAnd x (λ f. f ≡ e) →
    ((l : FlatLine) → IsLine earlier text l → Answers r l) → IfErr x (λ f. (l : FlatLine) → IsLine earlier text l → f ≡ Memory)
no_line earlier text r e (Ok u) was is exact = tt
no_line earlier text r e (Err f) was is exact = λ l h. elim (exact l h) [ inl g ↦ absurd (cc) | inr g ↦ cc ]
