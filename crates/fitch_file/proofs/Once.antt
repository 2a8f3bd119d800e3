-- A text is one proof at most, has one first fault at most, and not both.
use Rattle.std.proofs.Common.{◌≡◌, ℕ, ◌+◌, ◌<◌, List, [], ◌∷◌, ◌++◌, length, refl, sym, ap, ap₂, subst, ◌∙◌, Option, Some, None, inl, inr}
use Rattle.std.specs.Prelude.{◌⊎◌}
use Rattle.std.specs.Str.Lines.{lines}
use Rattle.fol_core.specs.declared.sent.Sent.{Sent}
use Rattle.fol_text.specs.Readable.{SpellsText, IsReadable, most_pending}
use Rattle.fol_text.specs.Refusals.{IsRefused}
use Rattle.fol_text.specs.declared.fault.ReadFault.{ReadFault}
use Rattle.deriv_laws.specs.declared.line.Cite.{Cite}
use Rattle.deriv_laws.specs.declared.line.FlatLine.{FlatLine}
use Rattle.nested_proofs.specs.Limits.{DepthFits, depth_after}
use Rattle.physical_lines.specs.Physical.{IsBlankLine}
use Rattle.fitch_file.specs.Headers.{proof_header}
use Rattle.fitch_file.specs.Numbering.{IsNumbered, IsDepth, bars, after_bars}
use Rattle.fitch_file.specs.Claim.{Claim, IsClaim}
use Rattle.fitch_file.specs.Cites.{AreCited}
use Rattle.fitch_file.specs.Line.{IsStated, IsClaimed, IsLine}
use Rattle.fitch_file.specs.LineFaults.{Fails, FailsUnless, IsRefusedSentence, SentenceFails, NestingFails, ClaimFails, BarsFail, NumberFails, LineFails}
use Rattle.fitch_file.specs.ProofText.{SpellLines, SpellsProof}
use Rattle.fitch_file.specs.ProofFaults.{LinesFail, fails_here, past_blank, past_line, IsFirstFault, no_header, no_line}
use Rattle.fitch_file.specs.declared.fault.TextFault.{TextFault}
use Rattle.fitch_file.specs.declared.fault.TextFault.TheVariants as fault
use Rattle.fitch_file.proofs.Stating.{cited_once, same_line}
use Rattle.fitch_file.proofs.Claiming.{claim_once}
use Rattle.fitch_file.proofs.Lining.{body_once, line_of_claim, blank_is_no_line}
use Rattle.fitch_file.proofs.Going.{first_line}
use Rattle.physical_lines.proofs.Heading.{IsSameHeader, headed_once, lacks_not_headed, lacks_once}
use Rattle.fitch_file.proofs.Heading.{spelled_behind, spelled_not_lacking}

-- the laws of sentences
pub record SentenceLaws : Type 0 where
  pub spelled : (text : List ℕ) (s t : Sent) → SpellsText text s → SpellsText text t → s ≡ t
  pub refused : (text : List ℕ) (f g : ReadFault) → IsRefused text f → IsRefused text g → f ≡ g
  pub apart : (text : List ℕ) (s : Sent) (f : ReadFault) → IsReadable text s → IsRefused text f → ⊥

spells : (text : List ℕ) (s : Sent) → IsReadable text s → SpellsText text s
spells text s h = record { tokens = h.tokens; are_tokens = h.are_tokens; room = most_pending; spells = h.spells }

pub readable_once : SentenceLaws → (text : List ℕ) (s t : Sent) → IsReadable text s → IsReadable text t → s ≡ t
readable_once laws text s t h k = laws.spelled text s t (spells text s h) (spells text t k)

stated_once : SentenceLaws → (text : List ℕ) (s t : Option Sent) → IsStated text s → IsStated text t → s ≡ t
stated_once laws text None None h k = refl
stated_once laws text None (Some t) h k = absurd (k.0 h)
stated_once laws text (Some s) None h k = absurd (h.0 k)
stated_once laws text (Some s) (Some t) h k = ap Some (readable_once laws text s t h.1 k.1)

refused_not_stated : SentenceLaws → (text : List ℕ) (s : Option Sent) (f : ReadFault) → IsStated text s → IsRefusedSentence text f → ⊥
refused_not_stated laws text None f h k = k.there h
refused_not_stated laws text (Some s) f h k = laws.apart text s f h.1 k.refused

claimed_once : SentenceLaws → (depth : ℕ) (claim : Claim) (l m : FlatLine) → IsClaimed depth claim l → IsClaimed depth claim m → l ≡ m
claimed_once laws depth claim l m h k =
    same_line l m (h.deep ∙ sym k.deep) (h.boxes ∙ sym k.boxes) (stated_once laws claim.stated l.sentence m.sentence h.stated k.stated) (h.rules ∙ sym k.rules)
    (cited_once claim.rule claim.cites l.cites m.cites h.cited k.cited)

pub line_once : SentenceLaws → (earlier : List FlatLine) (text : List ℕ) (l m : FlatLine) → IsLine earlier text l → IsLine earlier text m → l ≡ m
line_once laws earlier text l m h k = claimed_once laws (bars h.body) h.claim l m h.claimed (line_of_claim earlier text h.body h.claim m h.numbered h.claims k).claimed

-- one test and the tests after it
unless_once : (P : Type 0) (x f g : TextFault) (Later : TextFault → Type 0) → (Later f → Later g → f ≡ g) → FailsUnless P x Later f → FailsUnless P x Later g → f ≡ g
unless_once P x f g Later once (inl h) (inl k) = h.1 ∙ sym k.1
unless_once P x f g Later once (inl h) (inr k) = absurd (h.0 k.0)
unless_once P x f g Later once (inr h) (inl k) = absurd (k.0 h.0)
unless_once P x f g Later once (inr h) (inr k) = once h.1 k.1

unless_not : (P : Type 0) (x f : TextFault) (Later : TextFault → Type 0) → P → (Later f → ⊥) → FailsUnless P x Later f → ⊥
unless_not P x f Later p none (inl h) = h.0 p
unless_not P x f Later p none (inr h) = none h.1

fails_once : {X : Type 0} (Passes : X → Type 0) (x f g : TextFault) (Later : X → TextFault → Type 0) → ((y z : X) → Passes y → Passes z → y ≡ z) → ((y : X) → Later y f → Later y g → f ≡ g) →
    Fails Passes x Later f → Fails Passes x Later g → f ≡ g
fails_once Passes x f g Later only once (inl h) (inl k) = h.1 ∙ sym k.1
fails_once Passes x f g Later only once (inl h) (inr k) = absurd (h.0 k.0 k.1)
fails_once Passes x f g Later only once (inr h) (inl k) = absurd (k.0 h.0 h.1)
fails_once Passes x f g Later only once (inr h) (inr k) = once h.0 h.2 (subst (λ y. Later y g) (only k.0 h.0 k.1 h.1) k.2)

fails_not : {X : Type 0} (Passes : X → Type 0) (x f : TextFault) (Later : X → TextFault → Type 0) (y : X) → ((u v : X) → Passes u → Passes v → u ≡ v) → Passes y → (Later y f → ⊥) → Fails Passes x Later f → ⊥
fails_not Passes x f Later y only p none (inl h) = h.0 y p
fails_not Passes x f Later y only p none (inr h) = none (subst (λ u. Later u f) (only h.0 y h.1 p) h.2)

sentence_once : SentenceLaws → (claim : Claim) (f g : TextFault) → SentenceFails claim f → SentenceFails claim g → f ≡ g
sentence_once laws claim f g (inl h) (inl k) = h.1 ∙ ap fault.Sentence (laws.refused claim.stated h.0 k.0 h.2.refused k.2.refused) ∙ sym k.1
sentence_once laws claim f g (inl h) (inr k) = absurd (refused_not_stated laws claim.stated k.0 h.0 k.1 h.2)
sentence_once laws claim f g (inr h) (inl k) = absurd (refused_not_stated laws claim.stated h.0 k.0 h.1 k.2)
sentence_once laws claim f g (inr h) (inr k) =
    fails_once (AreCited claim.rule claim.cites) fault.Cite f g (λ cites first. ⊥) (cited_once claim.rule claim.cites) (λ y a b. absurd a) h.2 k.2

pub fault_once : SentenceLaws → (earlier : List FlatLine) (text : List ℕ) (f g : TextFault) → LineFails earlier text f → LineFails earlier text g → f ≡ g
fault_once laws earlier text f g =
    let n : ℕ = length earlier + 1 in
    let k : ℕ = depth_after 1 earlier in
    unless_once (length earlier < 2000) fault.TooManyLines f g (NumberFails n k text)
    (fails_once (IsNumbered n text) fault.Number f g (BarsFail k) (body_once n text)
    (λ body. unless_once (IsDepth (bars body)) fault.Depth f g (ClaimFails k body)
    (fails_once (IsClaim (after_bars body)) fault.RuleName f g (NestingFails k (bars body)) (claim_once (after_bars body))
    (λ claim. unless_once (DepthFits k claim.rule (bars body)) fault.Depth f g (SentenceFails claim) (sentence_once laws claim f g)))))

sentence_not : SentenceLaws → (claim : Claim) (s : Option Sent) (cites : List Cite) (f : TextFault) → IsStated claim.stated s → AreCited claim.rule claim.cites cites → SentenceFails claim f → ⊥
sentence_not laws claim s cites f h k (inl x) = refused_not_stated laws claim.stated s x.0 h x.2
sentence_not laws claim s cites f h k (inr x) = fails_not (AreCited claim.rule claim.cites) fault.Cite f (λ y first. ⊥) cites (cited_once claim.rule claim.cites) k (λ y. y) x.2

pub line_fails_not : SentenceLaws → (earlier : List FlatLine) (text : List ℕ) (l : FlatLine) (f : TextFault) → IsLine earlier text l → LineFails earlier text f → ⊥
line_fails_not laws earlier text l f h =
    let n : ℕ = length earlier + 1 in
    let k : ℕ = depth_after 1 earlier in
    unless_not (length earlier < 2000) fault.TooManyLines f (NumberFails n k text) h.room
    (fails_not (IsNumbered n text) fault.Number f (BarsFail k) h.body (body_once n text) h.numbered
    (unless_not (IsDepth (bars h.body)) fault.Depth f (ClaimFails k h.body) h.depth
    (fails_not (IsClaim (after_bars h.body)) fault.RuleName f (NestingFails k (bars h.body)) h.claim (claim_once (after_bars h.body)) h.claims
    (unless_not (DepthFits k h.claim.rule (bars h.body)) fault.Depth f (SentenceFails h.claim) h.fits
    (sentence_not laws h.claim l.sentence l.cites f h.claimed.stated h.claimed.cited)))))

-- the physical lines
spelled_once : SentenceLaws → (earlier : List FlatLine) (texts : List (List ℕ)) (ls ms : List FlatLine) → SpellLines earlier texts ls → SpellLines earlier texts ms → ls ≡ ms
spelled_once laws earlier [] ls ms h k = first_line earlier [] ls h ∙ sym (first_line earlier [] ms k)
spelled_once laws earlier (text ∷ texts) ls ms h k =
    elim (first_line earlier (text ∷ texts) ls h) [
      | inl a ↦ elim (first_line earlier (text ∷ texts) ms k) [
        | inl b ↦ spelled_once laws earlier texts ls ms a.1 b.1
        | inr b ↦ absurd (blank_is_no_line earlier text b.line a.0 b.reads)
      ]
      | inr a ↦ elim (first_line earlier (text ∷ texts) ms k) [
        | inl b ↦ absurd (blank_is_no_line earlier text a.line b.0 a.reads)
        | inr b ↦
            let e : a.line ≡ b.line = line_once laws earlier text a.line b.line a.reads b.reads in
            let r : a.more ≡ b.more = spelled_once laws (earlier ++ a.line ∷ []) texts a.more b.more a.spell (subst (λ l. SpellLines (earlier ++ l ∷ []) texts b.more) (sym e) b.spell) in
            a.is ∙ ap₂ ◌∷◌ e r ∙ sym b.is
      ]
    ]

-- where the first physical line stands in a faulty text
pub record FailsHere (earlier : List FlatLine) (place : ℕ) (text : List ℕ) (n : ℕ) (f : TextFault) : Type 0 where
  pub number : n ≡ place
  pub written : IsBlankLine text → ⊥
  pub fails : LineFails earlier text f

pub record FailsBehind (earlier : List FlatLine) (place : ℕ) (text : List ℕ) (texts : List (List ℕ)) (n : ℕ) (f : TextFault) : Type 0 where
  pub line : FlatLine
  pub reads : IsLine earlier text line
  pub fails : LinesFail (earlier ++ line ∷ []) (place + 1) texts n f

abbrev pub WhereFails : List FlatLine → ℕ → List (List ℕ) → ℕ → TextFault → Type 0
WhereFails earlier place [] n f = ⊥
WhereFails earlier place (text ∷ texts) n f =
    FailsHere earlier place text n f ⊎ (IsBlankLine text × LinesFail earlier (place + 1) texts n f) ⊎ FailsBehind earlier place text texts n f

where_fails : (earlier : List FlatLine) (place : ℕ) (texts : List (List ℕ)) (n : ℕ) (f : TextFault) → LinesFail earlier place texts n f → WhereFails earlier place texts n f
where_fails _ _ _ _ _ (fails_here earlier place text texts f w h) = inl (record { number = refl; written = w; fails = h })
where_fails _ _ _ _ _ (past_blank earlier place text texts n f b h) = inr (inl (b, h))
where_fails _ _ _ _ _ (past_line earlier place text texts l n f r h) = inr (inr (record { line = l; reads = r; fails = h }))

pub record IsSameFault (n m : ℕ) (f g : TextFault) : Type 0 where
  pub number : n ≡ m
  pub is : f ≡ g

lines_fail_once : SentenceLaws → (earlier : List FlatLine) (place : ℕ) (texts : List (List ℕ)) (n m : ℕ) (f g : TextFault) → LinesFail earlier place texts n f → LinesFail earlier place texts m g → IsSameFault n m f g
lines_fail_once laws earlier place [] n m f g h k = absurd (where_fails earlier place [] n f h)
lines_fail_once laws earlier place (text ∷ texts) n m f g h k =
    elim (where_fails earlier place (text ∷ texts) n f h) [
      | inl a ↦ elim (where_fails earlier place (text ∷ texts) m g k) [
        | inl b ↦ record { number = a.number ∙ sym b.number; is = fault_once laws earlier text f g a.fails b.fails }
        | inr (inl b) ↦ absurd (a.written b.0)
        | inr (inr b) ↦ absurd (line_fails_not laws earlier text b.line f b.reads a.fails)
      ]
      | inr (inl a) ↦ elim (where_fails earlier place (text ∷ texts) m g k) [
        | inl b ↦ absurd (b.written a.0)
        | inr (inl b) ↦ lines_fail_once laws earlier (place + 1) texts n m f g a.1 b.1
        | inr (inr b) ↦ absurd (blank_is_no_line earlier text b.line a.0 b.reads)
      ]
      | inr (inr a) ↦ elim (where_fails earlier place (text ∷ texts) m g k) [
        | inl b ↦ absurd (line_fails_not laws earlier text a.line g a.reads b.fails)
        | inr (inl b) ↦ absurd (blank_is_no_line earlier text a.line b.0 a.reads)
        | inr (inr b) ↦
            let e : b.line ≡ a.line = line_once laws earlier text b.line a.line b.reads a.reads in
            lines_fail_once laws (earlier ++ a.line ∷ []) (place + 1) texts n m f g a.fails (subst (λ l. LinesFail (earlier ++ l ∷ []) (place + 1) texts m g) e b.fails)
      ]
    ]

spelled_not_failing : SentenceLaws → (earlier : List FlatLine) (place : ℕ) (texts : List (List ℕ)) (ls : List FlatLine) (n : ℕ) (f : TextFault) → SpellLines earlier texts ls → LinesFail earlier place texts n f → ⊥
spelled_not_failing laws earlier place [] ls n f h k = where_fails earlier place [] n f k
spelled_not_failing laws earlier place (text ∷ texts) ls n f h k =
    elim (first_line earlier (text ∷ texts) ls h) [
      | inl a ↦ elim (where_fails earlier place (text ∷ texts) n f k) [
        | inl b ↦ b.written a.0
        | inr (inl b) ↦ spelled_not_failing laws earlier (place + 1) texts ls n f a.1 b.1
        | inr (inr b) ↦ blank_is_no_line earlier text b.line a.0 b.reads
      ]
      | inr a ↦ elim (where_fails earlier place (text ∷ texts) n f k) [
        | inl b ↦ line_fails_not laws earlier text a.line f a.reads b.fails
        | inr (inl b) ↦ blank_is_no_line earlier text a.line b.0 a.reads
        | inr (inr b) ↦
            let e : b.line ≡ a.line = line_once laws earlier text b.line a.line b.reads a.reads in
            spelled_not_failing laws (earlier ++ a.line ∷ []) (place + 1) texts a.more n f a.spell (subst (λ l. LinesFail (earlier ++ l ∷ []) (place + 1) texts n f) e b.fails)
      ]
    ]

-- the whole text
pub proof_once : SentenceLaws → (text : List ℕ) (ls ms : List FlatLine) → SpellsProof text ls → SpellsProof text ms → ls ≡ ms
proof_once laws text ls ms h k = spelled_once laws [] h.rest ls ms h.spell (spelled_behind text h.place h.rest ms h.headed k)

pub first_fault_once : SentenceLaws → {text : List ℕ} {n : ℕ} {f : TextFault} → IsFirstFault text n f → (m : ℕ) (g : TextFault) → IsFirstFault text m g → IsSameFault n m f g
first_fault_once laws (no_header text n l) m g (no_header _ _ k) = record { number = lacks_once proof_header (lines text) n m l k; is = refl }
first_fault_once laws (no_header text n l) m g (no_line _ place rest _ _ h k) = absurd (lacks_not_headed proof_header (lines text) n place rest l h)
first_fault_once laws (no_line text place rest n f h k) m g (no_header _ _ l) = absurd (lacks_not_headed proof_header (lines text) m place rest l h)
first_fault_once laws (no_line text place rest n f h k) m g (no_line _ place' rest' _ _ h' k') =
    let s : IsSameHeader place' place rest' rest = headed_once proof_header (lines text) place' place rest' rest h' h in
    lines_fail_once laws [] (place + 1) rest n m f g k (subst (λ p. LinesFail [] (p + 1) rest m g) s.number (subst (λ ts. LinesFail [] (place' + 1) ts m g) s.rest_is k'))

pub proof_not_faulty : SentenceLaws → {text : List ℕ} {n : ℕ} {f : TextFault} → IsFirstFault text n f → (ls : List FlatLine) → SpellsProof text ls → ⊥
proof_not_faulty laws (no_header text n l) ls s = spelled_not_lacking text n ls l s
proof_not_faulty laws (no_line text place rest n f h k) ls s = spelled_not_failing laws [] (place + 1) rest ls n f (spelled_behind text place rest ls h s) k
