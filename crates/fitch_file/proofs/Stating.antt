-- What a line states and cites is one thing at most, and it is read.
use Rattle.std.proofs.Common.{◌≡◌, ◌≢◌, ℕ, List, [], sym, ap, ◌∙◌, Option, Some, None, Result, Ok, Err, inl, inr}
use Rattle.std.specs.Prelude.{◌⊎◌}
use Rattle.fol_core.specs.Word.{Word}
use Rattle.fol_core.specs.declared.sent.Sent.{Sent}
use Rattle.fol_text.specs.Readable.{IsReadable}
use Rattle.fol_text.specs.declared.fault.ReadFault.{ReadFault}
use Rattle.fol_text.specs.declared.fault.ReadFault.TheVariants as read_fault
use Rattle.deriv_laws.specs.declared.line.Cite.{Cite}
use Rattle.deriv_laws.specs.declared.line.FlatLine.{FlatLine}
use Rattle.deriv_laws.specs.declared.rule.Rule.{Rule}
use Rattle.fitch_file.specs.Cites.{AreCited}
use Rattle.fitch_file.specs.Claim.{Claim}
use Rattle.fitch_file.specs.Line.{IsStated, IsClaimed}
use Rattle.fitch_file.specs.Readers.{sentence_fault}
use Rattle.fitch_file.specs.declared.fault.TextFault.{TextFault}
use Rattle.fitch_file.specs.declared.fault.TextFault.TheVariants.{Memory}
use Rattle.fitch_file.proofs.Citing.{cites_once}

-- The answer is this value, or want of memory.
abbrev pub Answers : {X : Type 0} → Result X TextFault → X → Type 0
Answers r x = (r ≡ Ok x) ⊎ (r ≡ Err Memory)

-- What a text spells is what was read of it, or memory was refused.
abbrev pub ReadsExactly : List ℕ → Result Sent ReadFault → Type 0
ReadsExactly text r = (s : Sent) → IsReadable text s → (r ≡ Ok s) ⊎ (r ≡ Err read_fault.Memory)

pub stated_found : (text : List ℕ) (r : Result Sent ReadFault) (s : Sent) → text ≢ [] → r ≡ Ok s → ReadsExactly text r → (o : Option Sent) → IsStated text o → Answers (Ok (Some s)) o
stated_found text r s some e exact None h = absurd (some h)
stated_found text r s some e exact (Some t) h =
    elim (exact t h.1) [
      | inl f ↦ let g : s ≡ t = cc in inl (ap (λ (x : Sent). let y : Result (Option Sent) TextFault = Ok (Some x) in y) g)
      | inr f ↦ absurd (cc)
    ]

pub stated_refused : (text : List ℕ) (r : Result Sent ReadFault) (why : ReadFault) (fault : TextFault) → text ≢ [] → r ≡ Err why → fault ≡ sentence_fault why → ReadsExactly text r →
    (o : Option Sent) → IsStated text o → Answers (Err fault) o
stated_refused text r why fault some e f exact None h = absurd (some h)
stated_refused text r why fault some e f exact (Some t) h =
    elim (exact t h.1) [
      | inl g ↦ absurd (cc)
      | inr g ↦
          let w : why ≡ read_fault.Memory = cc in
          inr (ap (λ (x : TextFault). let y : Result (Option Sent) TextFault = Err x in y) (f ∙ ap sentence_fault w))
    ]

pub cited_once : (rule : Rule) (text : Option (List ℕ)) (cs ds : List Cite) → AreCited rule text cs → AreCited rule text ds → cs ≡ ds
cited_once rule None cs ds h k = h ∙ sym k
cited_once rule (Some text) cs ds h k = cites_once text cs ds h.1 k.1

pub same_line : (l m : FlatLine) → l.depth ≡ m.depth → l.boxed ≡ m.boxed → l.sentence ≡ m.sentence → l.rule ≡ m.rule → l.cites ≡ m.cites → l ≡ m
same_line l m d b s r k =
    ap (λ (x : ℕ). let y : FlatLine = record { depth = x; boxed = l.boxed; sentence = l.sentence; rule = l.rule; cites = l.cites } in y) d
    ∙ ap (λ (x : Option Word). let y : FlatLine = record { depth = m.depth; boxed = x; sentence = l.sentence; rule = l.rule; cites = l.cites } in y) b
    ∙ ap (λ (x : Option Sent). let y : FlatLine = record { depth = m.depth; boxed = m.boxed; sentence = x; rule = l.rule; cites = l.cites } in y) s
    ∙ ap (λ (x : Rule). let y : FlatLine = record { depth = m.depth; boxed = m.boxed; sentence = m.sentence; rule = x; cites = l.cites } in y) r
    ∙ ap (λ (x : List Cite). let y : FlatLine = record { depth = m.depth; boxed = m.boxed; sentence = m.sentence; rule = m.rule; cites = x } in y) k

pub claimed_found : (depth : ℕ) (claim : Claim) (m l : FlatLine) (r : Result (Option Sent) TextFault) → r ≡ Ok m.sentence → ((o : Option Sent) → IsStated claim.stated o → Answers r o) →
    m.depth ≡ depth → m.boxed ≡ claim.boxed → m.rule ≡ claim.rule → AreCited claim.rule claim.cites m.cites → IsClaimed depth claim l → Answers (Ok m) l
claimed_found depth claim m l r e exact d b p k h =
    elim (exact l.sentence h.stated) [
      | inl f ↦
          let s : m.sentence ≡ l.sentence = cc in
          let same : m ≡ l = same_line m l (d ∙ sym h.deep) (b ∙ sym h.boxes) s (p ∙ sym h.rules) (cited_once claim.rule claim.cites m.cites l.cites k h.cited) in
          inl (ap (λ (x : FlatLine). let y : Result FlatLine TextFault = Ok x in y) same)
      | inr f ↦ absurd (cc)
    ]
