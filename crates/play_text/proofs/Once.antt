-- A text is one play at most, or it has one first fault.
use Rattle.std.proofs.Common.{◌≡◌, ℕ, ◌+◌, Bool, List, sym, ap, subst, ◌∙◌, Option, Some, None, Result, Ok, Err, inl, inr}
use Rattle.std.specs.Prelude.{◌⊎◌, IfOk, IfErr, IsErrAnd}
use Rattle.fol_core.specs.declared.sent.Sent.{Sent}
use Rattle.physical_lines.specs.Physical.{IsHeader}
use Rattle.worlds.specs.declared.block.Block.{Block}
use Rattle.world_text.specs.declared.reading.WorldFault.{WorldFault}
use Rattle.world_text.specs.declared.reading.WorldFault.TheVariants as world_faults
use Rattle.world_text.specs.WorldText.{world_fault}
use Rattle.play_text.specs.declared.play.Play.{Play}
use Rattle.play_text.specs.declared.play.PlayFault.{PlayFault}
use Rattle.play_text.specs.declared.play.PlayFault.TheVariants.{Header, Form, Sentence, World, Memory}
use Rattle.play_text.specs.PlayLines.{play_header, IsSentenceLine, IsCommitLine, IsChoicesLine}
use Rattle.play_text.specs.PlayText.{Next, IsWorldText, SpellsBehind, SpellsPlay}
use Rattle.play_text.specs.PlayFaults.{HeaderFails, SentenceFails, CommitFails, ChoicesFails, SaysSentence, SaysCommit, SaysChoices, FailsFrom, WorldFails, FailsBehind, IsFirstPlayFault}
use Rattle.play_text.specs.Laws.{OnePlay, IsSameFault, OneFault, NeverBoth}
use Rattle.play_text.proofs.Leading.{IsSameLead, leads_once, blank_leads_none}
use Rattle.play_text.proofs.Saying.{sentence_once, sentence_apart, sentence_fault_once, commit_once, choices_once}
use Rattle.play_text.proofs.Worlds.{pair_once, world_plain}

-- two readings of the same next line
record Together (Is Is' : List ℕ → Type 0) (Then Then' : ℕ → List ℕ → Type 0) : Type 0 where
  pub number : ℕ
  pub line : List ℕ
  pub behind : List ℕ
  pub is : Is line
  pub is' : Is' line
  pub on : Then number behind
  pub on' : Then' number behind

together : (Is Is' : List ℕ → Type 0) (Then Then' : ℕ → List ℕ → Type 0) (place : ℕ) (text : List ℕ) → Next Is Then place text → Next Is' Then' place text → Together Is Is' Then Then'
together Is Is' Then Then' place text a b =
    let s : IsSameLead a.number b.number a.line b.line a.behind b.behind = leads_once a.leads b.number b.line b.behind b.leads in
    record {
      number = a.number;
      line = a.line;
      behind = a.behind;
      is = a.is;
      is' = subst Is' (sym s.is) b.is;
      on = a.on;
      on' = subst (λ k. Then' k a.behind) (sym s.number) (subst (λ t. Then' b.number t) (sym s.rest_is) b.on);
    }

same_play : (s t : Sent) (b c : Bool) (ns ms : List ℕ) (w v : List Block) → s ≡ t → b ≡ c → ns ≡ ms → w ≡ v →
    (let p : Play = record { sentence = s; commitment = b; choices = ns; world = w } in p) ≡ (let p : Play = record { sentence = t; commitment = c; choices = ms; world = v } in p)
same_play s t b c ns ms w v e f g h =
    ap (λ (x : Sent). let p : Play = record { sentence = x; commitment = b; choices = ns; world = w } in p) e
    ∙ ap (λ (x : Bool). let p : Play = record { sentence = t; commitment = x; choices = ns; world = w } in p) f
    ∙ ap (λ (x : List ℕ). let p : Play = record { sentence = t; commitment = c; choices = x; world = w } in p) g
    ∙ ap (λ (x : List Block). let p : Play = record { sentence = t; commitment = c; choices = ms; world = x } in p) h

same_world : (w v : List Block) (place : ℕ) (text : List ℕ) → IsWorldText w place text → IsWorldText v place text → w ≡ v
same_world w v place text h k = h.is ∙ sym k.is

pub play_once : OnePlay
play_once text p q h k =
    let a = together (IsHeader play_header) (IsHeader play_header) (SpellsBehind p) (SpellsBehind q) 0 text h k in
    let b = together (IsSentenceLine p.sentence) (IsSentenceLine q.sentence)
    (Next (IsCommitLine p.commitment) (Next (IsChoicesLine p.choices) (IsWorldText p.world)))
    (Next (IsCommitLine q.commitment) (Next (IsChoicesLine q.choices) (IsWorldText q.world)))
    a.number a.behind a.on a.on' in
    let c = together (IsCommitLine p.commitment) (IsCommitLine q.commitment) (Next (IsChoicesLine p.choices) (IsWorldText p.world)) (Next (IsChoicesLine q.choices) (IsWorldText q.world))
    b.number b.behind b.on b.on' in
    let d = together (IsChoicesLine p.choices) (IsChoicesLine q.choices) (IsWorldText p.world) (IsWorldText q.world) c.number c.behind c.on c.on' in
    same_play p.sentence q.sentence p.commitment q.commitment p.choices q.choices p.world q.world
    (sentence_once b.line p.sentence q.sentence b.is b.is')
    (commit_once c.line p.commitment q.commitment c.is c.is')
    (choices_once d.line p.choices q.choices d.is d.is')
    (same_world p.world q.world d.number d.behind d.on d.on')

-- one first fault, where that is so of the line and of what comes later
from_once : (Is : List ℕ → Type 0) (Bad : List ℕ → PlayFault → Type 0) (missing : PlayFault) (Later : ℕ → List ℕ → ℕ → PlayFault → Type 0) (place : ℕ) (text : List ℕ) (n m : ℕ) (f g : PlayFault) →
    ((line : List ℕ) (fault : PlayFault) → Is line → Bad line fault → ⊥) →
    ((line : List ℕ) (fault other : PlayFault) → Bad line fault → Bad line other → fault ≡ other) →
    ((k : ℕ) (behind : List ℕ) → Later k behind n f → Later k behind m g → IsSameFault n m f g) →
    FailsFrom Is Bad missing Later place text n f → FailsFrom Is Bad missing Later place text m g → IsSameFault n m f g
from_once Is Bad missing Later place text n m f g apart same later (inl (inl a)) (inl (inl b)) =
    let s : IsSameLead n m a.line b.line a.behind b.behind = leads_once a.leads m b.line b.behind b.leads in
    record { place = s.number; is = same a.line f g a.bad (subst (λ l. Bad l g) (sym s.is) b.bad) }
from_once Is Bad missing Later place text n m f g apart same later (inl (inl a)) (inl (inr b)) = absurd (blank_leads_none (place + 1) text n a.line a.behind b.blank a.leads)
from_once Is Bad missing Later place text n m f g apart same later (inl (inl a)) (inr b) =
    let s : IsSameLead n b.number a.line b.line a.behind b.behind = leads_once a.leads b.number b.line b.behind b.leads in
    absurd (apart b.line f b.is (subst (λ l. Bad l f) s.is a.bad))
from_once Is Bad missing Later place text n m f g apart same later (inl (inr a)) (inl (inl b)) = absurd (blank_leads_none (place + 1) text m b.line b.behind a.blank b.leads)
from_once Is Bad missing Later place text n m f g apart same later (inl (inr a)) (inl (inr b)) = record { place = a.past ∙ sym b.past; is = a.is ∙ sym b.is }
from_once Is Bad missing Later place text n m f g apart same later (inl (inr a)) (inr b) = absurd (blank_leads_none (place + 1) text b.number b.line b.behind a.blank b.leads)
from_once Is Bad missing Later place text n m f g apart same later (inr a) (inl (inl b)) =
    let s : IsSameLead a.number m a.line b.line a.behind b.behind = leads_once a.leads m b.line b.behind b.leads in
    absurd (apart a.line g a.is (subst (λ l. Bad l g) (sym s.is) b.bad))
from_once Is Bad missing Later place text n m f g apart same later (inr a) (inl (inr b)) = absurd (blank_leads_none (place + 1) text a.number a.line a.behind b.blank a.leads)
from_once Is Bad missing Later place text n m f g apart same later (inr a) (inr b) =
    let t = together Is Is (λ k behind. Later k behind n f) (λ k behind. Later k behind m g) place text a b in
    later t.number t.behind t.on t.on'

header_apart : (line : List ℕ) (fault : PlayFault) → IsHeader play_header line → HeaderFails line fault → ⊥
header_apart line fault h k = k.1 h

sentence_said : (line : List ℕ) (fault : PlayFault) → SaysSentence line → SentenceFails line fault → ⊥
sentence_said line fault h k = sentence_apart line h.0 fault h.1 k

commit_said : (line : List ℕ) (fault : PlayFault) → SaysCommit line → CommitFails line fault → ⊥
commit_said line fault h k = k.1 h.0 h.1

choices_said : (line : List ℕ) (fault : PlayFault) → SaysChoices line → ChoicesFails line fault → ⊥
choices_said line fault h k = k.1 h.0 h.1

two_once : (o : Option (ℕ × WorldFault)) (n m : ℕ) (w v : WorldFault) → o ≡ Some (n, w) → o ≡ Some (m, v) → (n ≡ m) × (w ≡ v)
two_once o n m w v e f = pair_once (n, w) (m, v) (sym e ∙ f)

world_once : (n m : ℕ) (f g : PlayFault) (place : ℕ) (text : List ℕ) → WorldFails place text n f → WorldFails place text m g → IsSameFault n m f g
world_once n m f g place text h k =
    let p : (h.number ≡ k.number) × (h.why ≡ k.why) = two_once (world_fault text) h.number k.number h.why k.why h.first k.first in
    record { place = h.counted ∙ ap (λ i. place + i) p.0 ∙ sym k.counted; is = h.is ∙ ap World p.1 ∙ sym k.is }

pub fault_once : OneFault
fault_once text n m f g =
    from_once (IsHeader play_header) HeaderFails Header FailsBehind 0 text n m f g header_apart (λ line fault other h k. h.0 ∙ sym k.0)
    (λ a at_a. from_once SaysSentence SentenceFails Form (FailsFrom SaysCommit CommitFails Form (FailsFrom SaysChoices ChoicesFails Form WorldFails)) a at_a n m f g sentence_said sentence_fault_once
    (λ b at_b. from_once SaysCommit CommitFails Form (FailsFrom SaysChoices ChoicesFails Form WorldFails) b at_b n m f g commit_said (λ line fault other h k. h.0 ∙ sym k.0)
    (λ c at_c. from_once SaysChoices ChoicesFails Form WorldFails c at_c n m f g choices_said (λ line fault other h k. h.0 ∙ sym k.0) (world_once n m f g))))

-- no play has a fault
from_never : (Is Has : List ℕ → Type 0) (Then : ℕ → List ℕ → Type 0) (Bad : List ℕ → PlayFault → Type 0) (missing : PlayFault) (Later : ℕ → List ℕ → ℕ → PlayFault → Type 0) (place : ℕ) (text : List ℕ) (n : ℕ) (f : PlayFault) →
    ((line : List ℕ) → Is line → Bad line f → ⊥) → ((k : ℕ) (behind : List ℕ) → Then k behind → Later k behind n f → ⊥) →
    Next Is Then place text → FailsFrom Has Bad missing Later place text n f → ⊥
from_never Is Has Then Bad missing Later place text n f apart later h (inl (inl b)) =
    let s : IsSameLead h.number n h.line b.line h.behind b.behind = leads_once h.leads n b.line b.behind b.leads in
    apart h.line h.is (subst (λ l. Bad l f) (sym s.is) b.bad)
from_never Is Has Then Bad missing Later place text n f apart later h (inl (inr b)) = blank_leads_none (place + 1) text h.number h.line h.behind b.blank h.leads
from_never Is Has Then Bad missing Later place text n f apart later h (inr b) =
    let t = together Is Has Then (λ k behind. Later k behind n f) place text h b in
    later t.number t.behind t.on t.on'

none_some : (o : Option (ℕ × WorldFault)) (p : ℕ × WorldFault) → o ≡ None → o ≡ Some p → ⊥
none_some o p e f = let g : Some p ≡ None = cc in absurd (cc)

pub never_both : NeverBoth
never_both text play n f =
    from_never (IsHeader play_header) (IsHeader play_header) (SpellsBehind play) HeaderFails Header FailsBehind 0 text n f (λ line h k. header_apart line f h k)
    (λ a at_a. from_never (IsSentenceLine play.sentence) SaysSentence (Next (IsCommitLine play.commitment) (Next (IsChoicesLine play.choices) (IsWorldText play.world)))
    SentenceFails Form (FailsFrom SaysCommit CommitFails Form (FailsFrom SaysChoices ChoicesFails Form WorldFails)) a at_a n f (λ line h k. sentence_apart line play.sentence f h k)
    (λ b at_b. from_never (IsCommitLine play.commitment) SaysCommit (Next (IsChoicesLine play.choices) (IsWorldText play.world)) CommitFails Form (FailsFrom SaysChoices ChoicesFails Form WorldFails) b at_b n f
    (λ line h k. k.1 play.commitment h)
    (λ c at_c. from_never (IsChoicesLine play.choices) SaysChoices (IsWorldText play.world) ChoicesFails Form WorldFails c at_c n f (λ line h k. k.1 play.choices h)
    (λ d at_d h k. none_some (world_fault at_d) (k.number, k.why) h.faultless k.first))))

-- what a reader says of each play that the text is
pub read_exactly : (text : List ℕ) (r : Result Play (ℕ × PlayFault)) → IfOk r (SpellsPlay text) → IfErr r (λ e. (e.1 ≡ Memory) ⊎ IsFirstPlayFault text e.0 e.1) →
    (play : Play) → SpellsPlay text play → (r ≡ Ok play) ⊎ IsErrAnd r (λ e. e.1 ≡ Memory)
read_exactly text (Ok p) h k play s = inl (ap Ok (play_once text p play h s))
read_exactly text (Err e) h (inl m) play s = inr m
read_exactly text (Err e) h (inr f) play s = absurd (never_both text play e.0 e.1 s f)

-- no fault of the world is want of memory
abbrev pub IsPlainFault : PlayFault → Type 0
IsPlainFault f = f ≡ World world_faults.Memory → ⊥

from_plain : (Is : List ℕ → Type 0) (Bad : List ℕ → PlayFault → Type 0) (missing : PlayFault) (Later : ℕ → List ℕ → ℕ → PlayFault → Type 0) (place : ℕ) (text : List ℕ) (n : ℕ) (f : PlayFault) →
    ((line : List ℕ) → Bad line f → IsPlainFault f) → IsPlainFault missing → ((k : ℕ) (behind : List ℕ) → Later k behind n f → IsPlainFault f) → FailsFrom Is Bad missing Later place text n f → IsPlainFault f
from_plain Is Bad missing Later place text n f bad miss later (inl (inl b)) = bad b.line b.bad
from_plain Is Bad missing Later place text n f bad miss later (inl (inr b)) = λ e. miss (sym b.is ∙ e)
from_plain Is Bad missing Later place text n f bad miss later (inr b) = later b.number b.behind b.on

plain_header : IsPlainFault Header
plain_header e = absurd (cc)

plain_form : IsPlainFault Form
plain_form e = absurd (cc)

plain_sentence : IsPlainFault Sentence
plain_sentence e = absurd (cc)

plain_memory : IsPlainFault Memory
plain_memory e = absurd (cc)

sentence_plain : (f : PlayFault) (line : List ℕ) → SentenceFails line f → IsPlainFault f
sentence_plain f line (inl h) = λ e. plain_form (sym h.0 ∙ e)
sentence_plain f line (inr h) = λ e. plain_sentence (sym h.0 ∙ e)

same_world_fault : (w v : WorldFault) → World w ≡ World v → w ≡ v
same_world_fault w v e = cc

world_fault_plain : (n : ℕ) (f : PlayFault) (place : ℕ) (text : List ℕ) → WorldFails place text n f → IsPlainFault f
world_fault_plain n f place text h = λ e. world_plain text h.number h.why h.first (same_world_fault h.why world_faults.Memory (sym h.is ∙ e))

first_plain : (text : List ℕ) (n : ℕ) (f : PlayFault) → IsFirstPlayFault text n f → IsPlainFault f
first_plain text n f =
    from_plain (IsHeader play_header) HeaderFails Header FailsBehind 0 text n f (λ line h e. plain_header (sym h.0 ∙ e)) plain_header
    (λ a at_a. from_plain SaysSentence SentenceFails Form (FailsFrom SaysCommit CommitFails Form (FailsFrom SaysChoices ChoicesFails Form WorldFails)) a at_a n f (sentence_plain f) plain_form
    (λ b at_b. from_plain SaysCommit CommitFails Form (FailsFrom SaysChoices ChoicesFails Form WorldFails) b at_b n f (λ line h e. plain_form (sym h.0 ∙ e)) plain_form
    (λ c at_c. from_plain SaysChoices ChoicesFails Form WorldFails c at_c n f (λ line h e. plain_form (sym h.0 ∙ e)) plain_form (world_fault_plain n f))))

pub read_plainly : (text : List ℕ) (r : Result Play (ℕ × PlayFault)) → IfErr r (λ e. (e.1 ≡ Memory) ⊎ IsFirstPlayFault text e.0 e.1) → IfErr r (λ e. IsPlainFault e.1)
read_plainly text (Ok p) k = tt
read_plainly text (Err e) (inl m) = λ w. plain_memory (sym m ∙ w)
read_plainly text (Err e) (inr f) = first_plain text e.0 e.1 f
