-- Reading the lines of a play one by one.
use Rattle.std.proofs.Common.{◌≡◌, ℕ, Bool, List, inl, inr, Result, Ok, Err, IfOk, IfErr}
use Rattle.std.specs.Prelude.{◌⊎◌}
use Rattle.fol_core.specs.declared.sent.Sent.{Sent}
use Rattle.physical_lines.specs.Physical.{IsHeader}
use Rattle.worlds.specs.declared.block.Block.{Block}
use Rattle.play_text.specs.declared.play.Play.{Play}
use Rattle.play_text.specs.declared.play.PlayFault.{PlayFault}
use Rattle.play_text.specs.declared.play.PlayFault.TheVariants.{Header, Form, Memory}
use Rattle.play_text.specs.PlayLines.{play_header, IsSentenceLine, IsCommitLine, IsChoicesLine}
use Rattle.play_text.specs.PlayText.{Next, IsWorldText, SpellsBehind, SpellsPlay}
use Rattle.play_text.specs.PlayFaults.{HeaderFails, SentenceFails, CommitFails, ChoicesFails, StopsAt, WorldFails, FailsBehind, IsFirstPlayFault}
use Rattle.play_text.specs.Readers.{IsNext, FailsAtChoices, FailsAtCommit}

-- the next line is there, and so is what follows it
next_on : (Is : List ℕ → Type 0) (Then : ℕ → List ℕ → Type 0) (place : ℕ) (text : List ℕ) (a : ℕ) (line rest : List ℕ) → IsNext Is place text a line rest → Then a rest → Next Is Then place text
next_on Is Then place text a line rest g h = record { number = a; line = line; behind = rest; leads = g.leads; is = g.is; on = h }

-- the line of the choices, and the world behind it
pub choices_read : (place : ℕ) (text : List ℕ) (ns : List ℕ) (a : ℕ) (line rest : List ℕ) (w : List Block) → IsNext (IsChoicesLine ns) place text a line rest → IsWorldText w a rest → Next (IsChoicesLine ns) (IsWorldText w) place text
choices_read place text ns a line rest w g h = next_on (IsChoicesLine ns) (IsWorldText w) place text a line rest g h

pub choices_stop : (place : ℕ) (text : List ℕ) (n : ℕ) (fault : PlayFault) → (fault ≡ Memory) ⊎ StopsAt ChoicesFails Form place text n fault → (fault ≡ Memory) ⊎ FailsAtChoices place text n fault
choices_stop place text n fault (inl m) = inl m
choices_stop place text n fault (inr h) = inr (inl h)

pub choices_later : (place : ℕ) (text : List ℕ) (n : ℕ) (fault : PlayFault) (ns : List ℕ) (a : ℕ) (line rest : List ℕ) → IsNext (IsChoicesLine ns) place text a line rest → (fault ≡ Memory) ⊎ WorldFails a rest n fault →
    (fault ≡ Memory) ⊎ FailsAtChoices place text n fault
choices_later place text n fault ns a line rest g (inl m) = inl m
choices_later place text n fault ns a line rest g (inr h) = inr (inr (record { number = a; line = line; behind = rest; leads = g.leads; is = (ns, g.is); on = h }))

-- the commitment's line, and what follows it
pub commit_read : (place : ℕ) (text : List ℕ) (b : Bool) (a : ℕ) (line rest : List ℕ) (ns : List ℕ) (w : List Block) → IsNext (IsCommitLine b) place text a line rest → Next (IsChoicesLine ns) (IsWorldText w) a rest →
    Next (IsCommitLine b) (Next (IsChoicesLine ns) (IsWorldText w)) place text
commit_read place text b a line rest ns w g h = next_on (IsCommitLine b) (Next (IsChoicesLine ns) (IsWorldText w)) place text a line rest g h

pub commit_stop : (place : ℕ) (text : List ℕ) (n : ℕ) (fault : PlayFault) → StopsAt CommitFails Form place text n fault → (fault ≡ Memory) ⊎ FailsAtCommit place text n fault
commit_stop place text n fault h = inr (inl h)

pub commit_later : (place : ℕ) (text : List ℕ) (n : ℕ) (fault : PlayFault) (b : Bool) (a : ℕ) (line rest : List ℕ) → IsNext (IsCommitLine b) place text a line rest → (fault ≡ Memory) ⊎ FailsAtChoices a rest n fault →
    (fault ≡ Memory) ⊎ FailsAtCommit place text n fault
commit_later place text n fault b a line rest g (inl m) = inl m
commit_later place text n fault b a line rest g (inr h) = inr (inr (record { number = a; line = line; behind = rest; leads = g.leads; is = (b, g.is); on = h }))

-- the sentence's line, and what follows it
pub sentence_read : (place : ℕ) (text : List ℕ) (s : Sent) (a : ℕ) (line rest : List ℕ) (b : Bool) (ns : List ℕ) (w : List Block) → IsNext (IsSentenceLine s) place text a line rest →
    Next (IsCommitLine b) (Next (IsChoicesLine ns) (IsWorldText w)) a rest → SpellsBehind (record { sentence = s; commitment = b; choices = ns; world = w }) place text
sentence_read place text s a line rest b ns w g h = next_on (IsSentenceLine s) (Next (IsCommitLine b) (Next (IsChoicesLine ns) (IsWorldText w))) place text a line rest g h

pub sentence_stop : (place : ℕ) (text : List ℕ) (n : ℕ) (fault : PlayFault) → (fault ≡ Memory) ⊎ StopsAt SentenceFails Form place text n fault → (fault ≡ Memory) ⊎ FailsBehind place text n fault
sentence_stop place text n fault (inl m) = inl m
sentence_stop place text n fault (inr h) = inr (inl h)

pub sentence_later : (place : ℕ) (text : List ℕ) (n : ℕ) (fault : PlayFault) (s : Sent) (a : ℕ) (line rest : List ℕ) → IsNext (IsSentenceLine s) place text a line rest → (fault ≡ Memory) ⊎ FailsAtCommit a rest n fault →
    (fault ≡ Memory) ⊎ FailsBehind place text n fault
sentence_later place text n fault s a line rest g (inl m) = inl m
sentence_later place text n fault s a line rest g (inr h) = inr (inr (record { number = a; line = line; behind = rest; leads = g.leads; is = (s, g.is); on = h }))

-- the header's line, and what follows it
pub header_stop : (text : List ℕ) (n : ℕ) (fault : PlayFault) → StopsAt HeaderFails Header 0 text n fault → (fault ≡ Memory) ⊎ IsFirstPlayFault text n fault
header_stop text n fault h = inr (inl h)

pub header_later : (text : List ℕ) (n : ℕ) (fault : PlayFault) (a : ℕ) (line rest : List ℕ) → IsNext (IsHeader play_header) 0 text a line rest → (fault ≡ Memory) ⊎ FailsBehind a rest n fault →
    (fault ≡ Memory) ⊎ IsFirstPlayFault text n fault
header_later text n fault a line rest g (inl m) = inl m
header_later text n fault a line rest g (inr h) = inr (inr (record { number = a; line = line; behind = rest; leads = g.leads; is = g.is; on = h }))

pub header_read : (text : List ℕ) (p : Play) (a : ℕ) (line rest : List ℕ) → IsNext (IsHeader play_header) 0 text a line rest → SpellsBehind p a rest → SpellsPlay text p
header_read text p a line rest g h = next_on (IsHeader play_header) (SpellsBehind p) 0 text a line rest g h

-- what was read behind the header, of the whole text
pub play_from : (text : List ℕ) (a : ℕ) (line rest : List ℕ) (r : Result Play (ℕ × PlayFault)) → IsNext (IsHeader play_header) 0 text a line rest → IfOk r (λ p. SpellsBehind p a rest) → IfOk r (SpellsPlay text)
play_from text a line rest (Ok p) g h = header_read text p a line rest g h
play_from text a line rest (Err e) g h = tt

pub fault_from : (text : List ℕ) (a : ℕ) (line rest : List ℕ) (r : Result Play (ℕ × PlayFault)) → IsNext (IsHeader play_header) 0 text a line rest → IfErr r (λ e. (e.1 ≡ Memory) ⊎ FailsBehind a rest e.0 e.1) →
    IfErr r (λ e. (e.1 ≡ Memory) ⊎ IsFirstPlayFault text e.0 e.1)
fault_from text a line rest (Ok p) g h = tt
fault_from text a line rest (Err e) g h = header_later text e.0 e.1 a line rest g h
