-- Reading the sentences of a list one by one.
use Rattle.std.proofs.Common.{◌≡◌, ◌≢◌, ℕ, true, false, List, [], ◌∷◌, ◌++◌, refl, sym, ap, subst, ◌∙◌, append_assoc, Option, Some, None, Result, Ok, Err, IfOk, inl, inr}
use Rattle.std.specs.Prelude.{MatchOption, ◌⊎◌}
use Rattle.std.proofs.lemmas.List.{append_cancel_left}
use Rattle.texts.specs.Blanks.{trimmed}
use Rattle.texts.specs.Cuts.{Lacks, IsCut}
use Rattle.texts.proofs.Cutting.{cut_once, lacks_not_cut}
use Rattle.fol_core.specs.declared.sent.Sent.{Sent}
use Rattle.fol_text.specs.Readable.{IsReadable}
use Rattle.fol_text.specs.declared.fault.ReadFault.{ReadFault}
use Rattle.fol_text.specs.declared.fault.ReadFault.TheVariants.{Memory}
use Rattle.fitch_file.specs.Words.{ends_word}
use Rattle.fitch_file.specs.Declarations.{IsBehind}
use Rattle.fitch_file.proofs.Once.{readable_once}
use Rattle.fitch_file.proofs.Sentences.{sentence_laws}
use Rattle.boole_table.specs.ListLines.{AreSentences, AreLetters}

-- The sentences that were read, and what is left of the text.
pub record Lists (text rest : List ℕ) (front : List Sent) : Type 0 where
  pub read : (ss : List Sent) → AreSentences rest ss → AreSentences text (front ++ ss)
  pub only : (ss : List Sent) → AreSentences text ss → (more : List Sent) × ((ss ≡ front ++ more) × AreSentences rest more)

pub lists_start : (text : List ℕ) → Lists text text []
lists_start text = record { read = λ ss h. h; only = λ ss h. (ss, (refl, h)) }

-- one sentence before a semicolon
onto : (rest front after : List ℕ) (s : Sent) (ss : List Sent) → IsCut 59 rest front after → IsReadable (trimmed front) s → AreSentences after ss → AreSentences rest (s ∷ ss)
onto rest front after s [] c r h = absurd h
onto rest front after s (t ∷ ts) c r h = (front, (after, c, r, h))

record Parts (front after : List ℕ) (ss : List Sent) : Type 0 where
  pub first : Sent
  pub more : List Sent
  pub are : ss ≡ first ∷ more
  pub readable : IsReadable (trimmed front) first
  pub others : AreSentences after more

parts : (rest front after : List ℕ) (ss : List Sent) → IsCut 59 rest front after → AreSentences rest ss → Parts front after ss
parts rest front after [] c h = absurd h
parts rest front after (s ∷ []) c h = absurd (lacks_not_cut 59 rest front after h.0 c)
parts rest front after (s ∷ t ∷ ts) c h =
    let e : (h.0 ≡ front) × (h.1.0 ≡ after) = cut_once 59 rest h.0 h.1.0 front after h.1.1 c in
    record {
      first = s;
      more = t ∷ ts;
      are = refl;
      readable = subst (λ x. IsReadable (trimmed x) s) e.0 h.1.2;
      others = subst (λ x. AreSentences x (t ∷ ts)) e.1 h.1.3;
    }

pub lists_more : (text rest front after : List ℕ) (ss : List Sent) (s : Sent) → Lists text rest ss → IsCut 59 rest front after → IsReadable (trimmed front) s → Lists text after (ss ++ s ∷ [])
lists_more text rest front after ss s l c r = record {
  read = λ ts h. subst (AreSentences text) (sym (append_assoc ss (s ∷ []) ts)) (l.read (s ∷ ts) (onto rest front after s ts c r h));
  only = λ ts h.
      let o : (more : List Sent) × ((ts ≡ ss ++ more) × AreSentences rest more) = l.only ts h in
      let p : Parts front after o.0 = parts rest front after o.0 c o.1.1 in
      let e : p.first ≡ s = readable_once sentence_laws (trimmed front) p.first s p.readable r in
      (p.more, (o.1.0 ∙ ap (λ xs. ss ++ xs) (p.are ∙ ap (λ x. x ∷ p.more) e) ∙ sym (append_assoc ss (s ∷ []) p.more), p.others));
}

pub lists_stop : (text rest front after : List ℕ) (ss : List Sent) → Lists text rest ss → IsCut 59 rest front after → ((s : Sent) → IsReadable (trimmed front) s → ⊥) → (ts : List Sent) → AreSentences text ts → ⊥
lists_stop text rest front after ss l c none ts h =
    let o : (more : List Sent) × ((ts ≡ ss ++ more) × AreSentences rest more) = l.only ts h in
    let p : Parts front after o.0 = parts rest front after o.0 c o.1.1 in
    none p.first p.readable

-- the last sentence
pub lists_all : (text rest : List ℕ) (ss : List Sent) (s : Sent) → Lists text rest ss → Lacks 59 rest → IsReadable (trimmed rest) s → AreSentences text (ss ++ s ∷ [])
lists_all text rest ss s l c r = l.read (s ∷ []) (c, r)

last_only : (rest : List ℕ) (ss : List Sent) → Lacks 59 rest → AreSentences rest ss → (s : Sent) × IsReadable (trimmed rest) s
last_only rest [] c h = absurd h
last_only rest (s ∷ []) c h = (s, h.1)
last_only rest (s ∷ t ∷ ts) c h = absurd (lacks_not_cut 59 rest h.0 h.1.0 c h.1.1)

pub lists_none : (text rest : List ℕ) (ss : List Sent) → Lists text rest ss → Lacks 59 rest → ((s : Sent) → IsReadable (trimmed rest) s → ⊥) → (ts : List Sent) → AreSentences text ts → ⊥
lists_none text rest ss l c none ts h =
    let o : (more : List Sent) × ((ts ≡ ss ++ more) × AreSentences rest more) = l.only ts h in
    let p : (s : Sent) × IsReadable (trimmed rest) s = last_only rest o.0 c o.1.1 in
    none p.0 p.1

-- A text is one list at most.
pub sentences_once : (text : List ℕ) (ss ts : List Sent) → AreSentences text ss → AreSentences text ts → ss ≡ ts
sentences_once text [] ts h k = absurd h
sentences_once text (s ∷ []) ts h k = alone text s ts h k
  where
    alone : (text : List ℕ) (s : Sent) (ts : List Sent) → AreSentences text (s ∷ []) → AreSentences text ts → s ∷ [] ≡ ts
    alone text s [] h k = absurd k
    alone text s (t ∷ []) h k = ap (λ x. x ∷ []) (readable_once sentence_laws (trimmed text) s t h.1 k.1)
    alone text s (t ∷ u ∷ us) h k = absurd (lacks_not_cut 59 text k.0 k.1.0 h.0 k.1.1)
sentences_once text (s ∷ r ∷ rs) ts h k =
    let p : Parts h.0 h.1.0 ts = parts text h.0 h.1.0 ts h.1.1 k in
    let e : s ≡ p.first = readable_once sentence_laws (trimmed h.0) s p.first h.1.2 p.readable in
    let f : r ∷ rs ≡ p.more = sentences_once h.1.0 (r ∷ rs) p.more h.1.3 p.others in
    ap (λ x. x ∷ r ∷ rs) e ∙ ap (λ xs. p.first ∷ xs) f ∙ sym p.are

pub letters_once : (text : List ℕ) (ls ms : List Sent) → AreLetters text ls → AreLetters text ms → ls ≡ ms
letters_once text [] [] h k = refl
letters_once text [] (m ∷ ms) h k = absurd (k.0 h)
letters_once text (l ∷ ls) [] h k = absurd (h.0 k)
letters_once text (l ∷ ls) (m ∷ ms) h k = sentences_once text (l ∷ ls) (m ∷ ms) h.1 k.1

-- A text that isn't empty lists letters as it lists sentences.
as_letters : (text : List ℕ) (ss : List Sent) → text ≢ [] → AreSentences text ss → AreLetters text ss
as_letters text [] n h = absurd h
as_letters text (s ∷ ss) n h = (n, h)

as_sentences : (text : List ℕ) (ls : List Sent) → text ≢ [] → AreLetters text ls → AreSentences text ls
as_sentences text [] n h = absurd (n h)
as_sentences text (l ∷ ls) n h = h.1

pub letters_found : (text : List ℕ) (o : Option (List Sent)) → text ≢ [] → MatchOption o ((ss : List Sent) → AreSentences text ss → ⊥) (AreSentences text) → MatchOption o ((ls : List Sent) → AreLetters text ls → ⊥) (AreLetters text)
letters_found text (Some ss) n h = as_letters text ss n h
letters_found text None n h = λ ls k. h ls (as_sentences text ls n k)

-- The text behind a keyword is one.
pub behind_once : (word line t u : List ℕ) → IsBehind word line t → IsBehind word line u → t ≡ u
behind_once word line t u h k =
    let e : h.tail ≡ k.tail = append_cancel_left word h.tail k.tail (sym h.begins ∙ k.begins) in
    h.is ∙ ap trimmed e ∙ sym k.is

pub not_behind : (word line tail : List ℕ) → line ≡ word ++ tail → ends_word tail ≡ false → (text : List ℕ) → IsBehind word line text → ⊥
not_behind word line tail b k text h =
    let e : h.tail ≡ tail = append_cancel_left word h.tail tail (sym h.begins ∙ b) in
    let g : true ≡ false = sym h.parted ∙ ap ends_word e ∙ k in
    absurd (cc)

-- What was found of one sentence.
abbrev Found : List ℕ → Option Sent → Type 0
Found text o = MatchOption o ((s : Sent) → IsReadable (trimmed text) s → ⊥) (IsReadable (trimmed text))

pub found_one : (text : List ℕ) (o : Option Sent) (s : Sent) → o ≡ Some s → MatchOption o ((t : Sent) → IsReadable (trimmed text) t → ⊥) (IsReadable (trimmed text)) → IsReadable (trimmed text) s
found_one text o s e h = subst (Found text) e h

pub found_none : (text : List ℕ) (o : Option Sent) → o ≡ None → MatchOption o ((t : Sent) → IsReadable (trimmed text) t → ⊥) (IsReadable (trimmed text)) → (s : Sent) → IsReadable (trimmed text) s → ⊥
found_none text o e h = subst (Found text) e h

pub letters_answer : {E : Type 0} (text : List ℕ) (r : Result (Option (List Sent)) E) → text ≢ [] → IfOk r (λ o. MatchOption o ((ss : List Sent) → AreSentences text ss → ⊥) (AreSentences text)) →
    IfOk r (λ o. MatchOption o ((ls : List Sent) → AreLetters text ls → ⊥) (AreLetters text))
letters_answer text (Ok o) n h = letters_found text o n h
letters_answer text (Err e) n h = h

refused_found : (text : List ℕ) (r : Result Sent ReadFault) (fault : ReadFault) → r ≡ Err fault → ((s : Sent) → IsReadable (trimmed text) s → (r ≡ Ok s) ⊎ (r ≡ Err Memory)) → (fault ≡ Memory → ⊥) → (s : Sent) → IsReadable (trimmed text) s → ⊥
refused_found text r fault e exact none s h = either (exact s h)
  where
    either : (r ≡ Ok s) ⊎ (r ≡ Err Memory) → ⊥
    either (inl f) = absurd (cc)
    either (inr f) = let w : fault ≡ Memory = cc in none w

-- Where the reading of one sentence is refused, none is found.
pub refused_one : {E : Type 0} (text : List ℕ) (r : Result Sent ReadFault) (fault : ReadFault) (q : Result (Option Sent) E) → r ≡ Err fault → ((s : Sent) → IsReadable (trimmed text) s → (r ≡ Ok s) ⊎ (r ≡ Err Memory)) →
    IfOk q (λ o. (o ≡ None) × (fault ≡ Memory → ⊥)) → IfOk q (λ o. MatchOption o ((s : Sent) → IsReadable (trimmed text) s → ⊥) (IsReadable (trimmed text)))
refused_one text r fault (Ok o) e exact n = subst (Found text) (sym n.0) (refused_found text r fault e exact n.1)
refused_one text r fault (Err x) e exact n = n

pub found_letters : (text : List ℕ) (o : Option (List Sent)) (ls : List Sent) → o ≡ Some ls → MatchOption o ((ms : List Sent) → AreLetters text ms → ⊥) (AreLetters text) → AreLetters text ls
found_letters text o ls e h = subst (λ (x : Option (List Sent)). MatchOption x ((ms : List Sent) → AreLetters text ms → ⊥) (AreLetters text)) e h

pub found_sentences : (text : List ℕ) (o : Option (List Sent)) (ss : List Sent) → o ≡ Some ss → MatchOption o ((ts : List Sent) → AreSentences text ts → ⊥) (AreSentences text) → AreSentences text ss
found_sentences text o ss e h = subst (λ (x : Option (List Sent)). MatchOption x ((ts : List Sent) → AreSentences text ts → ⊥) (AreSentences text)) e h
