-- A number that is made of a sentence: identical sentences have one, and others seldom the same.
use Rattle.std.specs.Prelude.{ℕ, ◌*◌, ◌%◌, ◌^◌, map}
use Rattle.std.specs.Int.Bits.{bit_xor}
use Rattle.std.specs.List.{fold}
use Rattle.fol_core.specs.Word.{Word}
use Rattle.fol_core.specs.declared.sent.Term.{Term}
use Rattle.fol_core.specs.declared.sent.Term.TheOpen.{Term-F}
use Rattle.fol_core.specs.declared.sent.Term.TheOpen as t
use Rattle.fol_core.specs.declared.sent.Term.TheFolds.{fold-Term}
use Rattle.fol_core.specs.declared.sent.Sent.{Sent}
use Rattle.fol_core.specs.declared.sent.Sent.TheOpen.{Sent-F}
use Rattle.fol_core.specs.declared.sent.Sent.TheOpen as f
use Rattle.fol_core.specs.declared.sent.Sent.TheFolds.{fold-Sent}

-- One number more is mixed in.
abbrev pub mix : ℕ → ℕ → ℕ
mix d n = (bit_xor d n * 1099511628211) % 2 ^ 64

-- The digest of a word: its bytes mixed in, one after the other.
abbrev pub word_digest : Word → ℕ
word_digest w = fold mix 14695981039346656037 w

-- One form of term: a number for the form, with the words and the arguments mixed in.
abbrev pub term_digest_step : Term-F ℕ → ℕ
term_digest_step (t.Var x) = mix 1 (word_digest x)
term_digest_step (t.Name n) = mix 2 (word_digest n)
term_digest_step (t.App g ds) = fold mix (mix 3 (word_digest g)) ds

-- The digest of a term.
abbrev pub term_digest : Term → ℕ
term_digest = fold-Term ℕ term_digest_step

-- One form of sentence: a number for the form, with the words, the terms and the parts mixed in.
abbrev pub digest_step : Sent-F ℕ → ℕ
digest_step (f.Atom p ts) = fold mix (mix 4 (word_digest p)) (map term_digest ts)
digest_step (f.Eq a b) = mix (mix 5 (term_digest a)) (term_digest b)
digest_step f.Bottom = 6
digest_step (f.Not d) = mix 7 d
digest_step (f.And ds) = fold mix 8 ds
digest_step (f.Or ds) = fold mix 9 ds
digest_step (f.If d e) = mix (mix 10 d) e
digest_step (f.Iff d e) = mix (mix 11 d) e
digest_step (f.All x d) = mix (mix 12 (word_digest x)) d
digest_step (f.Ex x d) = mix (mix 13 (word_digest x)) d

-- The digest of a sentence.
abbrev pub digest : Sent → ℕ
digest = fold-Sent ℕ digest_step
