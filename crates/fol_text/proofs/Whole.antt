-- A whole text that the quick reader has read is a sentence.
use Rattle.std.proofs.Common.{◌≡◌, ℕ, ◌≤◌, List, [], length, sym, subst}
use Rattle.texts.specs.Blanks.{after_blanks}
use Rattle.fol_core.specs.declared.sent.Sent.{Sent}
use Rattle.fol_text.specs.declared.token.Token.{Token}
use Rattle.fol_text.specs.Grammar.{Spells}
use Rattle.fol_text.specs.Readable.{IsReadable, IsFit}
use Rattle.fol_text.specs.Straight.{SentenceRead}
use Rattle.fol_text.proofs.Taken.{all_placed}

pub readable : (text rest : List ℕ) (s : Sent) → length text ≤ 4000 → SentenceRead 120 text s rest → after_blanks rest ≡ [] → IsFit s → IsReadable text s
readable text rest s h r e f =
    let p = all_placed text r.tokens rest r.begins e in
    record { short = h; tokens = p.tokens; are_tokens = p.are; spells = subst (λ (ks : List Token). Spells 120 ks s) (sym p.same) r.spells; fit = f }
