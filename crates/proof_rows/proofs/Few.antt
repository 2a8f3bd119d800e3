-- How many nodes the sentences of a list have.
use Rattle.std.proofs.Common.{ℕ, ◌*◌, ◌<◌, ◌≤◌, List, length, map, arith}
use Rattle.fol_core.specs.declared.sent.Sent.{Sent}
use Rattle.fol_core.specs.Size.{total, nodes}
use Rattle.sentence_lists.specs.SentenceLines.{SpellSentences, no_more, blank_line, sentence_line, SpellAtMost}
use Rattle.proof_check.proofs.Cited.{within_nodes}

-- each sentence that is read has at most 400
spelled_few : (ls : List (List ℕ)) (ss : List Sent) → SpellSentences ls ss → total (map nodes ss) ≤ 400 * length ss
spelled_few _ _ no_more = omega arith
spelled_few _ _ (blank_line line ls ss b h) = spelled_few ls ss h
spelled_few _ _ (sentence_line line ls s ss l h) = omega (arith, spelled_few ls ss h, within_nodes s l.readable.fit.within)

pub listed_few : (ls : List (List ℕ)) (ss : List Sent) → SpellAtMost 8 ls ss → total (map nodes ss) < 4294967296
listed_few ls ss h = omega (arith, spelled_few ls ss h.spell, h.few)
