use Rattle.std.proofs.Common.{◌≤◌, length}
use Rattle.boole_table.proofs.Listing.{Lists}
use Rattle.boole_table.proofs.list_line.read_sentences.Given as goal

abbrev pub invariant-loop-front : goal.invariant-loop-front
invariant-loop-front l = record {
  lists : Lists l.text l.rest l.sentences;
  fits : length l.rest ≤ length l.text;
}

abbrev pub decreases-loop-front : goal.decreases-loop-front
decreases-loop-front l = length l.rest
