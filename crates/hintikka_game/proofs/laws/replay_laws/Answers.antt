use Rattle.hintikka_game.proofs.OneReplay.{one_replay, one_refusal, never_both}
use Rattle.hintikka_game.proofs.Playing.{never_won}
use Rattle.hintikka_game.proofs.Running.{is_short, lost_exactly}
use Rattle.hintikka_game.proofs.Winning.{wins_is_kept, wins_recursion}
use Rattle.hintikka_game.proofs.laws.replay_laws.Goals as goal

pub returns : goal.returns
returns c = record {
  once = one_replay;
  refused_once = one_refusal;
  apart = never_both;
  never_won = never_won;
  short = is_short;
  wins = wins_is_kept;
  rules = wins_recursion;
  losing = lost_exactly;
}
