use Rattle.play_text.proofs.Once.{play_once, fault_once, never_both}
use Rattle.play_text.proofs.laws.play_text_laws.Goals as goal

pub returns : goal.returns
returns c = record { play = play_once; fault = fault_once; apart = never_both }
