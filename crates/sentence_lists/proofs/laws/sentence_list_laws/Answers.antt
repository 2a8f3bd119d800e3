use Rattle.sentence_lists.proofs.Once.{list_once, fault_once, never_both}
use Rattle.sentence_lists.proofs.laws.sentence_list_laws.Goals as goal

pub returns : goal.returns
returns c = record { list = list_once; fault = fault_once; apart = never_both }
