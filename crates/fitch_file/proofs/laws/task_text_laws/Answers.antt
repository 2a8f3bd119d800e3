use Rattle.fitch_file.proofs.Once.{SentenceLaws}
use Rattle.fitch_file.proofs.TaskOnce.{task_once, task_fault_once, task_not_faulty}
use Rattle.fitch_file.proofs.laws.task_text_laws.Goals as goal

pub returns : goal.returns
returns c =
    let laws : SentenceLaws = record { spelled = c.spelled_once.ensures.once; refused = c.refused_once.ensures.once; apart = c.refused_once.ensures.readable } in
    record {
      task_once = task_once laws;
      line_once = λ text n m f g h k. (task_fault_once laws h m g k).number;
      fault_once = λ text n m f g h k. (task_fault_once laws h m g k).is;
      not_both = λ text t n f h k. task_not_faulty laws k t h;
    }
