use Rattle.boole_table.proofs.TableOnce.{table_once, table_not_failing, fault_once}
use Rattle.boole_table.proofs.Judging.{verdict_once}
use Rattle.boole_table.proofs.laws.table_text_laws.Goals as goal

pub returns : goal.returns
returns c = record {
  table_once = table_once;
  line_once = λ asked text n m f g h k. (fault_once asked text n m f g h k).number;
  fault_once = λ asked text n m f g h k. (fault_once asked text n m f g h k).is;
  not_both = table_not_failing;
  verdict_once = verdict_once;
}
