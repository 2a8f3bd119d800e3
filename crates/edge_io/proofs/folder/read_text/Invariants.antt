use Rattle.std.proofs.Common.{◌-◌, length}
use Rattle.edge_io.proofs.folder.read_text.Given as goal

abbrev pub decreases-loop-room : goal.decreases-loop-room
decreases-loop-room g l = 262145 - length l.text
