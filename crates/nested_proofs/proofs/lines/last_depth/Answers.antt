-- The last item of the lines is the one that the depth is taken of.
use Rattle.nested_proofs.proofs.Growing.{depth_at_end}
use Rattle.nested_proofs.proofs.lines.last_depth.Goals as goal

pub returns-in-len1-up : goal.returns-in-len1-up
returns-in-len1-up c = record { value = depth_at_end 1 c.args.lines.now c.last-item.result c.in-len1-up.len_at_least c.last-item.is }
