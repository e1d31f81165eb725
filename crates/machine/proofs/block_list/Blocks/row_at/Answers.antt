use Rattle.std.proofs.Common.{◌∙◌}
use Rattle.machine.proofs.BlockLooks.{begins_same}
use Rattle.machine.proofs.block_list.Blocks.row_at.Goals as goal

pub returns : goal.returns
returns c = c.row_of_point.ensures ∙ begins_same c.args.point c.args.at c.args.self.now.rows c.requires
