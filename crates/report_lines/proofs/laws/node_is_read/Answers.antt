use Rattle.report_lines.proofs.NodeRead.{node_is_read}
use Rattle.report_lines.proofs.laws.node_is_read.Goals as goal

pub returns : goal.returns
returns c = node_is_read
