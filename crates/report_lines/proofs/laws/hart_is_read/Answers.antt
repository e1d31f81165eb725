use Rattle.report_lines.proofs.HartRead.{hart_is_read}
use Rattle.report_lines.proofs.laws.hart_is_read.Goals as goal

pub returns : goal.returns
returns c = hart_is_read
