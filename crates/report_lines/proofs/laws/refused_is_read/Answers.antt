use Rattle.report_lines.proofs.RefusedRead.{refused_is_read}
use Rattle.report_lines.proofs.laws.refused_is_read.Goals as goal

pub returns : goal.returns
returns c = refused_is_read
