use Rattle.report_lines.proofs.BinRead.{bin_is_read}
use Rattle.report_lines.proofs.HartRead.{hart_is_read}
use Rattle.report_lines.proofs.HistogramRead.{histogram_is_read}
use Rattle.report_lines.proofs.NodeRead.{node_is_read}
use Rattle.report_lines.proofs.RefusedRead.{refused_is_read}
use Rattle.report_reader.proofs.ReportRead.{report_is_read}
use Rattle.report_reader.proofs.laws.report_is_read.Goals as goal

pub returns : goal.returns
returns c = report_is_read hart_is_read refused_is_read bin_is_read histogram_is_read node_is_read
