use Rattle.report_lines.proofs.BinRead.{bin_is_read}
use Rattle.report_lines.proofs.laws.bin_is_read.Goals as goal

pub returns : goal.returns
returns c = bin_is_read
