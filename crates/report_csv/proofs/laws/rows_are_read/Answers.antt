use Rattle.report_csv.proofs.RowsRead.{rows_read}
use Rattle.report_csv.proofs.laws.rows_are_read.Goals as goal

pub returns : goal.returns
returns c = rows_read
