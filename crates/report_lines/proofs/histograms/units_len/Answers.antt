use Rattle.std.proofs.Common.{length, ap, arith}
use Rattle.report_lines.proofs.histograms.units_len.Goals as goal

pub returns : goal.returns
returns c = omega (arith, ap length c.last_at.ensures, ap length c.last_at-2.ensures, ap length c.last_at-3.ensures)
