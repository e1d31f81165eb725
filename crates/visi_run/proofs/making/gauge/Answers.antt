use Rattle.std.proofs.Common.{arith}
use Rattle.visi_run.proofs.Glances.{opens, admits}
use Rattle.visi_run.proofs.making.gauge.Goals as goal

pub ruled-requires : goal.ruled-requires
ruled-requires c = (omega arith, (omega arith, opens))

pub split_pass-pass-requires : goal.split_pass-pass-requires
split_pass-pass-requires c = (omega arith, (omega arith, (c.loop-reader.invariant.table, admits _ _)))
