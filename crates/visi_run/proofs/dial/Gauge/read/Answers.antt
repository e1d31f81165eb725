use Rattle.std.proofs.Common.{arith, ap, sym, ◌∙◌}
use Rattle.visi_run.specs.Gauges.{Dial, Reader}
use Rattle.visi_run.proofs.Glances.{reads}
use Rattle.visi_run.proofs.dial.Gauge.read.Goals as goal

pub load_as-requires : goal.load_as-requires
load_as-requires g c = (omega arith, (omega arith, (ap (λ (r : Reader). r.cell) c.g.view_is ∙ c.requires ∙ sym (ap (λ (d : Dial). d.cell) c.self.view_is), reads _ _)))
