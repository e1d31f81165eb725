use Rattle.std.proofs.Common.{List, arith, ap, subst}
use Rattle.visi_run.specs.declared.dial.Reading.{Reading}
use Rattle.visi_run.specs.declared.sight.Sight.{Sight}
use Rattle.visi_run.specs.Sights.{Settles}
use Rattle.visi_run.specs.Gauges.{Writer, AllStand}
use Rattle.visi_run.proofs.Glances.{closes, stand_by}
use Rattle.visi_run.proofs.dial.Gauge.close.Goals as goal

pub load_as-requires : goal.load_as-requires
load_as-requires g c = (omega arith, (omega arith, (c.take_in-pass.ensures.cell, closes _ _ (ap (λ (s : Sight). s.sets) c.take_in-pass.ensures.lists))))

pub returns-clause-stand : goal.returns-clause-stand
returns-clause-stand g c =
    let s = subst (λ (v : Sight). Settles v c.load_as.result) c.take_in-pass.ensures.lists c.load_as.ensures.rule in
    subst (λ (l : List Reading). AllStand l c.args.readers.items) (ap (λ (w : Writer). w.list) c.w.view_is) (stand_by _ c.args.readers.items s.lists)
