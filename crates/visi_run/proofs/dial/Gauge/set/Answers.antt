use Rattle.std.proofs.Common.{List, arith, ap, sym, subst, ◌∙◌}
use Rattle.visi_run.specs.declared.dial.Reading.{Reading}
use Rattle.visi_run.specs.declared.sight.Sight.{Sight}
use Rattle.visi_run.specs.Readings.{MayFollow, last_of}
use Rattle.visi_run.specs.Gauges.{Dial, Writer}
use Rattle.visi_run.proofs.Glances.{sets}
use Rattle.visi_run.proofs.dial.Gauge.set.Goals as goal

pub swap_as-requires : goal.swap_as-requires
swap_as-requires g c = (
  omega arith,
  (
    omega arith,
    (
      ap (λ (w : Writer). w.cell) c.w.view_is ∙ c.requires.cell ∙ sym (ap (λ (d : Dial). d.cell) c.self.view_is),
      sets _ _ _ (ap (λ (s : Sight). s.sets) c.w.invariant) (subst (λ (l : List Reading). MayFollow (last_of l) c.args.r) (sym (ap (λ (w : Writer). w.list) c.w.view_is)) c.requires.follows),
    ),
  ),
)
