use Rattle.std.proofs.Common.{arith, sym, ap, ◌∙◌}
use Rattle.live_run.proofs.Entering.{hires_as}
use Rattle.live_run.proofs.shared.hire_all.Goals as goal

pub split_seat-seat-requires : goal.split_seat-seat-requires
split_seat-seat-requires g c =
    let i = c.loop-worker.invariant in
    let w = c.args.word.now in
    (i.table ∙ sym w.named, let one = w.one in omega arith, hires_as _ _ _ _ _ (ap (λ m. m.0) i.me))
