use Rattle.std.proofs.Common.{◌≡◌, ◌+◌, [], ◌∷◌, ◌++◌, sym, ap, ◌∙◌, subst}
use Rattle.live_run.specs.Serving.{AreHartsBelow}
use Rattle.live_run.proofs.Serves.{own_more, own_same}
use Rattle.live_run.proofs.worker.harts_of.Goals.{then-hart-team+in_ok-push_back, else-hart-team}
use Rattle.live_run.proofs.worker.harts_of.Goals as goal

pub loop-hart-preserved : goal.loop-hart-preserved
loop-hart-preserved c = elim c.if-hart-team.branch [
  | then-hart-team+in_ok-push_back w ↦
      (let same : c.if-hart-team.own.items ≡ c.loop-hart.own.items ++ c.loop-hart.hart ∷ [] = ap (λ q. q.items) w.own-is ∙ w.in_ok-push_back.ensures.items in
      subst (AreHartsBelow (c.loop-hart.hart + 1) c.args.team.workers c.args.worker) (sym same) (own_more c.loop-hart.hart c.args.team.workers c.args.worker c.loop-hart.own.items c.loop-hart.invariant w.if-hart-team.true))
  | else-hart-team w ↦
      (let same : c.if-hart-team.own.items ≡ c.loop-hart.own.items = ap (λ q. q.items) w.own-is in
      subst (AreHartsBelow (c.loop-hart.hart + 1) c.args.team.workers c.args.worker) (sym same) (own_same c.loop-hart.hart c.args.team.workers c.args.worker c.loop-hart.own.items c.loop-hart.invariant w.if-hart-team.false))
]
