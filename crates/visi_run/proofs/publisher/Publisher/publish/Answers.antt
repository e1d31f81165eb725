use Rattle.std.proofs.Common.{◌++◌, map, ap, ◌∙◌}
use Rattle.visi_run.proofs.Desks.{alike_grows}
use Rattle.visi_run.proofs.publisher.Publisher.publish.Goals as goal

pub invariant_of-self-2 : goal.invariant_of-self-2
invariant_of-self-2 c =
    alike_grows c.self.inside.lanes.items c.push_all.new.lanes.items c.args.items.now c.self.invariant.0 c.self.invariant.1 (c.push_all.ensures.alls ∙ ap (map (λ xs. xs ++ c.args.items.now)) c.reserve_all.ensures.alls)
