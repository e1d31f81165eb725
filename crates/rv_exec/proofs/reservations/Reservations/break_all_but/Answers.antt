use Rattle.std.proofs.Common.{rules, ◌∙◌}
use Rattle.rv_exec.proofs.Breaks.{stepped}
use Rattle.rv_exec.proofs.reservations.Reservations.break_all_but.Goals as goal

pub loop-i-preserved : goal.loop-i-preserved
loop-i-preserved c =
    record { len = search rules; on = search rules; broken = stepped c.loop-i.i c.args.hart c.args.first c.args.last c.left_of.result c.index.result.now c.loop-i.self-inside.of.items (search rules) c.left_of.ensures c.index.ensures ∙ c.loop-i.invariant.broken }
