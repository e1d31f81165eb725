use Rattle.std.proofs.Common.{◌≡◌, true, bytes_eq, sym, ap, ◌∙◌}
use Rattle.commands.proofs.PlanLemmas.{named_here}
use Rattle.commands.proofs.planning.metric_number.Goals as goal

pub returns-then-eq : goal.returns-then-eq
returns-then-eq c =
    let m = c.index-metrics-number.result in
    let test : bytes_eq c.args.name.now m.name ≡ true = ap (bytes_eq c.args.name.now) (sym c.bytes.ensures) ∙ sym c.eq.ensures ∙ c.if-eq.true in
    (c.loop-number-test.true, named_here c.args.name.now c.args.metrics.now c.loop-number.number m c.loop-number-test.true c.index-metrics-number.is test c.loop-number.invariant)
