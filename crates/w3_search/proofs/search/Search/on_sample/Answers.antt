use Rattle.std.proofs.Common.{sym, subst, ap, arith, length}
use Rattle.w3_search.specs.History.{IsHistory}
use Rattle.w3_search.proofs.Whole.{step_keeps}
use Rattle.w3_search.proofs.search.Search.on_sample.Goals as goal

pub invariant_of-self : goal.invariant_of-self
invariant_of-self c =
    subst IsHistory (sym c.step.ensures.state)
    (step_keeps c.args.t c.args.samples.now c.self.inside.state c.self.invariant)

pub overflow_cast-result : goal.overflow_cast-result
overflow_cast-result c = omega (arith, c.step.ensures.few, ap length c.drops.ensures)
