use Rattle.std.proofs.Common.{◌-◌, ◌∙◌, ap, rules}
use Rattle.instrument.specs.Scenes.{Sweeps}
use Rattle.instrumented.specs.Data.{InstrumentedData}
use Rattle.session_pairs.proofs.Repeated.{none_more, once_more}
use Rattle.session_pairs.proofs.agenda.sweep.Goals as goal

pub loop-preserved : goal.loop-preserved
loop-preserved c = record {
  coming = once_more Sweeps c.args.count c.loop.counter c.loop.machine c.sweep.new.self c.loop-test.true c.sweep.ensures.state ∙ c.loop.invariant.coming;
  ready = ap (λ (d : InstrumentedData). d.ready) c.sweep.ensures.state ∙ c.loop.invariant.ready;
  harts = c.sweep.ensures.harts ∙ c.loop.invariant.harts;
}

pub returns-then-not-sweep-clause-machine : goal.returns-then-not-sweep-clause-machine
returns-then-not-sweep-clause-machine c =
    none_more Sweeps c.args.count (c.args.count - c.loop.counter) c.args.machine.now c.loop.machine c.sweep.new.self c.sweep.ensures.state
    (c.if-not-sweep.ensures.none (search rules)) c.loop.invariant.coming c.loop.invariant.ready
