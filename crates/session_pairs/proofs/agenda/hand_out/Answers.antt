use Rattle.std.proofs.Common.{◌∙◌, ap, sym}
use Rattle.instrument.specs.Scenes.{Hands}
use Rattle.instrumented.specs.Data.{InstrumentedData}
use Rattle.session_pairs.proofs.Repeated.{hands_nothing, once_more}
use Rattle.session_pairs.proofs.agenda.hand_out.Goals as goal

pub loop-preserved : goal.loop-preserved
loop-preserved c = record {
  coming = once_more Hands c.args.count c.loop.counter c.loop.machine c.hand.new.self c.loop-test.true c.hand.ensures.state ∙ c.loop.invariant.coming;
  ready = ap (λ (d : InstrumentedData). d.ready) c.hand.ensures.state ∙ c.loop.invariant.ready;
  harts = c.hand.ensures.harts ∙ c.loop.invariant.harts;
}

pub returns-then-agenda_len-eq0-clause-machine : goal.returns-then-agenda_len-eq0-clause-machine
returns-then-agenda_len-eq0-clause-machine c = hands_nothing c.args.count c.args.machine.now (sym c.agenda_len.ensures ∙ c.if-agenda_len-eq0.true)
