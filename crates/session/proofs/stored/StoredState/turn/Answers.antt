use Rattle.std.proofs.Common.{ap, arith, sym, subst}
use Rattle.instrumented.specs.Data.{InstrumentedData}
use Rattle.machine.specs.States.{quantum_turns}
use Rattle.session_pairs.specs.SampledPairs.{AreLive}
use Rattle.session_pairs.proofs.Live.{live_taken}
use Rattle.machine.proofs.Quanta.{quanta_are_legal}
use Rattle.session.specs.Tables.{StateTable}
use Rattle.session.proofs.stored.StoredState.turn.Goals as goal

pub returns-clause-idle : goal.returns-clause-idle
returns-clause-idle c =
    let few = (quanta_are_legal c.args.most c.args.hart c.self.inside.machine.state.core).bound in
    let idle = ap (λ (t : StateTable). t.idle) c.self.view_is in
    let turns = c.take_turns-taken.ensures.turns in
    let from = c.from.ensures in
    let less = c.saturating_sub.ensures in
    let more = c.from-2.ensures in
    omega arith

pub returns-clause-live : goal.returns-clause-live
returns-clause-live c live =
    let s = c.self.inside in
    let a = subst (λ (t : StateTable). AreLive t.machine.state.placer t.pairs t.live) (sym c.self.view_is) live in
    subst (λ (d : InstrumentedData). AreLive d.state.placer s.pairs.all.items s.pairs.live.items) (sym c.take_turns-taken.ensures.taken)
    (live_taken s.machine.state s.pairs.all.items s.pairs.live.items a (quantum_turns c.args.most c.args.hart s.machine.state.core))
