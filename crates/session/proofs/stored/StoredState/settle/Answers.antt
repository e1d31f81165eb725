use Rattle.std.proofs.Common.{sym, subst}
use Rattle.instrumented.specs.Data.{InstrumentedData}
use Rattle.machine.specs.States.{settling}
use Rattle.session_pairs.specs.SampledPairs.{AreLive}
use Rattle.session_pairs.proofs.Live.{live_taken}
use Rattle.session.specs.Tables.{StateTable}
use Rattle.session.proofs.stored.StoredState.settle.Goals as goal

pub returns-clause-live : goal.returns-clause-live
returns-clause-live c live =
    let s = c.self.inside in
    let a = subst (λ (t : StateTable). AreLive t.machine.state.placer t.pairs t.live) (sym c.self.view_is) live in
    subst (λ (d : InstrumentedData). AreLive d.state.placer s.pairs.all.items s.pairs.live.items) (sym c.take_settling-taken.ensures.settled)
    (live_taken s.machine.state s.pairs.all.items s.pairs.live.items a (settling s.machine.state.core))
