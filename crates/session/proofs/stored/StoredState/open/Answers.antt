use Rattle.std.proofs.Common.{sym, subst}
use Rattle.instrument.specs.Scenes.{Hands}
use Rattle.instrumented.specs.Data.{InstrumentedData}
use Rattle.session_pairs.specs.SampledPairs.{AreLive}
use Rattle.session_pairs.proofs.Live.{live_repeated}
use Rattle.session.specs.Tables.{StateTable}
use Rattle.session.proofs.stored.StoredState.open.Goals as goal

pub arm-requires-clause-live : goal.arm-requires-clause-live
arm-requires-clause-live c =
    let s = c.self.inside in
    let a = subst (λ (t : StateTable). AreLive t.machine.state.placer t.pairs t.live) (sym c.self.view_is) c.requires.live in
    subst (λ (d : InstrumentedData). AreLive d.state.placer s.pairs.all.items s.pairs.live.items) (sym c.hand_out.ensures.machine)
    (live_repeated s.machine.state s.pairs.all.items s.pairs.live.items a c.agenda_len-entries.result Hands tt)
