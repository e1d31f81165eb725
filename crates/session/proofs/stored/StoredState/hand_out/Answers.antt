use Rattle.std.proofs.Common.{sym, subst}
use Rattle.instrument.specs.Scenes.{Hands}
use Rattle.instrumented.specs.Data.{InstrumentedData}
use Rattle.session_pairs.specs.SampledPairs.{AreLive}
use Rattle.session_pairs.proofs.Live.{live_repeated}
use Rattle.session.specs.Tables.{StateTable}
use Rattle.session.proofs.stored.StoredState.hand_out.Goals as goal

pub returns-clause-live : goal.returns-clause-live
returns-clause-live c =
    let s = c.self.inside in
    let a = subst (λ (t : StateTable). AreLive t.machine.state.placer t.pairs t.live) (sym c.self.view_is) c.requires.live in
    subst (λ (d : InstrumentedData). AreLive d.state.placer s.pairs.all.items s.pairs.live.items) (sym c.hand_out.ensures.machine) (live_repeated s.machine.state s.pairs.all.items s.pairs.live.items a 8 Hands tt)
