use Rattle.std.proofs.Common.{sym, subst}
use Rattle.instrumented.specs.Data.{InstrumentedData}
use Rattle.session_pairs.specs.SampledPairs.{AreLive}
use Rattle.session_pairs.proofs.Live.{live_drops}
use Rattle.session.specs.Tables.{StateTable, shown_in}
use Rattle.session.proofs.stored.StoredState.judge.Goals as goal

pub returns-clause-live : goal.returns-clause-live
returns-clause-live c =
    let s = c.self.inside in
    let a = subst (λ (t : StateTable). AreLive t.machine.state.placer t.pairs t.live) (sym c.self.view_is) c.requires.live in
    subst (λ (d : InstrumentedData). AreLive d.state.placer s.pairs.all.items s.pairs.live.items) (sym c.drop_tests.ensures.machine)
    (live_drops c.drops.result.now (shown_in s.pairs.all.items) s.machine.state s.pairs.all.items s.pairs.live.items a)
