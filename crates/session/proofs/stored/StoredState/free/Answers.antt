use Rattle.std.proofs.Common.{◌≡◌, ℕ, List, ap, sym, subst}
use Rattle.tramp_spec.specs.Harts.{Hart}
use Rattle.machine.specs.Events.{AreOutside, IsQuiet}
use Rattle.instrument.specs.Scenes.{Sweeps}
use Rattle.instrumented.specs.Data.{InstrumentedData}
use Rattle.session_pairs.specs.declared.pair.SampledPair.{SampledPair}
use Rattle.session_pairs.specs.SampledPairs.{AreLive, live_of}
use Rattle.session_pairs.proofs.Live.{live_forgotten, live_repeated}
use Rattle.session.specs.Tables.{StateTable}
use Rattle.session.proofs.stored.StoredState.free.Goals as goal

pub sweep-requires : goal.sweep-requires
sweep-requires c = subst (λ (t : StateTable). IsQuiet t.machine.state.core) (sym c.self.view_is) c.requires.quiet

pub returns-clause-quiet : goal.returns-clause-quiet
returns-clause-quiet c =
    let quiet = subst (λ (t : StateTable). IsQuiet t.machine.state.core) (sym c.self.view_is) c.requires.quiet in
    subst (λ (hs : List Hart). AreOutside hs) (sym c.sweep.ensures.harts) quiet

pub returns-clause-live : goal.returns-clause-live
returns-clause-live c =
    let s = c.self.inside in
    let e = c.forget_gone.ensures in
    let a = subst (λ (t : StateTable). AreLive t.machine.state.placer t.pairs t.live) (sym c.self.view_is) c.requires.live in
    let swept : AreLive c.sweep.new.machine.state.placer s.pairs.all.items s.pairs.live.items =
    subst (λ (d : InstrumentedData). AreLive d.state.placer s.pairs.all.items s.pairs.live.items) (sym c.sweep.ensures.machine) (live_repeated s.machine.state s.pairs.all.items s.pairs.live.items a c.agenda_len-entries.result Sweeps tt) in
    let all : c.forget_gone.new.self.all.items ≡ s.pairs.all.items = ap (λ v. v.items) e.all in
    subst (λ (l : List ℕ). AreLive c.sweep.new.machine.state.placer c.forget_gone.new.self.all.items l) (sym e.live)
    (subst (λ (ks : List SampledPair). AreLive c.sweep.new.machine.state.placer ks (live_of c.sweep.new.machine.state.placer s.pairs.all.items s.pairs.live.items)) (sym all) (live_forgotten c.sweep.new.machine.state.placer s.pairs.all.items s.pairs.live.items swept))
