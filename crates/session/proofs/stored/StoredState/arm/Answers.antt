use Rattle.std.proofs.Common.{◌≡◌, ℕ, List, ap, sym, subst}
use Rattle.instrumented.specs.Data.{InstrumentedData}
use Rattle.session_pairs.specs.declared.pair.SampledPair.{SampledPair}
use Rattle.session_pairs.specs.SampledPairs.{AreLive, pairs_armed}
use Rattle.session_pairs.proofs.Live.{live_arms}
use Rattle.session.specs.Tables.{StateTable}
use Rattle.session.proofs.stored.StoredState.arm.Goals as goal

pub returns-clause-live : goal.returns-clause-live
returns-clause-live c =
    let s = c.self.inside in
    let e = c.arm_pairs.ensures in
    let a = subst (λ (t : StateTable). AreLive t.machine.state.placer t.pairs t.live) (sym c.self.view_is) c.requires.live in
    let same : c.arm_pairs.new.pairs.live.items ≡ s.pairs.live.items = ap (λ v. v.items) e.live in
    subst (λ (l : List ℕ). AreLive c.arm_pairs.new.machine.state.placer c.arm_pairs.new.pairs.all.items l) (sym same)
    (subst (λ (ks : List SampledPair). AreLive c.arm_pairs.new.machine.state.placer ks s.pairs.live.items) (sym e.pairs)
    (subst (λ (d : InstrumentedData). AreLive d.state.placer (pairs_armed s.time s.machine.state s.pairs.all.items) s.pairs.live.items) (sym e.machine) (live_arms s.time s.machine.state s.pairs.all.items s.pairs.live.items a)))
