use Rattle.std.proofs.Common.{◌≡◌, ℕ, ◌<◌, ◌^◌, List, ap, sym, subst, length}
use Rattle.std.specs.List.{AllByRecursion}
use Rattle.session_pairs.specs.declared.pair.SampledPair.{SampledPair}
use Rattle.session_pairs.specs.SampledPairs.{AreLive, HasHarts}
use Rattle.session_pairs.proofs.Live.{live_sampled}
use Rattle.session.specs.Tables.{CanSample, StateTable}
use Rattle.session.proofs.Fits.{harts_sampled}
use Rattle.session.proofs.Sampling.{small_harts}
use Rattle.session.proofs.stored.StoredState.sample.Goals as goal

pub sample_pairs-requires-clause-small : goal.sample_pairs-requires-clause-small
sample_pairs-requires-clause-small c =
    let s = c.self.inside in
    let can = subst CanSample (sym c.self.view_is) c.requires.sampled in
    small_harts s.machine.state.core.harts s.time can.ticks (subst (λ (t : StateTable). t.time < 2 ^ 58) (sym c.self.view_is) c.requires.time)

pub returns-clause-live : goal.returns-clause-live
returns-clause-live c =
    let s = c.self.inside in
    let e = c.sample_pairs.ensures in
    let a = subst (λ (t : StateTable). AreLive t.machine.state.placer t.pairs t.live) (sym c.self.view_is) c.requires.sampled.live in
    let same : c.sample_pairs.new.pairs.live.items ≡ s.pairs.live.items = ap (λ v. v.items) e.live in
    subst (λ (l : List ℕ). AreLive s.machine.state.placer c.sample_pairs.new.pairs.all.items l) (sym same)
    (subst (λ (ks : List SampledPair). AreLive s.machine.state.placer ks s.pairs.live.items) (sym e.pairs)
    (live_sampled s.machine.state s.time s.machine.state.placer s.pairs.all.items s.pairs.live.items a))

pub returns-clause-harts : goal.returns-clause-harts
returns-clause-harts c =
    let s = c.self.inside in
    let n = length c.args.self.now.machine.state.core.harts in
    let pairs = subst (λ (t : StateTable). AllByRecursion (HasHarts n) t.pairs) (sym c.self.view_is) c.requires.sampled.harts in
    subst (λ (ks : List SampledPair). AllByRecursion (HasHarts n) ks) (sym c.sample_pairs.ensures.pairs) (harts_sampled n (s.machine).state s.time s.pairs.all.items pairs)
