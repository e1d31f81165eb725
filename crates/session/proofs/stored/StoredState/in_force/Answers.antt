use Rattle.std.proofs.Common.{◌≡◌, ◌+◌, ◌<◌, ◌^◌, ℕ, List, ap, ◌∙◌, arith, length}
use Rattle.std.specs.Prelude.{drop, get_or, slice_index_or}
use Rattle.std.specs.List.{AllByRecursion}
use Rattle.std.proofs.lemmas.Bool.{cond_both}
use Rattle.std.proofs.lemmas.List.{get_or_default}
use Rattle.instrument.specs.Placements.{state_of}
use Rattle.session_spec.specs.Tests.{is_gone}
use Rattle.session_pairs.specs.SampledPairs.{AreLive}
use Rattle.session_pairs.specs.declared.pair.SampledPair.{SampledPair}
use Rattle.session_pairs.proofs.Places.{few_live}
use Rattle.session_pairs.proofs.Sums.{all_at, place_within, sum_at, sum_step}
use Rattle.session.specs.NodeCandidates.{counted}
use Rattle.session.specs.Tables.{StateTable}
use Rattle.session.proofs.Forces.{live_force}
use Rattle.session.proofs.stored.StoredState.in_force.Goals as goal

-- the place that was read is that of a pair
module _ (t : StateTable) (live : AreLive t.machine.state.placer t.pairs t.live) (read : List ℕ) (is : read ≡ t.live) (turn : ℕ) (l : turn < length read) where
  abbrev at : ℕ
  at = slice_index_or read turn 0

  low : turn < length t.live
  low = omega (arith, l, ap length is)

  at_is : at ≡ get_or t.live turn at
  at_is = ap (λ xs. get_or xs turn 0) is ∙ get_or_default t.live turn 0 at low

  place_in : at < length t.pairs
  place_in = place_within t.machine.state.placer t.pairs t.live turn at live.places low at_is

  module _ (k : SampledPair) (k_is : k ≡ get_or t.pairs at k) where
    sum_on : sum_at (counted t.machine.state.placer) t.pairs (drop turn t.live) ≡ counted t.machine.state.placer k + sum_at (counted t.machine.state.placer) t.pairs (drop (turn + 1) t.live)
    sum_on = sum_step (counted t.machine.state.placer) t.pairs t.live turn at k low at_is place_in k_is

    counted_low : AllByRecursion (λ (x : SampledPair). x.cost < 2 ^ 32) t.pairs → counted t.machine.state.placer k < 2 ^ 32
    counted_low a =
        let cost = all_at (λ (x : SampledPair). x.cost < 2 ^ 32) t.pairs at k a place_in k_is in
        cond_both (is_gone (state_of t.machine.state.placer k.shown.instrument.n)) 0 k.cost (λ n. n < 2 ^ 32) (λ _. omega arith) (λ _. cost)

    turn_few : length t.pairs < 2 ^ 31 → turn < 2 ^ 31
    turn_few few = omega (arith, low, few, few_live 0 t.machine.state.placer t.pairs t.live live.places)

pub loop-place-init : goal.loop-place-init
loop-place-init c = let t = c.args.self.now in record { sum = omega (arith, live_force t.machine.state.placer t.pairs t.live (c.requires.live).places); low = omega arith }

pub index-requires : goal.index-requires
index-requires c =
    let is = c.deref-place-items.ensures.value ∙ ap (λ (x : StateTable). x.live) c.self.view_is in
    let in_pairs = place_in c.args.self.now c.requires.live c.deref-place-items.result.now is c.loop-place.place-index c.loop-place-test.true in
    omega (arith, in_pairs, ap (λ (x : StateTable). length x.pairs) c.self.view_is, c.self.inside.pairs.all.ok.0)

pub overflow_add-force : goal.overflow_add-force
overflow_add-force c =
    let t = c.args.self.now in
    let is = c.deref-place-items.ensures.value ∙ ap (λ (x : StateTable). x.live) c.self.view_is in
    let read = c.deref-place-items.result.now in
    let turn = c.loop-place.place-index in
    let k = c.index.result.now in
    let k_is = c.index.ensures ∙ ap (λ (x : StateTable). get_or x.pairs (slice_index_or read turn 0) k) c.self.view_is in
    omega (arith, c.loop-place.invariant.low, c.counted-force.ensures, turn_few t c.requires.live read is turn c.loop-place-test.true k k_is c.requires.few, counted_low t c.requires.live read is turn c.loop-place-test.true k k_is c.requires.low)

pub loop-place-preserved : goal.loop-place-preserved
loop-place-preserved c =
    let t = c.args.self.now in
    let is = c.deref-place-items.ensures.value ∙ ap (λ (x : StateTable). x.live) c.self.view_is in
    let read = c.deref-place-items.result.now in
    let turn = c.loop-place.place-index in
    let k = c.index.result.now in
    let k_is = c.index.ensures ∙ ap (λ (x : StateTable). get_or x.pairs (slice_index_or read turn 0) k) c.self.view_is in
    record {
      sum = omega (arith, c.loop-place.invariant.sum, c.counted-force.ensures, sum_on t c.requires.live read is turn c.loop-place-test.true k k_is);
      low = omega (arith, c.loop-place.invariant.low, c.counted-force.ensures, counted_low t c.requires.live read is turn c.loop-place-test.true k k_is c.requires.low);
    }

pub returns-clause-bound : goal.returns-clause-bound
returns-clause-bound c =
    let t = c.args.self.now in
    let is = c.deref-place-items.ensures.value ∙ ap (λ (x : StateTable). x.live) c.self.view_is in
    omega (arith, c.loop-place.invariant.low, c.loop-place.auto.place-index-end, ap length is, c.requires.few, few_live 0 t.machine.state.placer t.pairs t.live (c.requires.live).places)
