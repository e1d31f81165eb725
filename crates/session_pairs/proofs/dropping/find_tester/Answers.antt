use Rattle.std.proofs.Common.{◌≡◌, ℕ, ◌+◌, ◌<◌, ◌≤◌, List, ◌∷◌, drop, get_or, length, sym, ap, ◌∙◌, arith}
use Rattle.std.specs.Prelude.{slice_index_or}
use Rattle.instrument.specs.Placements.{Placements}
use Rattle.session_pairs.specs.declared.pair.SampledPair.{SampledPair}
use Rattle.session_pairs.proofs.Places.{Walk, turn_last, turn_next, walk_at, walk_end, walk_past, walk_within}
use Rattle.session_pairs.proofs.Seeking.{IsSought, sought_end, sought_here, sought_more, sought_pass}
use Rattle.session_pairs.proofs.dropping.find_tester.Goals as goal

-- the place that was read is next
next : {p : Placements} {node : ℕ} {pairs : List SampledPair} (live read : List ℕ) (turn : ℕ) → read ≡ live → turn < length live → Walk (IsSought p node pairs) p pairs (drop turn live)
    → Walk (IsSought p node pairs) p pairs (slice_index_or read turn 0 ∷ drop (turn + 1) live)
next live read turn e l w = turn_next live turn (slice_index_or read turn 0) 0 l (ap (λ xs. get_or xs turn 0) e) w

pub index-pair-requires : goal.index-pair-requires
index-pair-requires c =
    let live = c.args.pairs.now.live.items in
    let e = c.deref-place-items.ensures.value in
    let l : c.loop-place.place-index < length live = omega (arith, c.loop-place-test.true, ap length e) in
    let pass = sought_pass c.args.machine.now.state.placer c.args.node c.args.pairs.now.all.items in
    omega (arith, walk_within pass (next live c.deref-place-items.result.now c.loop-place.place-index e l c.loop-place.invariant))

pub returns-then-tests : goal.returns-then-tests
returns-then-tests c =
    let p = c.args.machine.now.state.placer in
    let pairs = c.args.pairs.now.all.items in
    let live = c.args.pairs.now.live.items in
    let k = c.index-pair.result.now in
    let e = c.deref-place-items.ensures.value in
    let l : c.loop-place.place-index < length live = omega (arith, c.loop-place-test.true, ap length e) in
    let w = next live c.deref-place-items.result.now c.loop-place.place-index e l c.loop-place.invariant in
    let h = walk_at (sought_pass p c.args.node pairs) w k c.index-pair.ensures in
    sought_here p c.args.node pairs h.front k h.behind (sym c.tests.ensures ∙ c.if-tests.true) h.holds

pub loop-place-preserved : goal.loop-place-preserved
loop-place-preserved c =
    let p = c.args.machine.now.state.placer in
    let pairs = c.args.pairs.now.all.items in
    let live = c.args.pairs.now.live.items in
    let k = c.index-pair.result.now in
    let e = c.deref-place-items.ensures.value in
    let l : c.loop-place.place-index < length live = omega (arith, c.loop-place-test.true, ap length e) in
    let w = next live c.deref-place-items.result.now c.loop-place.place-index e l c.loop-place.invariant in
    let h = walk_at (sought_pass p c.args.node pairs) w k c.index-pair.ensures in
    walk_past h (IsSought p c.args.node pairs) p h.places (sought_more p c.args.node pairs h.front k h.behind (sym c.tests.ensures ∙ c.if-tests.false) h.holds)

pub returns : goal.returns
returns c =
    let p = c.args.machine.now.state.placer in
    let pairs = c.args.pairs.now.all.items in
    let live = c.args.pairs.now.live.items in
    let e = c.deref-place-items.ensures.value in
    let l : length live ≤ c.loop-place.place-index = omega (arith, c.loop-place-test.false, ap length e) in
    sought_end p c.args.node pairs pairs (walk_end (sought_pass p c.args.node pairs) (turn_last live c.loop-place.place-index l c.loop-place.invariant))
