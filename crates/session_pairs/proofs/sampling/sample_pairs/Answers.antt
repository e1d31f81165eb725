use Rattle.std.proofs.Common.{◌≡◌, ℕ, ◌+◌, ◌<◌, ◌≤◌, List, drop, get_or, length, refl, ap, ◌∙◌, arith, length-append}
use Rattle.std.specs.Prelude.{vec_len}
use Rattle.instrumented.specs.Instrumented.{Instrumented}
use Rattle.w3_search.specs.declared.node.NodeSample.{NodeSample}
use Rattle.session_spec.specs.declared.data.LatestSample.{LatestSample}
use Rattle.session_pairs.specs.declared.pair.SampledPair.{SampledPair}
use Rattle.session_pairs.specs.SampledPairs.{pair_ticks, latest_by, test_by}
use Rattle.session_pairs.proofs.Places.{Here, Walk, few_live, turn_last, turn_next, walk_at, walk_end, walk_on, walk_start, walk_within}
use Rattle.session_pairs.proofs.Walks.{AreSampled, all_sampled, behind_within, few_latest, few_tests, sampled_more, sampled_pass}
use Rattle.session_pairs.proofs.sampling.sample_pairs.Goals as goal

-- the pair that was read in a turn is at its place
here : {m : Instrumented} {time : ℕ} {marks : List ℕ} {old : List SampledPair} {ls : List LatestSample} {ts : List NodeSample} {latest : List LatestSample} {tests : List NodeSample} {wished : ℕ} {now : List SampledPair}
    (live : List ℕ) (turn at : ℕ) (k : SampledPair) → turn < length live → at ≡ get_or live turn at → k ≡ get_or now at k
    → Walk (AreSampled m time marks old ls ts latest tests wished) m.placer now (drop turn live) → Here (AreSampled m time marks old ls ts latest tests wished) m.placer now at k (drop (turn + 1) live)
here {m} {time} {marks} {old} {ls} {ts} {latest} {tests} {wished} live turn at k l e is w =
    walk_at (sampled_pass m time marks old ls ts latest tests wished) (turn_next live turn at at l e w) k is

pub loop-turn-init : goal.loop-turn-init
loop-turn-init c =
    let m = c.args.machine.now.state in
    let old = c.args.pairs.now.all.items in
    let ls = c.args.latest.now.items in
    let ts = c.args.tests.now.items in
    record {
      walk = walk_start (AreSampled m c.args.time c.args.marks.now old ls ts ls ts 0) m.placer old c.args.pairs.now.live.items c.requires.live
          (record { done = refl; latest = refl; tests = refl; harts = c.requires.harts; few = c.requires.few });
      live = refl;
      few = omega (arith, few_live 0 m.placer old c.args.pairs.now.live.items c.requires.live, c.args.pairs.now.live.ok.0, c.args.pairs.now.all.ok.0);
      wished = omega arith;
      many = refl;
      capacity = refl;
      no_less = omega arith;
      tests_no_less = omega arith;
      room = omega (arith, c.requires.room);
      test_room = omega (arith, c.requires.test_room);
      places = refl;
    }

pub index_mut-pair-requires : goal.index_mut-pair-requires
index_mut-pair-requires c =
    let before = c.loop-turn.invariant in
    let live = c.loop-turn.pairs.live.items in
    let l : c.loop-turn.turn < length live = omega (arith, c.loop-turn-test.true, c.len-turn-end.ensures, ap vec_len before.live, c.loop-turn.pairs.live.ok.0) in
    let pass = sampled_pass c.args.machine.now.state c.args.time c.args.marks.now c.args.pairs.now.all.items c.args.latest.now.items c.args.tests.now.items c.loop-turn.latest.items
    c.loop-turn.tests.items c.loop-turn.wished in
    omega (arith, walk_within pass (turn_next live c.loop-turn.turn c.index-place.result.now c.index-place.result.now l c.index-place.ensures before.walk), c.loop-turn.pairs.all.ok.0)

pub sample_pair-bin-requires-clause-harts : goal.sample_pair-bin-requires-clause-harts
sample_pair-bin-requires-clause-harts c =
    let before = c.loop-turn.invariant in
    let live = c.loop-turn.pairs.live.items in
    let l : c.loop-turn.turn < length live = omega (arith, c.loop-turn-test.true, c.len-turn-end.ensures, ap vec_len before.live, c.loop-turn.pairs.live.ok.0) in
    let h = here live c.loop-turn.turn c.index-place.result.now c.index_mut-pair.result.now l c.index-place.ensures c.index_mut-pair.ensures.value before.walk in
    (h.holds).harts.0

pub sample_pair-bin-requires-clause-few : goal.sample_pair-bin-requires-clause-few
sample_pair-bin-requires-clause-few c =
    let before = c.loop-turn.invariant in
    let live = c.loop-turn.pairs.live.items in
    let l : c.loop-turn.turn < length live = omega (arith, c.loop-turn-test.true, c.len-turn-end.ensures, ap vec_len before.live, c.loop-turn.pairs.live.ok.0) in
    let h = here live c.loop-turn.turn c.index-place.result.now c.index_mut-pair.result.now l c.index-place.ensures c.index_mut-pair.ensures.value before.walk in
    (h.holds).few.0

pub put_test-requires-clause-harts : goal.put_test-requires-clause-harts
put_test-requires-clause-harts c =
    let before = c.loop-turn.invariant in
    let live = c.loop-turn.pairs.live.items in
    let l : c.loop-turn.turn < length live = omega (arith, c.loop-turn-test.true, c.len-turn-end.ensures, ap vec_len before.live, c.loop-turn.pairs.live.ok.0) in
    let h = here live c.loop-turn.turn c.index-place.result.now c.index_mut-pair.result.now l c.index-place.ensures c.index_mut-pair.ensures.value before.walk in
    (h.holds).harts.0

pub loop-turn-preserved : goal.loop-turn-preserved
loop-turn-preserved c =
    let m = c.args.machine.now.state in
    let time = c.args.time in
    let marks = c.args.marks.now in
    let old = c.args.pairs.now.all.items in
    let ls = c.args.latest.now.items in
    let ts = c.args.tests.now.items in
    let latest = c.loop-turn.latest.items in
    let tests = c.loop-turn.tests.items in
    let wished = c.loop-turn.wished in
    let live = c.loop-turn.pairs.live.items in
    let turn = c.loop-turn.turn in
    let at = c.index-place.result.now in
    let k = c.index_mut-pair.result.now in
    let new = c.sample_pair-bin.new.pair in
    let bin = c.sample_pair-bin.result in
    let ticks = pair_ticks m marks k in
    let before = c.loop-turn.invariant in
    let l : turn < length live = omega (arith, c.loop-turn-test.true, c.len-turn-end.ensures, ap vec_len before.live, c.loop-turn.pairs.live.ok.0) in
    let h = here live turn at k l c.index-place.ensures c.index_mut-pair.ensures.value before.walk in
    let now_latest = c.put_latest.new.list.items in
    let now_tests = c.put_test.new.list.items in
    let next = c.place_behind-wished.result in
    let holds = sampled_more m time marks old ls ts latest tests wished h.front k h.behind h.holds bin c.sample_pair-bin.ensures.bin new now_latest now_tests next c.sample_pair-bin.ensures.pair
    c.put_latest.ensures.items c.put_test.ensures.items c.place_behind-wished.ensures in
    let more = ap (λ (xs : List LatestSample). length xs) c.put_latest.ensures.items ∙ length-append latest (latest_by k.shown.node wished bin) in
    let more_tests = ap (λ (xs : List NodeSample). length xs) c.put_test.ensures.items ∙ length-append tests (test_by k.shown.node ticks bin) in
    record {
      walk = walk_on h (AreSampled m time marks old ls ts now_latest now_tests next) m.placer h.places new holds;
      live = before.live;
      few = before.few;
      wished = omega (arith, c.place_behind-wished.ensures, behind_within k.shown.node wished, before.wished);
      many = before.many;
      capacity = before.capacity;
      no_less = omega (arith, before.no_less, c.put_latest.ensures.room);
      tests_no_less = omega (arith, before.tests_no_less, c.put_test.ensures.room);
      room = omega (arith, more, few_latest k.shown.node wished bin, l, before.few, c.loop-turn.pairs.live.ok.0, before.room, c.put_latest.ensures.room);
      test_room = omega (arith, more_tests, few_tests k.shown.node ticks bin, l, before.few, c.loop-turn.pairs.live.ok.0, before.test_room, c.put_test.ensures.room);
      places = c.sample_pair-bin.ensures.places ∙ before.places;
    }

pub returns : goal.returns
returns c =
    let before = c.loop-turn.invariant in
    let live = c.loop-turn.pairs.live.items in
    let l : length live ≤ c.loop-turn.turn = omega (arith, c.loop-turn-test.false, c.len-turn-end.ensures, ap vec_len before.live, c.loop-turn.pairs.live.ok.0) in
    let pass = sampled_pass c.args.machine.now.state c.args.time c.args.marks.now c.args.pairs.now.all.items c.args.latest.now.items c.args.tests.now.items c.loop-turn.latest.items
    c.loop-turn.tests.items c.loop-turn.wished in
    let is = all_sampled (walk_end pass (turn_last live c.loop-turn.turn l before.walk)) in
    record {
      pairs = is.0;
      live = before.live;
      latest = is.1;
      tests = is.2;
      places = before.places;
      many = before.many;
      capacity = before.capacity;
      no_less = before.no_less;
      tests_no_less = before.tests_no_less;
    }
