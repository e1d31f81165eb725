use Rattle.std.proofs.Common.{◌≡◌, ℕ, ◌+◌, ◌<◌, ◌≤◌, List, drop, get_or, length, refl, sym, ap, ap₂, subst, ◌∙◌, arith}
use Rattle.std.specs.Prelude.{vec_len}
use Rattle.instrument.specs.Needs.{Need}
use Rattle.instrumented.specs.Data.{InstrumentedData}
use Rattle.instrumented.specs.Instrumented.{Instrumented}
use Rattle.session_spec.specs.Due.{machine_armed}
use Rattle.session_pairs.specs.declared.pair.SampledPair.{SampledPair}
use Rattle.session_pairs.specs.SampledPairs.{HasHarts}
use Rattle.session_pairs.proofs.Armings.{AreArmed, all_armed, armed_more, armed_pass, armed_places}
use Rattle.session_pairs.proofs.Places.{Here, Walk, turn_last, turn_next, walk_at, walk_end, walk_on, walk_start, walk_within}
use Rattle.session_pairs.proofs.arming.arm_pairs.Goals as goal

abbrev machine_with : Instrumented → List Need → InstrumentedData
machine_with state ready = record { state = state; ready = ready }

-- the pair that was read in a turn is at its place
here : {time : ℕ} {first : Instrumented} {old : List SampledPair} {harts : ℕ} {m : Instrumented} {now : List SampledPair} (live : List ℕ) (turn at : ℕ) (k : SampledPair) → turn < length live → at ≡ get_or live turn at
    → k ≡ get_or now at k → Walk (AreArmed time first old harts m) m.placer now (drop turn live) → Here (AreArmed time first old harts m) m.placer now at k (drop (turn + 1) live)
here {time} {first} {old} {harts} {m} live turn at k l e is w = walk_at (armed_pass time first old harts m) (turn_next live turn at at l e w) k is

pub loop-turn-init : goal.loop-turn-init
loop-turn-init c =
    let m = c.args.machine.now.state in
    let old = c.args.pairs.now.all.items in
    let live = c.requires.live in
    record {
      walk = walk_start (AreArmed c.args.time m old (length m.core.harts) m) m.placer old c.args.pairs.now.live.items live.places
          (record { machine = refl; done = refl; roster = live.roster; below = live.below; harts = c.requires.harts });
      ready = refl;
      live = refl;
      many = refl;
      capacity = refl;
      quiet = c.requires.quiet;
      same = refl;
      places = refl;
    }

pub index_mut-requires : goal.index_mut-requires
index_mut-requires c =
    let first = c.args.machine.now.state in
    let before = c.loop-turn.invariant in
    let live = c.loop-turn.pairs.live.items in
    let l : c.loop-turn.turn < length live = omega (arith, c.loop-turn-test.true, c.len-turn-end.ensures, ap vec_len before.live, c.loop-turn.pairs.live.ok.0) in
    let pass = armed_pass c.args.time first c.args.pairs.now.all.items (length first.core.harts) c.loop-turn.machine.state in
    omega (arith, walk_within pass (turn_next live c.loop-turn.turn c.index-place.result.now c.index-place.result.now l c.index-place.ensures before.walk), c.loop-turn.pairs.all.ok.0)

pub arm_pair-requires-clause-harts : goal.arm_pair-requires-clause-harts
arm_pair-requires-clause-harts c =
    let k = c.index_mut.result.now in
    let before = c.loop-turn.invariant in
    let live = c.loop-turn.pairs.live.items in
    let l : c.loop-turn.turn < length live = omega (arith, c.loop-turn-test.true, c.len-turn-end.ensures, ap vec_len before.live, c.loop-turn.pairs.live.ok.0) in
    let h = here live c.loop-turn.turn c.index-place.result.now k l c.index-place.ensures c.index_mut.ensures.value before.walk in
    subst (λ n. HasHarts n k) (sym before.same) (h.holds).harts.0

pub loop-turn-preserved : goal.loop-turn-preserved
loop-turn-preserved c =
    let time = c.args.time in
    let first = c.args.machine.now.state in
    let old = c.args.pairs.now.all.items in
    let harts = length first.core.harts in
    let m = c.loop-turn.machine.state in
    let live = c.loop-turn.pairs.live.items in
    let turn = c.loop-turn.turn in
    let at = c.index-place.result.now in
    let k = c.index_mut.result.now in
    let new = c.arm_pair.new.pair in
    let then = c.arm_pair.new.machine.state in
    let before = c.loop-turn.invariant in
    let l : turn < length live = omega (arith, c.loop-turn-test.true, c.len-turn-end.ensures, ap vec_len before.live, c.loop-turn.pairs.live.ok.0) in
    let h = here live turn at k l c.index-place.ensures c.index_mut.ensures.value before.walk in
    let rest = drop (turn + 1) live in
    let to : then ≡ machine_armed m k.shown = ap (λ (d : InstrumentedData). d.state) c.arm_pair.ensures.machine in
    record {
      walk = walk_on h (AreArmed time first old harts then) then.placer
          (armed_places time first old harts m h.front k h.behind h.holds (length h.front + 1) rest h.places then to) new
          (armed_more time first old harts m h.front k h.behind h.holds new then c.arm_pair.ensures.pair to);
      ready = ap (λ (d : InstrumentedData). d.ready) c.arm_pair.ensures.machine ∙ before.ready;
      live = before.live;
      many = before.many;
      capacity = before.capacity;
      quiet = c.arm_pair.ensures.quiet;
      same = c.arm_pair.ensures.harts ∙ before.same;
      places = c.arm_pair.ensures.places ∙ before.places;
    }

pub returns : goal.returns
returns c =
    let time = c.args.time in
    let first = c.args.machine.now.state in
    let old = c.args.pairs.now.all.items in
    let harts = length first.core.harts in
    let m = c.loop-turn.machine.state in
    let live = c.loop-turn.pairs.live.items in
    let before = c.loop-turn.invariant in
    let l : length live ≤ c.loop-turn.turn = omega (arith, c.loop-turn-test.false, c.len-turn-end.ensures, ap vec_len before.live, c.loop-turn.pairs.live.ok.0) in
    let is = all_armed time first old harts m c.loop-turn.pairs.all.items (walk_end (armed_pass time first old harts m) (turn_last live c.loop-turn.turn l before.walk)) in
    record {
      machine = ap₂ machine_with is.1 before.ready;
      pairs = is.0;
      live = before.live;
      quiet = before.quiet;
      harts = before.same;
      places = before.places;
      many = before.many;
      capacity = before.capacity;
    }
