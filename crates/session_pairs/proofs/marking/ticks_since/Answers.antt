use Rattle.std.proofs.Common.{◌≡◌, ◌+◌, ◌-◌, ℕ, ap, arith}
use Rattle.std.specs.List.{range_with_len}
use Rattle.session_spec.specs.Readings.{ticks_between, ticks_of}
use Rattle.session_pairs.proofs.Ticks.{small_at, ticks_first}
use Rattle.session_pairs.proofs.marking.ticks_since.Goals as goal

pub overflow_add-ticks : goal.overflow_add-ticks
overflow_add-ticks c =
    let harts = c.args.machine.now.state.core.harts in
    let small = small_at harts c.loop-hart.hart c.requires.small (omega (arith, c.loop-hart-test.true, c.requires.harts)) in
    let before = c.loop-hart.invariant in
    omega (arith, small, c.ticks_at.ensures, c.saturating_sub-ticks.ensures, before.few, before.ahead, c.loop-hart-test.true, c.requires.harts, c.requires.most)

pub loop-hart-preserved : goal.loop-hart-preserved
loop-hart-preserved c =
    let m = c.args.machine.now.state in
    let marks = c.args.marks.now in
    let hart = c.loop-hart.hart in
    let left = c.args.first + c.args.count - hart in
    let small = small_at m.core.harts hart c.requires.small (omega (arith, c.loop-hart-test.true, c.requires.harts)) in
    let first = ticks_first hart left marks (ticks_of m) (omega (arith, c.loop-hart-test.true)) in
    let fewer : left - 1 ≡ c.args.first + c.args.count - (hart + 1) = omega arith in
    let rest = ap (λ (n : ℕ). ticks_between (range_with_len (hart + 1) n) marks (ticks_of m)) fewer in
    record {
      ahead = omega (arith, c.loop-hart.invariant.ahead);
      coming = omega (arith, first, rest, c.ticks_at.ensures, c.saturating_sub-ticks.ensures, c.loop-hart.invariant.coming);
      few = omega (arith, small, c.ticks_at.ensures, c.saturating_sub-ticks.ensures, c.loop-hart.invariant.few, c.loop-hart.invariant.ahead);
    }
