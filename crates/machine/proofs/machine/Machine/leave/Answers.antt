use Rattle.std.proofs.Common.{◌≡◌, ◌+◌, ◌-◌, List, suc, ◌∙◌, sym, ap, subst, length, arith, inl, inr}
use Rattle.machine.specs.Events.{Event}
use Rattle.machine.specs.Replays.{owns, replay}
use Rattle.machine.specs.States.{Machine, leaving}
use Rattle.machine.specs.Turns.{turn}
use Rattle.machine.proofs.Settled.{Counted, none_left, rest_left, counts_left, is_count, one_more, turn_len}
use Rattle.machine.proofs.machine.Machine.leave.Goals.{then-turn, else-turn}
use Rattle.machine.proofs.machine.Machine.leave.Goals as goal

pub returns-then-is_out-clause-turns : goal.returns-then-is_out-clause-turns
returns-then-is_out-clause-turns c =
    let d = c.loop-turns.self.core in
    let nothing = none_left (c.args.most - c.loop-turns.turns) c.args.hart d (sym c.is_out.ensures ∙ c.if-is_out.true) in
    let counted = c.loop-turns.invariant.counted.taken in
    let zero = ap (λ (es : List Event). length es) nothing in
    omega arith

pub returns-then-is_out-clause-ticks : goal.returns-then-is_out-clause-ticks
returns-then-is_out-clause-ticks c =
    let d = c.loop-turns.self.core in
    let nothing = none_left (c.args.most - c.loop-turns.turns) c.args.hart d (sym c.is_out.ensures ∙ c.if-is_out.true) in
    let counted = c.loop-turns.invariant.counted.ticked in
    let none = ap (λ (es : List Event). length (owns es d)) nothing in
    omega arith

pub loop-turns-preserved : goal.loop-turns-preserved
loop-turns-preserved c =
    let old = c.args.self.now.core in
    let d = c.loop-turns.self.core in
    let h = c.args.hart in
    let n = c.args.most in
    let k = n - (c.loop-turns.turns + 1) in
    let goes = c.loop-turns-test.true in
    let one : n - c.loop-turns.turns ≡ suc k = omega arith in
    let out = sym c.is_out.ensures ∙ c.if-is_out.false in
    let new = c.turn.ensures.turned in
    let rest : replay (leaving k h (turn d h)) (turn d h) ≡ replay (leaving n h old) old = rest_left (n - c.loop-turns.turns) k h d one out ∙ c.loop-turns.invariant.rest in
    let is = is_count c.loop-turns.ticks c.if-turn.ticks c.turn.result (elim c.if-turn.branch [ then-turn w ↦ inl (w.if-turn.true, w.ticks-is) | else-turn w ↦ inr (w.if-turn.false, w.ticks-is) ]) in
    let counted = counts_left (n - c.loop-turns.turns) k h c.loop-turns.turns c.loop-turns.ticks c.if-turn.ticks (leaving n h old) old d c.turn.result one out c.turn.ensures.tick is c.loop-turns.invariant.counted in
    record {
      rest = subst (λ (m : Machine). replay (leaving k h m.core) m.core ≡ replay (leaving n h old) old) (sym new) rest;
      room = ap (λ (m : Machine). m.room) new ∙ c.loop-turns.invariant.room;
      many = ap (λ (m : Machine). length m.core.harts) new ∙ (turn_len d h ∙ c.loop-turns.invariant.many);
      counted = subst (λ (m : Machine). Counted (c.loop-turns.turns + 1) c.if-turn.ticks (leaving n h old) old (leaving k h m.core) m.core) (sym new) counted;
      bound = one_more c.loop-turns.ticks c.if-turn.ticks c.loop-turns.turns c.turn.result is c.loop-turns.invariant.bound;
    }
