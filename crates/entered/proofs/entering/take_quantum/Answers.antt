use Rattle.std.proofs.Common.{◌≡◌, ◌∙◌, ◌+◌, ◌-◌, ◌<◌, ℕ, ap, arith, subst}
use Rattle.std.specs.Prelude.{◌||◌, replicate}
use Rattle.plain_run.specs.Machines.{Machine}
use Rattle.entered.specs.Steps.{asks_at, state_after}
use Rattle.entered.proofs.Turns.{asked_left, state_left}
use Rattle.entered.proofs.entering.take_quantum.Goals as goal

pub loop-preserved : goal.loop-preserved
loop-preserved c =
    let m : Machine = c.loop.machine in
    let n : Machine = c.take_turn-begins.new.machine in
    let h = c.args.quantum.now.hart in
    let owns = c.args.quantum.now.owns in
    let k = c.loop.counter in
    let test : k < owns = c.loop-test.true in
    let some : 0 < owns - k = omega (arith, test) in
    let one : owns - k - 1 ≡ owns - (k + 1) = omega (arith, test) in
    let e = c.take_turn-begins.ensures.after in
    record {
      program = ap (λ (x : Machine). x.program) e ∙ c.loop.invariant.program;
      budget = ap (λ (x : Machine). x.budget) e ∙ c.loop.invariant.budget;
      harts = c.take_turn-begins.ensures.harts;
      within = omega (arith, test);
      state = subst (λ (left : ℕ). state_after n.program n.budget (replicate left h) n.state ≡ state_after m.program m.budget (replicate (owns - k) h) m.state) one
          (state_left m n h (owns - k) some e) ∙ c.loop.invariant.state;
      asked = subst (λ (left : ℕ). ((c.loop.begins || c.take_turn-begins.result) || asks_at n.program n.budget c.args.address (replicate left h) n.state)
          ≡ (c.loop.begins || asks_at m.program m.budget c.args.address (replicate (owns - k) h) m.state)) one
          (asked_left m n h c.args.address (owns - k) c.loop.begins c.take_turn-begins.result some e c.take_turn-begins.ensures.begins) ∙ c.loop.invariant.asked;
    }
