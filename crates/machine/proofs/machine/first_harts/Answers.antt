use Rattle.std.proofs.Common.{◌<◌, ◌∙◌, ap, arith}
use Rattle.std.proofs.lemmas.Grind.{common_steps}
use Rattle.machine.specs.Cores.{first_hart}
use Rattle.machine.proofs.Firsts.{hart_step}
use Rattle.machine.proofs.machine.first_harts.Goals as goal

pub loop-number-preserved : goal.loop-number-preserved
loop-number-preserved c =
    let here : c.loop-number.number < c.args.harts = c.loop-number-test.true in
    record {
      len = grind (arith, common_steps);
      states = hart_step c.loop-number.states.items c.push.new.self.items _ c.args.image.now c.args.harts c.loop-number.number here c.in_ok-push.ensures.items (c.in_ok-first.ensures ∙ ap (λ regs. first_hart (record { pc = c.args.image.now.entry; regs = regs; ticks = 0; stop = _ })) c.first-regs.ensures) ∙ c.loop-number.invariant.states;
    }
