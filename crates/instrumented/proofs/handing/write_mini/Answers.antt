use Rattle.std.proofs.Common.{◌∙◌, ◌-◌, ap, sym, subst}
use Rattle.machine.specs.Effects.{with_block}
use Rattle.machine.specs.Events.{MayWrite}
use Rattle.instrumented.proofs.Leading.{led_is}
use Rattle.instrumented.proofs.handing.write_mini.Goals as goal

pub write-requires-clause-may : goal.write-requires-clause-may
write-requires-clause-may c =
    let may = c.requires.may in
    let e = c.set_next.ensures in
    let is = led_is c.args.machine.now.core c.args.block c.set_next.new.block c.head-next.result may.some may.base c.head-next.ensures e.point e.at e.base e.words in
    subst (MayWrite c.args.machine.now.core) (sym is) may.may

pub returns : goal.returns
returns c =
    let may = c.requires.may in
    let e = c.set_next.ensures in
    let is = led_is c.args.machine.now.core c.args.block c.set_next.new.block c.head-next.result may.some may.base c.head-next.ensures e.point e.at e.base e.words in
    c.write.ensures ∙ ap (λ b. record { core = with_block b c.args.machine.now.core; room = c.args.machine.now.room - 1 }) is
