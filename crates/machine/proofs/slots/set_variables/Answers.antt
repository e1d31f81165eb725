use Rattle.std.proofs.Common.{ℕ, List, ◌∙◌, sym, ap, length, drop, arith}
use Rattle.pn_types.specs.declared.plan.Var.{Var}
use Rattle.machine.proofs.SlotLists.{least, none_left}
use Rattle.machine.proofs.slots.set_variables.Goals as goal

pub returns : goal.returns
returns c =
    let i = c.loop-i.i in
    let past = c.loop-i-test.false in
    let end = c.min-i-end.ensures in
    let slots = ap (λ (xs : List ℕ). length xs) c.as_slice-slots.ensures in
    let vars = ap (λ (xs : List Var). length xs) c.as_slice-vars.ensures in
    sym (none_left c.args.instrument.now.slots c.args.instrument.now.vars (drop i c.args.values.now.values) i c.args.ticks c.loop-i.bank (least (length c.args.instrument.now.slots) (length c.args.instrument.now.vars) i (omega arith))) ∙ c.loop-i.invariant
