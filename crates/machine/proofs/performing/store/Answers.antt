use Rattle.std.proofs.Common.{◌∙◌, refl, arith}
use Rattle.tramp_spec.specs.Banks.{bank_len}
use Rattle.machine.specs.Performing.{bench_from}
use Rattle.machine.proofs.Banked.{bank_small, not_stored, is_stored}
use Rattle.machine.proofs.performing.store.Goals as goal

pub returns-then-place-bank-clause-stored : goal.returns-then-place-bank-clause-stored
returns-then-place-bank-clause-stored c = λ regs.
    let l = c.if-place-bank.true in
    let e = c.requires.bank in
    not_stored c.args.value c.args.at c.args.pc.now (bench_from regs c.args.bank.now) (c.doubleword_at-place.ensures.outside bank_len bank_small (omega arith))

pub returns-clause-stored : goal.returns-clause-stored
returns-clause-stored c = λ regs.
    let l = c.if-place-bank.false in
    let e = c.requires.bank in
    let i = c.doubleword_at-place.ensures.inside bank_len bank_small (omega arith) in
    is_stored c.args.value c.args.at c.args.pc.now c.doubleword_at-place.result (bench_from regs c.args.bank.now) i.0 i.1 ∙ rw (c.requires.stop, c.write_bank.ensures) refl
