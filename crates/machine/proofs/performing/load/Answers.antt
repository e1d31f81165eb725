use Rattle.std.proofs.Common.{◌∙◌, refl, arith}
use Rattle.tramp_spec.specs.Banks.{bank_len}
use Rattle.machine.specs.Performing.{bench_from}
use Rattle.machine.proofs.Banked.{bank_small, not_loaded, is_loaded}
use Rattle.machine.proofs.performing.load.Goals as goal

pub returns-then-place-bank-clause-loaded : goal.returns-then-place-bank-clause-loaded
returns-then-place-bank-clause-loaded c =
    let l = c.if-place-bank.true in
    let e = c.requires.bank in
    not_loaded c.args.rd c.args.at c.args.ticks c.args.pc.now (bench_from c.args.regs.now c.args.bank.now) (c.doubleword_at-place.ensures.outside bank_len bank_small (omega arith))

pub returns-clause-loaded : goal.returns-clause-loaded
returns-clause-loaded c =
    let l = c.if-place-bank.false in
    let e = c.requires.bank in
    let i = c.doubleword_at-place.ensures.inside bank_len bank_small (omega arith) in
    is_loaded c.args.rd c.args.at c.args.ticks c.args.pc.now c.doubleword_at-place.result (bench_from c.args.regs.now c.args.bank.now) i.0 i.1 ∙ rw (c.requires.stop, c.set.ensures, c.read_bank.ensures) refl
