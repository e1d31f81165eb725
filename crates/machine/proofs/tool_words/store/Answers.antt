use Rattle.std.proofs.Common.{◌∙◌, refl, arith}
use Rattle.rv_exec.specs.Pcs.{pc_address}
use Rattle.tramp_spec.specs.Banks.{bank_len}
use Rattle.machine.specs.Performing.{bench_from}
use Rattle.machine.proofs.Banked.{bank_small, is_stored}
use Rattle.machine.proofs.tool_words.store.Goals as goal

pub returns-clause-goes : goal.returns-clause-goes
returns-clause-goes c = λ _ regs.
    let l = c.if-place-bank.false in
    let e = c.requires.bank in
    let i = c.doubleword_at-place.ensures.inside bank_len bank_small (omega arith) in
    is_stored c.args.value c.args.at (pc_address c.args.pc.now) c.doubleword_at-place.result (bench_from regs c.args.bank.now) i.0 i.1
    ∙ rw (c.write_bank.ensures, c.step.ensures.address) refl
