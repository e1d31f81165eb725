use Rattle.std.proofs.Common.{◌<◌, subst}
use Rattle.std.specs.List.{AllByRecursion}
use Rattle.instrumented.proofs.Beginning.{begins}
use Rattle.instrumented.proofs.Narrow.{narrow}
use Rattle.instrumented.proofs.instrumented_machine.InstrumentedMachine.new.Goals as goal

pub invariant_of-result : goal.invariant_of-result
invariant_of-result c =
    let image = c.args.image.now in
    let bytes = subst (λ bytes. AllByRecursion (λ b. b < 256) bytes) c.text_bytes.ensures c.have_8_bits.ensures in
    begins image c.args.harts c.args.budget c.args.instruments c.in_ok-new.field-0 c.in_ok-new-2.field-0
    (record { image = c.requires.image; narrow = narrow _ bytes; unscratched = c.requires.unscratched })
    c.in_ok-new.ensures c.in_ok-new-2.ensures

pub returns-clause-program : goal.returns-clause-program
returns-clause-program c =
    let bytes = subst (λ bytes. AllByRecursion (λ b. b < 256) bytes) c.text_bytes.ensures c.have_8_bits.ensures in
    record { image = c.requires.image; narrow = narrow _ bytes; unscratched = c.requires.unscratched }
