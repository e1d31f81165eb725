use Rattle.std.proofs.Common.{ℕ, List, Ok, Err, refl, sym, ap, subst, arith}
use Rattle.refusals.specs.declared.fault.Fault.TheVariants.{FileFault}
use Rattle.outside.specs.Outside.{IsBytes}
use Rattle.commands.proofs.FileReadingSteps.{some_longer, short_content, long_content, unread_content}
use Rattle.commands.specs.FileReadings.{FileReading, reads, IsContent}
use Rattle.commands.proofs.files.read_file.Goals as goal

pub returns-in-Ok-clause-content : goal.returns-in-Ok-clause-content
returns-in-Ok-clause-content g c =
    let sees : FileReading = reads (g.F.Files.holds c.args.files.now) (g.F.Files.faults c.args.files.now) (g.F.Files.faults c.read_whole.new.files) in
    subst (λ (bytes : List ℕ). IsContent sees c.args.most c.args.too_long c.args.name.now (Ok bytes)) (sym c.from_vec.ensures)
    (short_content sees c.args.most c.args.too_long c.args.name.now c.in-Ok.bytes.items (c.in-Ok.ensures.whole, subst IsBytes c.deref.ensures.value c.are_bytes.ensures) (omega (arith, c.in-Ok.ensures.short)))

pub returns-in-Err-TooLong-clause-content : goal.returns-in-Err-TooLong-clause-content
returns-in-Err-TooLong-clause-content g c =
    let sees : FileReading = reads (g.F.Files.holds c.args.files.now) (g.F.Files.faults c.args.files.now) (g.F.Files.faults c.read_whole.new.files) in
    long_content sees c.args.most c.args.too_long c.args.name.now (some_longer _ _ (c.in-Err-TooLong.ensures.long (ap Err c.in-Err-TooLong.field-0-is)))

pub returns-in-Err-Outside-clause-content : goal.returns-in-Err-Outside-clause-content
returns-in-Err-Outside-clause-content g c =
    let sees : FileReading = reads (g.F.Files.holds c.args.files.now) (g.F.Files.faults c.args.files.now) (g.F.Files.faults c.read_whole.new.files) in
    subst (λ (unread : List ℕ). IsContent sees c.args.most c.args.too_long c.args.name.now (Err (FileFault unread))) (sym c.in_ok-unread.ensures)
    (unread_content sees c.args.most c.args.too_long c.args.name.now (FileFault c.args.name.now) (refl, c.in-Err-Outside.ensures.cause (ap Err c.in-Err-Outside.field-0-is)))
