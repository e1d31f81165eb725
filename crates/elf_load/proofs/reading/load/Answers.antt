use Rattle.std.proofs.Common.{ℕ, ◌<◌, ◌^◌, List, length, ap, ◌∙◌, subst, arith}
use Rattle.std.proofs.lemmas.Result.{MatchResult-weaker}
use Rattle.std.specs.Prelude.{IfOk, Result, Ok, Err}
use Rattle.elf_form.proofs.AcceptedImages.{accepted, good_modules}
use Rattle.outside.specs.Outside.{IsBytes}
use Rattle.elf_form.specs.Accepted.{IsAcceptedImage}
use Rattle.elf_form.specs.Meaning.{meaning_of}
use Rattle.elf_form.specs.Segments.{loads_from}
use Rattle.elf_form.specs.declared.fault.ElfError.{ElfError}
use Rattle.elf_form.specs.declared.fault.ElfError.TheVariants.{Fault}
use Rattle.elf_load.proofs.MeaningLemmas.{passed, header_meant, tables_read}
use Rattle.elf_load.specs.Means.{Means}
use Rattle.pn_types.specs.declared.image.Image.{Image}
use Rattle.elf_load.proofs.reading.load.Goals as goal

pub returns-in_err-header-clause-meaning : goal.returns-in_err-header-clause-meaning
returns-in_err-header-clause-meaning c =
    passed _ _ (Fault c.in_err-header.field-0.0) c.from_residual.ensures.1 (header_meant c.args.bytes.now _ c.in_err-header.ensures.fault)

pub returns-clause-meaning : goal.returns-clause-meaning
returns-clause-meaning c =
    let loads = c.deref-2.ensures.value ∙ c.in_ok-loads.ensures ∙ ap (loads_from 0) (c.deref.ensures.value ∙ c.in_ok-program_headers.ensures.headers) in
    let sections = c.deref-3.ensures.value ∙ c.in_ok-sections.ensures in
    subst (Means c.image_of.result)
    (tables_read c.args.bytes.now c.in_ok-header.header _ _ c.in_ok-header.ensures.header loads sections) c.image_of.ensures.meaning

accepted_by : (b : List ℕ) (r : Result Image ElfError) → IsBytes b → Means r (meaning_of b) → IfOk r (λ image. length image.symbols < 2 ^ 32) → IfOk r IsAcceptedImage
accepted_by b (Ok image) bytes meant few = accepted b image bytes meant few
accepted_by b (Err e) bytes meant few = tt

pub returns-clause-accepted : goal.returns-clause-accepted
returns-clause-accepted c =
    accepted_by c.args.bytes.now c.image_of.result (λ i. omega (arith, c.type_inv.bytes i)) (returns-clause-meaning c) c.image_of.ensures.few

pub returns-clause-modules : goal.returns-clause-modules
returns-clause-modules c = MatchResult-weaker c.image_of.result (returns-clause-accepted c) good_modules (λ fault _. tt)
