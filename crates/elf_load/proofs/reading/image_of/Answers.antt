use Rattle.std.proofs.Common.{ap, ◌∙◌, Ok}
use Rattle.elf_form.specs.Meaning.{Tables}
use Rattle.elf_form.specs.declared.fault.ElfError.TheVariants.{Fault}
use Rattle.elf_load.proofs.MeaningLemmas.{passed, refuses_more, segments_meant, text_meant, symbols_meant, image_meant, image_made}
use Rattle.elf_load.proofs.reading.image_of.Goals as goal

pub returns-in_err-check_segments-clause-meaning : goal.returns-in_err-check_segments-clause-meaning
returns-in_err-check_segments-clause-meaning c =
    let t : Tables = record { entry = c.args.entry; loads = c.args.loads.now; sections = c.args.sections.now } in
    passed _ _ (Fault c.in_err-check_segments.field-0.0) c.from_residual.ensures.1
    (segments_meant c.args.bytes.now t c.requires _ c.in_err-check_segments.ensures.fault)

pub returns-in_err-text-clause-meaning : goal.returns-in_err-text-clause-meaning
returns-in_err-text-clause-meaning c =
    let t : Tables = record { entry = c.args.entry; loads = c.args.loads.now; sections = c.args.sections.now } in
    passed _ _ (Fault c.in_err-text.field-0.0) c.from_residual-in_err-text.ensures.1
    (text_meant c.args.bytes.now t c.requires c.in_ok-check_segments.ensures.fault _ c.in_err-text.ensures.fault)

pub returns-in_err-symbols-clause-meaning : goal.returns-in_err-symbols-clause-meaning
returns-in_err-symbols-clause-meaning c =
    let t : Tables = record { entry = c.args.entry; loads = c.args.loads.now; sections = c.args.sections.now } in
    passed _ _ c.in_err-symbols.field-0.0 c.from_residual-in_err-symbols.ensures.1
    (refuses_more _ (symbols_meant c.args.bytes.now t c.requires c.in_ok-check_segments.ensures.fault c.in_ok-text.ensures.fault) c.in_err-symbols.ensures.fault)

pub returns-clause-meaning : goal.returns-clause-meaning
returns-clause-meaning c =
    let t : Tables = record { entry = c.args.entry; loads = c.args.loads.now; sections = c.args.sections.now } in
    image_meant c.args.bytes.now t c.requires c.in_ok-check_segments.ensures.fault c.in_ok-text.ensures.fault c.in_ok-symbols.ensures.fault
    ∙ ap Ok (image_made c.args.bytes.now t c.in_ok-text.text c.from_vec.result c.from_vec-2.result c.in_ok-text.ensures.range
    (c.from_vec.ensures ∙ c.in_ok-segments.ensures) (c.from_vec-2.ensures ∙ c.in_ok-symbols.ensures.symbols))
