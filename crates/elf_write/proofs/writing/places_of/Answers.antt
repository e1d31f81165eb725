use Rattle.std.proofs.Common.{◌≡◌, length, ap, arith, ◌∙◌}
use Rattle.elf_write.specs.Fields.{padded}
use Rattle.elf_write.specs.Symbols.{string_table}
use Rattle.elf_write.proofs.Lengths.{padded_within}
use Rattle.elf_write.proofs.Entries.{symbols_within}
use Rattle.elf_write.proofs.writing.places_of.Goals as goal

pub overflow_add-result : goal.overflow_add-result
overflow_add-result c =
    let strings : c.padded_len.result ≡ length (padded (string_table c.args.image.now.symbols)) = c.padded_len.ensures ∙ ap (λ b. length (padded b)) (c.deref.ensures.value ∙ c.requires.strings) in
    let few = ap (λ ss. length ss) c.as_slice-segments.ensures in
    omega (arith, strings, few, (padded_within (string_table c.args.image.now.symbols)).1, symbols_within c.args.image.now.symbols, ap length c.requires.symbols)
