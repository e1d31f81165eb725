use Rattle.std.proofs.Common.{◌≡◌, ◌+◌, ◌-◌, ◌*◌, ◌++◌}
use Rattle.elf_form.specs.Fields.{table, section_header_of}
use Rattle.elf_load.proofs.tables.section_headers.Given as goal

abbrev pub invariant-loop-i : goal.invariant-loop-i
invariant-loop-i l = l.headers.items ++ table section_header_of 64 l.bytes (l.count - l.i) (l.start + l.i * 64) ≡ table section_header_of 64 l.bytes l.count l.start
