use Rattle.std.proofs.Common.{◌≡◌, ◌+◌, ◌-◌, ◌*◌, ◌++◌}
use Rattle.elf_form.specs.Fields.{table, program_header_of}
use Rattle.elf_load.proofs.tables.program_headers.Given as goal

abbrev pub invariant-loop-i : goal.invariant-loop-i
invariant-loop-i l = l.headers.items ++ table program_header_of 56 l.bytes (l.count - l.i) (l.start + l.i * 56) ≡ table program_header_of 56 l.bytes l.count l.start
