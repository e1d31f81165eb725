use Rattle.std.proofs.Common.{◌≡◌, ◌+◌, ◌-◌, ◌*◌, find}
use Rattle.elf_form.specs.Fields.{table}
use Rattle.line_table.specs.Sections.{named_header_of, named_headers_of, is_named}
use Rattle.line_table.proofs.sections.find_named.Given as goal

-- the first of those that are left is the first of all
abbrev pub invariant-loop-i : goal.invariant-loop-i
invariant-loop-i l =
    find (is_named l.names l.name) (table named_header_of 64 l.bytes (l.count - l.i) (l.start + l.i * 64))
    ≡ find (is_named l.names l.name) (named_headers_of l.bytes)
