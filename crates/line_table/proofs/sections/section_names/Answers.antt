use Rattle.std.proofs.Common.{◌≡◌, ◌+◌, ◌*◌, ◌<◌, ◌≤◌, Some, option_map, sym, ap, ◌∙◌, arith}
use Rattle.elf_form.specs.Fields.{field, header_of, section_header_of}
use Rattle.elf_form.specs.Symbols.{section_bytes}
use Rattle.elf_form.specs.declared.header.Header.{Header}
use Rattle.line_table.specs.Sections.{named_header_of}
use Rattle.line_table.specs.declared.sections.NamedHeader.{NamedHeader}
use Rattle.line_table.proofs.SectionLemmas.{get_within, get_past}
use Rattle.line_table.proofs.sections.section_names.Goals as goal

pub returns-then-index-header : goal.returns-then-index-header
returns-then-index-header c =
    let b = c.args.bytes.now in
    let count : c.args.header.now.section_header_count ≡ (header_of b).section_header_count = ap (λ (h : Header). h.section_header_count) c.requires.header in
    let past : (header_of b).section_header_count ≤ field 2 b 62 = omega (arith, count, c.half-index.ensures, c.if-index-header.true) in
    sym (ap (option_map (λ (s : NamedHeader). section_bytes b s.header)) (get_past named_header_of 64 b (header_of b).section_header_count (header_of b).section_headers (field 2 b 62) past))

pub returns : goal.returns
returns c =
    let b = c.args.bytes.now in
    let count : c.args.header.now.section_header_count ≡ (header_of b).section_header_count = ap (λ (h : Header). h.section_header_count) c.requires.header in
    let start : c.args.header.now.section_headers ≡ (header_of b).section_headers = ap (λ (h : Header). h.section_headers) c.requires.header in
    let within : field 2 b 62 < (header_of b).section_header_count = omega (arith, count, c.half-index.ensures, c.if-index-header.false) in
    let at : c.args.header.now.section_headers + c.half-index.result * 64 ≡ (header_of b).section_headers + field 2 b 62 * 64 = omega (arith, start, c.half-index.ensures) in
    let named : c.section_header_at.result ≡ section_header_of b ((header_of b).section_headers + field 2 b 62 * 64) = c.section_header_at.ensures ∙ ap (section_header_of b) at in
    ap (λ bytes. Some bytes) (c.section_bytes.ensures ∙ ap (section_bytes b) named)
    ∙ sym (ap (option_map (λ (s : NamedHeader). section_bytes b s.header)) (get_within named_header_of 64 b (header_of b).section_header_count (header_of b).section_headers (field 2 b 62) within))
