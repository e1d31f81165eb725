use Rattle.std.proofs.Common.{◌≡◌, ◌+◌, ◌*◌, false, sym, ap, ◌∙◌}
use Rattle.line_table.specs.Sections.{named_header_of, is_named}
use Rattle.line_table.proofs.SectionLemmas.{find_later}
use Rattle.line_table.proofs.sections.find_named.Goals as goal

pub loop-i-preserved : goal.loop-i-preserved
loop-i-preserved c =
    let b = c.args.bytes.now in
    let h = c.args.header.now in
    let test = is_named c.args.names.now c.args.name.now in
    let fails : test (named_header_of b (h.section_headers + c.loop-i.i * 64)) ≡ false =
    ap test (sym c.named_header_at-section.ensures) ∙ sym c.is_named.ensures ∙ c.if-is_named.false in
    find_later named_header_of 64 b test h.section_header_count c.loop-i.i h.section_headers _ c.loop-i-test.true fails c.loop-i.invariant
