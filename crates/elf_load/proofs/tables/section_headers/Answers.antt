use Rattle.elf_form.specs.Fields.{section_header_of}
use Rattle.elf_load.proofs.TableLemmas.{table_more}
use Rattle.elf_load.proofs.tables.section_headers.Goals as goal

pub loop-i-preserved : goal.loop-i-preserved
loop-i-preserved c =
    table_more section_header_of 64 c.args.bytes.now (c.args.header.now.section_header_count) c.loop-i.i c.args.header.now.section_headers c.loop-i.headers.items _ _ _ c.in_ok-push.ensures.items c.section_header_at.ensures c.loop-i-test.true c.loop-i.invariant
