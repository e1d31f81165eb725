use Rattle.std.proofs.Common.{arith}
use Rattle.elf_form.specs.Fields.{program_header_of}
use Rattle.elf_load.proofs.TableLemmas.{table_more, length_all}
use Rattle.elf_load.proofs.tables.program_headers.Goals as goal

pub loop-i-preserved : goal.loop-i-preserved
loop-i-preserved c =
    table_more program_header_of 56 c.args.bytes.now (c.args.header.now.program_header_count) c.loop-i.i c.args.header.now.program_headers c.loop-i.headers.items _ _ _ c.in_ok-push.ensures.items c.program_header_at.ensures c.loop-i-test.true c.loop-i.invariant

pub returns-clause-few : goal.returns-clause-few
returns-clause-few c =
    let count = length_all program_header_of 56 c.args.bytes.now c.args.header.now.program_header_count c.loop-i.i c.args.header.now.program_headers c.loop-i.headers.items c.loop-i-test.false c.loop-i.invariant in
    omega (arith, count, c.fits-header)
