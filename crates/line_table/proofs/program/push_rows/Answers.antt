use Rattle.std.proofs.Common.{sym, subst}
use Rattle.line_table.specs.Programs.{program_rows}
use Rattle.line_table.specs.Checks.{with_front}
use Rattle.line_table.specs.declared.registers.Registers.{Registers}
use Rattle.line_table.proofs.RowLemmas.{Left, left_first, left_more}
use Rattle.line_table.proofs.program.push_rows.Goals as goal

pub loop-at-init : goal.loop-at-init
loop-at-init c =
    let h = c.args.header.now in
    let b = c.args.bytes.now in
    let rows = c.args.rows.now.items in
    let Begins : Registers → Type 0 = λ r. Left rows h b r h.program (with_front rows (program_rows h b)) in
    subst Begins (sym c.first-registers.ensures) (left_first rows h b)

pub loop-at-preserved : goal.loop-at-preserved
loop-at-preserved c =
    left_more c.loop-at.rows.items c.push_row.new.rows.items c.args.header.now c.args.bytes.now c.loop-at.registers c.loop-at.at _ c.in_ok-step.step
    c.loop-at-test.true (sym c.in_ok-step.ensures.exact) c.in_ok-step.ensures.within.0 c.in_ok-push_row.ensures c.loop-at.invariant
