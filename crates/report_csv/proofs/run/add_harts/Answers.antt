use Rattle.std.proofs.Common.{arith, get_or, refl}
use Rattle.pn_types.specs.declared.stop.StopText.TheVariants.{Exit}
use Rattle.report.specs.declared.parts.HartPart.{HartPart}
use Rattle.report_csv.specs.Cells.{line, row}
use Rattle.report_csv.specs.Report.{hart_row, hart_rows}
use Rattle.report_csv.proofs.Steps.{next_part}
use Rattle.report_csv.proofs.run.add_harts.Goals as goal

pub loop-number-preserved : goal.loop-number-preserved
loop-number-preserved c =
    let added = c.in_ok-add_hart.ensures in
    let parts = c.args.parts.now in
    let n = c.loop-number.number in
    let none : HartPart = record { ticks = 0; stop = Exit 0; pc = 0 } in (
      added.between,
      next_part parts n (get_or parts n none) none (omega arith) refl
          hart_rows (λ n part. line (row (hart_row n part))) (λ n part parts. refl) _ _ _ added.text c.loop-number.invariant.1,
    )
