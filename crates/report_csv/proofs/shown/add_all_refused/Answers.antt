use Rattle.std.proofs.Common.{arith, refl}
use Rattle.report_csv.specs.Cells.{line, row}
use Rattle.report_csv.specs.Report.{refused_row, refused_rows}
use Rattle.report_csv.proofs.Steps.{next_part}
use Rattle.report_csv.proofs.shown.add_all_refused.Goals as goal

pub loop-number-preserved : goal.loop-number-preserved
loop-number-preserved c =
    let added = c.in_ok-add_refused.ensures in (
      added.between,
      next_part c.args.parts.now c.loop-number.number c.index-parts-number.result c.index-parts-number.result (omega arith) c.index-parts-number.is
          refused_rows (λ n part. line (row (refused_row n part))) (λ n part parts. refl) _ _ _ added.text c.loop-number.invariant.1,
    )
