use Rattle.std.proofs.Common.{◌+◌, ◌∷◌, arith}
use Rattle.report_csv.specs.Cells.{lines, row}
use Rattle.report_csv.specs.Report.{bin_rows, shown_row, shown_rows}
use Rattle.report_csv.proofs.Steps.{lines_both, next_part}
use Rattle.report_csv.proofs.shown.add_all_shown.Goals as goal

pub loop-number-preserved : goal.loop-number-preserved
loop-number-preserved c =
    let added = c.in_ok-add_shown.ensures in (
      added.between,
      next_part c.args.parts.now c.loop-number.number c.index-parts-number.result c.index-parts-number.result (omega arith) c.index-parts-number.is
          shown_rows (λ n part. lines (row (shown_row n part) ∷ bin_rows n 0 part.bins))
          (λ n part parts. lines_both (row (shown_row n part) ∷ bin_rows n 0 part.bins) (shown_rows (n + 1) parts)) _ _ _ added.text c.loop-number.invariant.1,
    )
